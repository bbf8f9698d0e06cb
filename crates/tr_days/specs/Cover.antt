-- Which link of a plan covers a worker's mark, and the day on which the mark counts: this project's own rules for the
-- treatment of clockings (Portaria MTP 671/2021, annex VI).
use Rattle.std.specs.Prelude.{ℕ, Bool, ◌&&◌, ◌==◌, nat_le, List, Option, Some, None, position, find}
use Rattle.rep_fields.specs.Moment.{Moment, day_of}
use Rattle.tr_plan.specs.Link.{journey_day}
use Rattle.tr_plan.specs.declared.link.Link.{Link}

-- the day lies in the link's dates
abbrev pub is_in_dates : Link → ℕ → Bool
is_in_dates link day = nat_le link.since day && nat_le day link.until

-- the link is the worker's, and the mark's day under it lies in its dates
abbrev pub covers : Link → ℕ → Moment → Bool
covers link cpf at = (link.cpf == cpf) && is_in_dates link (journey_day link at)

-- the place of the mark's covering link: of those that cover it the first in the plan
abbrev pub cover_of : List Link → ℕ → Moment → Option ℕ
cover_of links cpf at = position (λ link. covers link cpf at) links

-- the mark's day under a link; the day that its stamp shows where there is none
abbrev pub day_under : Option Link → Moment → ℕ
day_under (Some link) at = journey_day link at
day_under None at = day_of at

-- the journey day of a worker's mark: its day under its covering link
abbrev pub journey_of : List Link → ℕ → Moment → ℕ
journey_of links cpf at = day_under (find (λ link. covers link cpf at) links) at
