-- The parts of a search for the covering link.
use Rattle.std.specs.Prelude.{◌≡◌, ℕ, ◌<◌, min, true, List, length, slice_index_or, Option, Some, None}
use Rattle.rep_fields.specs.Moment.{Moment}
use Rattle.tr_plan.specs.Link.{journey_day}
use Rattle.tr_plan.specs.declared.link.Link.{Link}
use Rattle.tr_days.specs.Cover.{covers}

-- the link at the place covers the mark, which counts under it on the day
pub record IsCoveredOn (links : List Link) (cpf : ℕ) (at : Moment) (day place : ℕ) : Type 0 where
  pub within : place < length links
  pub covers : (link : Link) → covers (slice_index_or links place link) cpf at ≡ true
  pub counts : (link : Link) → journey_day (slice_index_or links place link) at ≡ day

-- the lower of two places
abbrev pub lower_of : Option ℕ → Option ℕ → Option ℕ
lower_of (Some a) (Some b) = Some (min a b)
lower_of (Some a) None = Some a
lower_of None (Some b) = Some b
lower_of None None = None
