-- The absences of a link in a period, as an AEJ lists them (records 07 of Portaria MTP 671/2021, annex VI). The order is
-- this project's own. Places are those of the plan's lists, counted from 0.
use Rattle.std.specs.Prelude.{◌≡◌, ◌<◌, ◌≤◌, ◌⊎◌, ℕ, List, slice_get, Some, All, AllPairs, Contains}
use Rattle.tr_plan.specs.declared.absence.Absence.{Absence}
use Rattle.tr_plan.specs.declared.link.Link.{Link}
use Rattle.tr_plan.specs.declared.plan.Plan.{Plan}

-- the absence is of the link with the id, and its day lies in the period; the first and the last day belong to it
pub record IsAbsenceOf (id from to : ℕ) (absence : Absence) : Type 0 where
  pub of_link : absence.link ≡ id
  pub begins : from ≤ absence.date
  pub ends : absence.date ≤ to

-- one of the link stands at the place
pub record IsAbsenceAt (plan : Plan) (link from to place : ℕ) : Type 0 where
  pub holder : Link
  pub absence : Absence
  pub holder_there : slice_get plan.links link ≡ Some holder
  pub absence_there : slice_get plan.absences place ≡ Some absence
  pub is : IsAbsenceOf holder.id from to absence

-- the one place has the earlier day, or both have one day and it stands first in the plan
abbrev pub IsEarlier : List Absence → ℕ → ℕ → Type 0
IsEarlier absences place other =
    (one two : Absence) → slice_get absences place ≡ Some one → slice_get absences other ≡ Some two
    → (one.date < two.date) ⊎ ((one.date ≡ two.date) × (place < other))

-- the places of the link's absences in the period: all of them, each once, by day and then by place
pub record AreAbsencesOf (plan : Plan) (link from to : ℕ) (places : List ℕ) : Type 0 where
  pub only : All (IsAbsenceAt plan link from to) places
  pub all : (place : ℕ) → IsAbsenceAt plan link from to place → Contains places place
  pub in_order : AllPairs (IsEarlier plan.absences) places
