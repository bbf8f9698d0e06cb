-- The absences of a link in a period, each with its day, as the code finds them: by their places.
use Rattle.std.specs.Prelude.{◌≡◌, ◌<◌, ℕ, List, All, AllPairs, Any}
use Rattle.tr_plan.specs.declared.plan.Plan.{Plan}
use Rattle.tr_bank.specs.Absences.{IsAbsenceAt}
use Rattle.tr_bank.specs.declared.listing.Dated.{Dated}

-- an absence of the link in the period, with its day
pub record IsDated (plan : Plan) (link from to : ℕ) (dated : Dated) : Type 0 where
  pub absence : IsAbsenceAt plan link from to dated.place
  pub day : dated.day ≡ absence.absence.date

pub record AreDated (plan : Plan) (link from to : ℕ) (dated : List Dated) : Type 0 where
  pub only : All (IsDated plan link from to) dated
  pub all : (place : ℕ) → IsAbsenceAt plan link from to place → Any (λ one. one.place ≡ place) dated
  pub rising : AllPairs (λ one other. one.place < other.place) dated
