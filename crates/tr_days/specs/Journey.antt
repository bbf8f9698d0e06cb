-- Marks with the day on which they count. The rules of the day are this project's own.
use Rattle.std.specs.Prelude.{ℕ}
use Rattle.rep_fields.specs.Moment.{Moment}
use Rattle.tr_days.specs.declared.root.Root.{Root}

-- a mark, and the day on which it counts
pub record JourneyMark : Type 0 where
  pub at : Moment
  pub day : ℕ
  pub from : Root
