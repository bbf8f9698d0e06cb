-- The recording days of a history, as a store keeps them: this project's own.
use Rattle.std.specs.Prelude.{◌≡◌, ℕ, List}
use Rattle.rep_core.specs.Core.{Kept}
use Rattle.rep_core.specs.History.{days_of}

pub record Days : Type 0 where
  pub days : List ℕ
  -- for how many more there is room
  pub room : ℕ

-- they are those of the core's history
pub record AreDaysOf (core : Kept) (days : Days) : Type 0 where
  pub same : days.days ≡ days_of core.entries
