-- The clock of a recorder in a world: this project's own.
use Rattle.std.specs.Prelude.{ℕ, zero, suc, List, [], ◌∷◌}

-- the number, so many times
abbrev pub times : ℕ → ℕ → List ℕ
times zero n = []
times (suc count) n = n ∷ times count n
