-- The readings of a clock in memory: this project's own.
use Rattle.std.specs.Prelude.{ℕ, ◌-◌, min, List, length, map, slice_index}
use Rattle.std.specs.List.{range_with_len}
use Rattle.rep_io.specs.Calls.{Calls}

pub record Hands : Type 0 where
  -- the readings that it gives in order, before it repeats the last
  pub script : List ℕ
  -- how many it has given
  pub given : ℕ
  pub calls : Calls

-- the reading of this number, counted from 0
abbrev pub reading_at : List ℕ → ℕ → ℕ
reading_at script n = slice_index script (min (length script - 1) n)

-- the first readings
abbrev pub readings_of : List ℕ → ℕ → List ℕ
readings_of script given = map (reading_at script) (range_with_len 0 given)
