-- A sink in memory: this project's own.
use Rattle.std.specs.Prelude.{ℕ, List}
use Rattle.rep_io.specs.Calls.{Calls}

pub record Tank : Type 0 where
  -- the bytes that it has taken
  pub bytes : List ℕ
  -- how many bytes it takes at most
  pub room : ℕ
  pub calls : Calls
