-- Numbers in as many decimal digits as they need, without zeros in front: this project's own lane files, replies and
-- fault lines, and the AEJ.
use Rattle.std.specs.Prelude.{ℕ, ◌^◌, ◌<◌}

-- a number of 64 bits
abbrev pub IsNumber : ℕ → Type 0
IsNumber n = n < 2 ^ 64
