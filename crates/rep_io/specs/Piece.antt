-- How a piece of a text lies in its cells: this project's own.
use Rattle.std.specs.Prelude.{◌≡◌, ℕ, ◌-◌, ◌≤◌, List, ◌++◌, length, take, drop, replicate}
use Rattle.std.proofs.Common.{arith, length-take, take-append-drop}

-- the cells are 512, and those behind the bytes of the piece are zero
pub record IsPadded (cells : List ℕ) (len : ℕ) : Type 0 where
  pub all : length cells ≡ 512
  pub within : len ≤ 512
  pub zeros : drop len cells ≡ replicate (512 - len) 0

pub length_of-cells : (cells : List ℕ) (len : ℕ) → IsPadded cells len → length (take len cells) ≡ len
length_of-cells cells len padded = simp length-take (omega arith)

pub cells_of-bytes : (cells : List ℕ) (len : ℕ) → IsPadded cells len
    → take len cells ++ replicate (512 - length (take len cells)) 0 ≡ cells
cells_of-bytes cells len padded =
    rw (length_of-cells cells len padded, ← padded.zeros) (take-append-drop len cells)
