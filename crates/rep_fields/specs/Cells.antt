-- How a text lies in its cells: this project's own.
use Rattle.std.specs.Prelude.{◌≡◌, ℕ, ◌-◌, ◌≤◌, List, ◌++◌, length, take, drop, replicate}
use Rattle.std.proofs.Common.{arith, length-take, take-append-drop}
use Rattle.rep_fields.specs.Latin.{IsText}

-- the text stands in the first cells, and the others are zero
pub record IsInCells (most : ℕ) (cells : List ℕ) (len : ℕ) : Type 0 where
  pub all : length cells ≡ most
  pub within : len ≤ most
  pub zeros : drop len cells ≡ replicate (most - len) 0
  pub text : IsText most (take len cells)

pub length_of-cells : (most : ℕ) (cells : List ℕ) (len : ℕ) → IsInCells most cells len → length (take len cells) ≡ len
length_of-cells most cells len there =
    let all = there.all in let within = there.within in simp length-take (omega arith)

pub cells_of-text : (most : ℕ) (cells : List ℕ) (len : ℕ) → IsInCells most cells len
    → take len cells ++ replicate (most - length (take len cells)) 0 ≡ cells
cells_of-text most cells len there =
    rw (length_of-cells most cells len there, ← there.zeros) (take-append-drop len cells)
