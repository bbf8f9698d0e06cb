-- The times of a contractual schedule.
use Rattle.std.specs.Prelude.{◌≡◌, ℕ, ◌-◌, ◌%◌, ◌≤◌, List, ◌++◌, length, take, drop, replicate, All}
use Rattle.std.proofs.Common.{arith, length-take, take-append-drop}
use Rattle.rep_fields.specs.Moment.{IsMinuteOfDay}

-- 1 to 10 pairs of entry and exit, each a minute of the day
pub record IsTimes (times : List ℕ) : Type 0 where
  pub some : 2 ≤ length times
  pub few : length times ≤ 20
  pub paired : length times % 2 ≡ 0
  pub minutes : All IsMinuteOfDay times

-- the times stand in the first cells, and the others are zero
pub record IsInCells (cells : List ℕ) (len : ℕ) : Type 0 where
  pub all : length cells ≡ 20
  pub within : len ≤ 20
  pub zeros : drop len cells ≡ replicate (20 - len) 0
  pub times : IsTimes (take len cells)

pub length_of-cells : (cells : List ℕ) (len : ℕ) → IsInCells cells len → length (take len cells) ≡ len
length_of-cells cells len there =
    let all = there.all in let within = there.within in simp length-take (omega arith)

pub cells_of-times : (cells : List ℕ) (len : ℕ) → IsInCells cells len
    → take len cells ++ replicate (20 - length (take len cells)) 0 ≡ cells
cells_of-times cells len there =
    rw (length_of-cells cells len there, ← there.zeros) (take-append-drop len cells)
