-- A source in memory: this project's own.
use Rattle.std.specs.Prelude.{ℕ, ◌≤◌, List, [], ◌∷◌, length, drop, map, Vec}
use Rattle.std.specs.declared.alloc.Global.{Global}
use Rattle.rep_io.specs.Calls.{Calls}

pub record Tap : Type 0 where
  -- what is left of its pieces, in order
  pub pieces : List (List ℕ)
  pub calls : Calls

-- the pieces as lists
abbrev pub texts_of : List (Vec ℕ Global) → List (List ℕ)
texts_of pieces = map (λ piece. piece.items) pieces

-- the pieces without so many bytes of the first
abbrev pub drop_first : ℕ → List (List ℕ) → List (List ℕ)
drop_first count [] = []
drop_first count (piece ∷ pieces) = drop count piece ∷ pieces

-- the pieces from the first that isn't used up
abbrev pub from_unused : List (List ℕ) → List (List ℕ)
from_unused [] = []
from_unused ([] ∷ pieces) = from_unused pieces
from_unused ((byte ∷ bytes) ∷ pieces) = (byte ∷ bytes) ∷ pieces

-- the first piece, or nothing
abbrev pub first_of : List (List ℕ) → List ℕ
first_of [] = []
first_of (piece ∷ pieces) = piece

-- what is left from this byte of this piece on
abbrev pub pieces_from : List (Vec ℕ Global) → ℕ → ℕ → List (List ℕ)
pieces_from pieces piece at = drop_first at (drop piece (texts_of pieces))

-- so many bytes of the first piece are used up, or no piece is left
pub record IsPlace (pieces : List (Vec ℕ Global)) (piece at : ℕ) : Type 0 where
  pub piece_within : piece ≤ length pieces
  pub at_within : at ≤ length (first_of (drop piece (texts_of pieces)))
