-- What a call that reads a whole source takes of it: this project's own.
use Rattle.std.specs.Prelude.{◌≡◌, ℕ, ◌+◌, ◌<◌, ◌≤◌, Bool, false, IsTrue, List, [], ◌++◌, length, Option}
use Rattle.std.specs.Io.KnownBytes.{prepend_known, IsAtEnd}
use Rattle.rep_io.specs.Lines.{longest_text}

-- so many bytes were taken, which are a front of those that were left
abbrev pub Takes : Option (List ℕ) → Option (List ℕ) → ℕ → Type 0
Takes old new count = (bytes : List ℕ) × (length bytes ≡ count) × (old ≡ prepend_known bytes new)

-- these are all the bytes that were left, and as many as a text may have
pub record ReadsWhole (old new : Option (List ℕ)) (bytes : List ℕ) : Type 0 where
  pub all : old ≡ prepend_known bytes new
  pub at_end : IsAtEnd new
  pub in_room : length bytes ≤ longest_text

-- What one read gave was appended, one byte more at most than a text may have. Nothing came only at the end.
pub record AppendsRead (left left' : Option (List ℕ)) (old new : List ℕ) (came : Bool) : Type 0 where
  pub bytes : List ℕ
  pub appended : new ≡ old ++ bytes
  pub taken : left ≡ prepend_known bytes left'
  pub in_room : length new ≤ longest_text + 1
  pub some : IsTrue came → 0 < length bytes
  pub none : came ≡ false → (bytes ≡ []) × IsAtEnd left'
