-- The window through which a cutter sees its source: this project's own.
use Rattle.std.specs.Prelude.{◌≡◌, ℕ, ◌≤◌, List, ◌++◌, length, MatchResult, Result, Option}
use Rattle.std.specs.Io.KnownBytes.{prepend_known, IsAtEnd}

-- the bytes held lie in the cells
pub record IsWithin (cells : List ℕ) (start end : ℕ) : Type 0 where
  pub all : length cells ≡ 4096
  pub ordered : start ≤ end
  pub within : end ≤ 4096

-- A fill that answers n has put n bytes of the source, at most so many, behind those that were held. It answers 0
-- only at the source's end. One that failed has changed nothing.
abbrev pub Fills : {E : Type 0} → ℕ → Option (List ℕ) → Option (List ℕ) → Result ℕ E → List ℕ → List ℕ → Type 0
Fills most before now result old new =
    MatchResult result
    (λ n. (bytes : List ℕ) × (length bytes ≡ n) × (n ≤ most) × (new ≡ old ++ bytes) × (before ≡ prepend_known bytes now) × (n ≡ 0 → IsAtEnd now))
    (λ _. (new ≡ old) × (now ≡ before))
