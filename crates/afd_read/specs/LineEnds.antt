-- Where the first line of a text ends, and what its end is: this project's own.
use Rattle.std.specs.Prelude.{◌≡◌, ℕ, ◌<◌, ◌≤◌, ◌⊎◌, false, List, [], ◌∷◌, ◌++◌, length, take, drop}
use Rattle.afd_records.specs.Fields.{EndsIn}
use Rattle.rep_io.specs.Cutter.{HasNoLineFeed}
use Rattle.rep_io.specs.Lines.{Run, run_text, runs_of}

-- a run as a text has them: no line feed stands in it, and only the last has no end, which isn't empty then
pub record IsRun (run : Run) : Type 0 where
  pub clean : HasNoLineFeed run.bytes
  pub some : run.ended ≡ false → 0 < length run.bytes

-- the first run of the text has so many bytes with its end
pub record IsFirstRun (text : List ℕ) (len : ℕ) : Type 0 where
  pub run : Run
  pub is_run : IsRun run
  pub first : runs_of text ≡ run ∷ runs_of (drop len text)
  pub whole : take len text ≡ run_text run
  pub some : 0 < len
  pub within : len ≤ length text

-- the first bytes, without the last one where it is this byte
abbrev pub IsWithoutLast : ℕ → List ℕ → List ℕ → Type 0
IsWithoutLast byte bytes front = (bytes ≡ front ++ byte ∷ []) ⊎ ((front ≡ bytes) × (EndsIn byte bytes → ⊥))
