-- The lines of a text: this project's own rule for lane files, AFD, AEJ and schedules that are read. A line ends
-- at LF, and a CR directly before that LF isn't part of it. Bytes after the last LF are a line without an end,
-- which keeps a CR that ends it.
use Rattle.std.specs.Prelude.{ℕ, ◌-◌, ◌==◌, Bool, true, false, ◌&&◌, if◌then◌else◌, List, [], ◌∷◌, ◌++◌, length, take, map}

abbrev pub line_feed : ℕ
line_feed = 10

abbrev pub carriage_return : ℕ
carriage_return = 13

-- the most bytes that a line may have, its end not counted
abbrev pub longest_line : ℕ
longest_line = 512

-- the most bytes that a text may have
abbrev pub longest_text : ℕ
longest_text = 268435456

-- the bytes between two line feeds, and whether a line feed ends them
pub record Run : Type 0 where
  pub bytes : List ℕ
  pub ended : Bool

-- the text of a run
abbrev pub run_text : Run → List ℕ
run_text run = run.bytes ++ (if run.ended then line_feed ∷ [] else [])

abbrev pub in_front : ℕ → List Run → List Run
in_front byte [] = record { bytes = byte ∷ []; ended = false } ∷ []
in_front byte (run ∷ runs) = record { bytes = byte ∷ run.bytes; ended = run.ended } ∷ runs

-- the runs of a text, in order
abbrev pub runs_of : List ℕ → List Run
runs_of [] = []
runs_of (byte ∷ bytes) =
    if byte == line_feed then record { bytes = []; ended = true } ∷ runs_of bytes else in_front byte (runs_of bytes)

-- the list ends in a carriage return
abbrev pub ends_in_return : List ℕ → Bool
ends_in_return [] = false
ends_in_return (byte ∷ []) = byte == carriage_return
ends_in_return (byte ∷ next ∷ bytes) = ends_in_return (next ∷ bytes)

-- whether a carriage return and a line feed end the run
abbrev pub has_return : Run → Bool
has_return run = run.ended && ends_in_return run.bytes

-- the line of a run: its bytes without the carriage return before its end
abbrev pub line_of : Run → List ℕ
line_of run = if has_return run then take (length run.bytes - 1) run.bytes else run.bytes

-- the lines of a text
abbrev pub lines_of : List ℕ → List (List ℕ)
lines_of text = map line_of (runs_of text)
