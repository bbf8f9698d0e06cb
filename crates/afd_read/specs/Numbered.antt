-- The lines of a text by their number, as one who reads an AFD sees them: this project's own.
use Rattle.std.specs.Prelude.{ℕ, ◌-◌, ◌≤◌, Bool, false, ◌||◌, nat_lt, if◌then◌else◌, List, [], length, get_or}
use Rattle.rep_io.specs.Lines.{Run, runs_of, line_of, has_return, longest_line}

-- how many lines a text has
abbrev pub line_count : List ℕ → ℕ
line_count text = length (runs_of text)

-- the number of a line, counted from 1
pub record IsLineNumber (text : List ℕ) (number : ℕ) : Type 0 where
  pub from_one : 1 ≤ number
  pub within : number ≤ line_count text

-- the line of that number, with what ends it
abbrev pub run_at : List ℕ → ℕ → Run
run_at text number = get_or (runs_of text) (number - 1) (record { bytes = []; ended = false })

-- the line has more bytes than a line may have, its end not counted
abbrev pub is_long : Run → Bool
is_long run = nat_lt longest_line (length (line_of run))

-- the line, of which nothing is shown where it is too long
abbrev pub shown_line : Run → List ℕ
shown_line run = if is_long run then [] else line_of run

-- whether CR and LF end the line; of one that is too long this isn't told, and counts as so
abbrev pub shown_return : Run → Bool
shown_return run = is_long run || has_return run
