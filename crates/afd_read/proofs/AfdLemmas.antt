-- The lines of an AFD, as they are shown by their number.
use Rattle.std.proofs.Common.{◌≡◌, ℕ, ◌+◌, ◌-◌, ◌<◌, ◌≤◌, List, [], ◌∷◌, length, map, refl, ap, ◌∙◌, arith}
use Rattle.std.proofs.lemmas.Bool.{lt-ltb, le-ltb}
use Rattle.afd_records.specs.declared.header.Head.{Head}
use Rattle.rep_io.specs.Lines.{Run, runs_of, line_of, longest_line, longest_text}
use Rattle.afd_read.specs.Beginning.{BeginWith}
use Rattle.afd_read.specs.Index.{IsKept}
use Rattle.afd_read.specs.LineEnds.{IsRun}
use Rattle.afd_read.specs.Numbered.{line_count, IsLineNumber, run_at, shown_line}
use Rattle.afd_read.proofs.RunLemmas.{run_is, few_runs, length-bounds}

pub run_at_is : (text : List ℕ) (number : ℕ) → IsLineNumber text number → IsRun (run_at text number)
run_at_is text number is = run_is text (number - 1) (omega (arith, is.from_one, is.within))

pub shown-short : (run : Run) → length (line_of run) ≤ longest_line → shown_line run ≡ line_of run
shown-short run short = rw (le-ltb longest_line (length (line_of run)) short) refl

pub shown-long : (run : Run) → longest_line < length (line_of run) → shown_line run ≡ []
shown-long run long = rw (lt-ltb longest_line (length (line_of run)) long) refl

begun : (head : Head) (runs : List Run) → BeginWith head (map line_of runs) → 1 ≤ length runs
begun head [] begins = absurd begins
begun head (run ∷ runs) begins = omega arith

-- the bounds of an AFD's lines are one more than its lines
pub record IsCounted (text bounds : List ℕ) : Type 0 where
  pub bounds_are : length bounds ≡ line_count text + 1
  pub some : 1 ≤ line_count text
  pub in_room : line_count text ≤ longest_text

pub counted : (text bounds : List ℕ) (head : Head) → IsKept text bounds head → IsCounted text bounds
counted text bounds head kept = record {
  bounds_are = ap length kept.indexed ∙ length-bounds 0 (runs_of text);
  some = begun head (runs_of text) kept.begins;
  in_room = omega (arith, few_runs text, kept.in_room);
}
