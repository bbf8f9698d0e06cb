-- The AFD of a range of a journal's frames. The file's layout is that of Portaria MTP 671/2021, annex V; that it is made of
-- a range of numbers is this project's own rule.
use Rattle.std.specs.Prelude.{◌≡◌, ◌≢◌, ◌==◌, Bool, true, false, ℕ, ◌+◌, ◌≤◌, List, [], ◌∷◌, ◌++◌, length, map, count_by, slice_index_or, Option, Some, None, Result, Ok, Err}
use Rattle.std.specs.Io.KnownBytes.{append_known}
use Rattle.afd_records.specs.File.{file_text}
use Rattle.afd_records.specs.declared.header.Head.{Head}
use Rattle.rep_journal.specs.Format.{Framed}
use Rattle.afd_extract.specs.Period.{Range, in_range}
use Rattle.afd_extract.specs.declared.error.WriteFail.{WriteFail}
use Rattle.afd_extract.specs.declared.error.WriteFail.TheVariants.{DeviceFault, SinkFault}

-- the lines of frames
abbrev pub lines_of : List Framed → List (List ℕ)
lines_of frames = map (λ f. f.line) frames

-- the lines of the frames in a range of numbers
abbrev pub lines_in : List Framed → Range → List (List ℕ)
lines_in frames range = in_range range (lines_of frames)

-- the numbers are those of frames
abbrev pub IsRangeIn : List Framed → Range → Type 0
IsRangeIn frames None = Unit {0}
IsRangeIn frames (Some range) = (1 ≤ range.0) × (range.0 ≤ range.1) × (range.1 ≤ length frames)

-- how many lines have the type: the tenth byte is its digit
abbrev pub lines_of_type : ℕ → List (List ℕ) → ℕ
lines_of_type kind lines = count_by (λ line. slice_index_or line 9 0 == 48 + kind) lines

-- the trailer's counts of lines, by their types 2 to 7
abbrev pub counts_of_lines : List (List ℕ) → List ℕ
counts_of_lines lines =
    lines_of_type 2 lines ∷ lines_of_type 3 lines ∷ lines_of_type 4 lines ∷ lines_of_type 5 lines
    ∷ lines_of_type 6 lines ∷ lines_of_type 7 lines ∷ []

-- the AFD of these lines
abbrev pub extract_text : Head → List (List ℕ) → List ℕ
extract_text head lines = file_text head lines (counts_of_lines lines)

-- the text begins with the front, and goes on behind it
abbrev pub IsStrictFront : List ℕ → List ℕ → Type 0
IsStrictFront front text = (rest : List ℕ) × (rest ≢ []) × (text ≡ front ++ rest)

-- what was put of a text, by the answer: all of it, which has so many bytes, or a front that lacks a byte at least
abbrev pub IsPut : List ℕ → List ℕ → Result ℕ WriteFail → Type 0
IsPut put text (Ok count) = (put ≡ text) × (count ≡ length text)
IsPut put text (Err why) = IsStrictFront put text

-- The lines that an AFD of the range is made of: one for each number, and where the frames are told, theirs.
pub record AreLinesIn (frames : List Framed) (range : Range) (Told : Type 0) (lines : List (List ℕ)) : Type 0 where
  pub as_many : length lines ≡ length (lines_in frames range)
  pub told : Told → lines ≡ lines_in frames range

-- The AFD of the range was written, of its frames where they are told and else of lines as they were read.
pub record WritesExtract (head : Head) (frames : List Framed) (range : Range) (Told : Type 0) (old new : Option (List ℕ)) (result : Result ℕ WriteFail) : Type 0 where
  pub lines : List (List ℕ)
  pub made_of : AreLinesIn frames range Told lines
  pub put : List ℕ
  pub appended : new ≡ append_known old put
  pub is_put : IsPut put (extract_text head lines) result

-- whether the disk failed
abbrev pub failed_by_device : Result ℕ WriteFail → Bool
failed_by_device (Ok count) = false
failed_by_device (Err DeviceFault) = true
failed_by_device (Err SinkFault) = false
