-- The steps by which an AFD is written: this project's own.
use Rattle.std.specs.Prelude.{◌≡◌, ℕ, ◌*◌, ◌≤◌, List, ◌++◌, ◌+◌, length, drop, take, Bool, true, false, MatchResult, Option, Result, Ok, Err}
use Rattle.std.specs.Io.KnownBytes.{append_known}
use Rattle.std.specs.List.{flat_map}
use Rattle.afd_records.specs.File.{ended}
use Rattle.afd_records.specs.declared.header.Head.{Head}
use Rattle.rep_journal.specs.Format.{Framed}
use Rattle.afd_extract.specs.Period.{Range}
use Rattle.afd_extract.specs.Extract.{AreLinesIn, IsStrictFront, counts_of_lines, extract_text, lines_in, lines_of}
use Rattle.afd_extract.specs.declared.error.WriteFail.{WriteFail}
use Rattle.afd_extract.specs.declared.error.WriteFail.TheVariants.{DeviceFault, SinkFault}
use Rattle.afd_extract.specs.declared.tally.Tally.{Tally}

-- the day lies in the period
pub record IsBetween (from to day : ℕ) : Type 0 where
  pub begun : from ≤ day
  pub not_over : day ≤ to

-- Bytes were appended: those that were held, and the text, but for those that are kept for later.
pub record PutsOn (old new : Option (List ℕ)) (held kept text : List ℕ) : Type 0 where
  pub put : List ℕ
  pub appended : new ≡ append_known old put
  pub whole : held ++ text ≡ put ++ kept

-- a front of the text was appended, which lacks a byte at least
pub record PutsFront (old new : Option (List ℕ)) (text : List ℕ) : Type 0 where
  pub put : List ℕ
  pub appended : new ≡ append_known old put
  pub front : IsStrictFront put text

-- a front of the text was appended, or all of it
pub record PutsWithin (old new : Option (List ℕ)) (text : List ℕ) : Type 0 where
  pub put : List ℕ
  pub rest : List ℕ
  pub appended : new ≡ append_known old put
  pub front : text ≡ put ++ rest

-- The text was put behind what was held, or where the sink failed, a front of both.
abbrev pub Puts : {E : Type 0} → Option (List ℕ) → Option (List ℕ) → List ℕ → List ℕ → List ℕ → Result (Unit {0}) E → Type 0
Puts old new held kept text result =
    MatchResult result (λ _. PutsOn old new held kept text) (λ _. PutsFront old new (held ++ text))

-- no record line is longer
abbrev pub longest_line : ℕ
longest_line = 331

-- what lines add up to: how many there are of each type, and how many bytes they have with their ends
pub record AddsUpTo (lines : List (List ℕ)) (tally : Tally) : Type 0 where
  pub counts : tally.counts ≡ counts_of_lines lines
  pub bytes : tally.bytes ≡ length (flat_map ended lines)
  pub most : tally.bytes ≤ (longest_line + 2) * length lines

-- the lines of the frames from one place up to another
abbrev pub lines_between : List Framed → ℕ → ℕ → List (List ℕ)
lines_between frames begin end = drop begin (take end (lines_of frames))

-- the lines are those of the frames from one place up to another, where the frames are told, and as many
pub record AreLinesBetween (frames : List Framed) (begin end : ℕ) (Told : Type 0) (lines : List (List ℕ)) : Type 0 where
  pub as_many : length lines ≡ length (lines_between frames begin end)
  pub told : Told → lines ≡ lines_between frames begin end

-- The lines of the frames up to here were put, and add up to this.
pub record HasPut (frames : List Framed) (begin place : ℕ) (Told : Type 0) (old now : Option (List ℕ)) (held kept : List ℕ)
    (tally : Tally) : Type 0 where
  pub lines : List (List ℕ)
  pub between : AreLinesBetween frames begin place Told lines
  pub put : PutsOn old now held kept (flat_map ended lines)
  pub adds : AddsUpTo lines tally

-- the range of numbers is that of the places from one up to another
pub record ArePlacesOf (frames : List Framed) (range : Range) (begin end : ℕ) : Type 0 where
  pub ordered : begin ≤ end
  pub within : end ≤ length frames
  pub same : lines_between frames begin end ≡ lines_in frames range

-- The lines of frames were put, and add up to this, or a front of them was put.
pub record PutsFrames (frames : List Framed) (begin end : ℕ) (Told : Type 0) (old new : Option (List ℕ)) (held kept : List ℕ)
    (result : Result Tally WriteFail) : Type 0 where
  pub lines : List (List ℕ)
  pub between : AreLinesBetween frames begin end Told lines
  pub put : MatchResult result
      (λ tally. PutsOn old new held kept (flat_map ended lines) × AddsUpTo lines tally)
      (λ _. PutsWithin old new (held ++ flat_map ended lines))

-- All lines of an AFD were put, so many bytes, or a front of them.
pub record PutsLines (head : Head) (frames : List Framed) (range : Range) (Told : Type 0) (old new : Option (List ℕ)) (held kept : List ℕ)
    (result : Result ℕ WriteFail) : Type 0 where
  pub lines : List (List ℕ)
  pub made_of : AreLinesIn frames range Told lines
  pub put : MatchResult result
      (λ count. PutsOn old new held kept (extract_text head lines) × (count ≡ length (extract_text head lines)))
      (λ _. PutsFront old new (held ++ extract_text head lines))

-- whether the disk failed
abbrev pub failed_frames : Result Tally WriteFail → Bool
failed_frames (Ok tally) = false
failed_frames (Err DeviceFault) = true
failed_frames (Err SinkFault) = false
