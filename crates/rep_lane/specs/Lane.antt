-- What comes of a lane: which of its lines were answered, what was written, and how it ended. This project's own.
use Rattle.std.specs.Prelude.{◌≡◌, ◌⊎◌, ℕ, suc, ◌+◌, ◌<◌, ◌≤◌, List, [], ◌∷◌, ◌++◌, length, take, drop, Option}
use Rattle.std.specs.List.{concat}
use Rattle.std.specs.Io.KnownBytes.{append_known}
use Rattle.rep_io.specs.Lines.{lines_of, longest_text}
use Rattle.rep_io.specs.Cutter.{Cutter}
use Rattle.rep_wire.specs.declared.head.LaneHead.{LaneHead}
use Rattle.rep_lane.specs.LaneText.{ended_lines, IsWithin, HasRead}
use Rattle.rep_report.specs.Saying.{IsStrictFront}
use Rattle.rep_lane.specs.Line.{FailsAt}
use Rattle.rep_lane.specs.Answers.{LineAnswer, replies_from, receipts_in, refusals_in}
use Rattle.rep_lane.specs.Desk.{Steps, AnswersLines}
use Rattle.rep_lane.specs.declared.desk.DeskFail.{DeskFail}
use Rattle.rep_lane.specs.declared.desk.DeskFail.TheVariants as fail
use Rattle.rep_lane.specs.declared.lane.End.{End}
use Rattle.rep_lane.specs.declared.lane.End.TheVariants.{Done, SourceFault, InputLimit, SinkFault, Stopped, DeviceFault, ClockFault, OutOfMemory}
use Rattle.rep_lane.specs.declared.lane.Tally.{Tally}

-- the counts of these answers
pub record IsTally (answers : List LineAnswer) (tally : Tally) : Type 0 where
  pub lines : tally.lines ≡ length answers
  pub receipts : tally.receipts ≡ receipts_in answers
  pub refused : tally.refused ≡ refusals_in answers

-- the replies that stand: so many wholly, and then some bytes of the next one
pub record Says (replies : List (List ℕ)) (whole : ℕ) (old new : Option (List ℕ)) : Type 0 where
  pub next : List ℕ
  pub said : new ≡ append_known old (concat (take whole replies) ++ next)

-- the lane ended before a line: the desk is as it was once it had answered, and each answer stands wholly
pub record EndsBetween {Q : Type 0} (old : Q) (next : List (List ℕ)) (new : Q) (replies : List (List ℕ)) (whole : ℕ) (bytes : List ℕ) : Type 0 where
  pub none_taken : next ≡ []
  pub same : new ≡ old
  pub all : whole ≡ length replies
  pub nothing : bytes ≡ []

-- the last answer is a reply that was cut: a byte of it is lacking at least
pub record EndsInReply {Q : Type 0} (old : Q) (next : List (List ℕ)) (new : Q) (replies : List (List ℕ)) (whole : ℕ) (bytes : List ℕ) : Type 0 where
  pub none_taken : next ≡ []
  pub same : new ≡ old
  pub all_before : suc whole ≡ length replies
  pub cut : IsStrictFront bytes (concat (drop whole replies))

-- the desk failed at the line behind those that were answered, for which these bytes were written
pub record EndsAtDesk {Q : Type 0} (steps : Steps Q) (head : LaneHead) (number : ℕ) (why : DeskFail) (old : Q) (next : List (List ℕ)) (new : Q)
    (replies : List (List ℕ)) (whole : ℕ) (bytes : List ℕ) : Type 0 where
  pub line : List ℕ
  pub taken : next ≡ line ∷ []
  pub fails : FailsAt steps head number why old line bytes new
  pub all : whole ≡ length replies

-- How the lane ends behind lines that were answered, the next of which has this number.
abbrev pub EndsLane : {Q : Type 0} → Steps Q → LaneHead → ℕ → Q → List (List ℕ) → Q → List (List ℕ) → ℕ → List ℕ → End → Type 0
EndsLane steps head number old next new replies whole bytes Done = EndsBetween old next new replies whole bytes
EndsLane steps head number old next new replies whole bytes SourceFault = EndsBetween old next new replies whole bytes
EndsLane steps head number old next new replies whole bytes InputLimit = EndsBetween old next new replies whole bytes
EndsLane steps head number old next new replies whole bytes SinkFault =
    EndsInReply old next new replies whole bytes ⊎ EndsAtDesk steps head number fail.SinkFault old next new replies whole bytes
EndsLane steps head number old next new replies whole bytes Stopped = EndsAtDesk steps head number fail.Stopped old next new replies whole bytes
EndsLane steps head number old next new replies whole bytes DeviceFault = EndsAtDesk steps head number fail.DeviceFault old next new replies whole bytes
EndsLane steps head number old next new replies whole bytes ClockFault = EndsAtDesk steps head number fail.ClockFault old next new replies whole bytes
EndsLane steps head number old next new replies whole bytes OutOfMemory = EndsAtDesk steps head number fail.OutOfMemory old next new replies whole bytes

-- What the end says of the text, of which so many lines were taken, and these are left: it is read to its end only where
-- none is left, and it is too long only where it is and each line that ends in the room of a text was taken.
abbrev pub EndsText : List ℕ → ℕ → List (List ℕ) → End → Type 0
EndsText text taken rest Done = (rest ≡ []) × (length text ≤ longest_text)
EndsText text taken rest SourceFault = Unit {0}
EndsText text taken rest InputLimit = (longest_text < length text) × (ended_lines text ≡ taken)
EndsText text taken rest SinkFault = IsWithin taken text
EndsText text taken rest Stopped = IsWithin taken text
EndsText text taken rest DeviceFault = IsWithin taken text
EndsText text taken rest ClockFault = IsWithin taken text
EndsText text taken rest OutOfMemory = IsWithin taken text

-- The text has these lines behind those that were read before, and the end says this of it.
pub record TakesLines (text : List ℕ) (before taken : List (List ℕ)) (ended : End) : Type 0 where
  pub rest : List (List ℕ)
  pub lines : lines_of text ≡ before ++ taken ++ rest
  pub ends : EndsText text (length before + length taken) rest ended

-- The lines of a text behind those that were read before have these answers, up to the one at which the desk failed, if it
-- did; and the end says this of the text.
pub record AnswersText {Q : Type 0} (steps : Steps Q) (head : LaneHead) (old : Q) (answers : List LineAnswer) (desk : Q)
    (next : List (List ℕ)) (ended : End) (text : List ℕ) (before : List (List ℕ)) : Type 0 where
  pub lines : List (List ℕ)
  pub answered : AnswersLines steps head old lines answers desk
  pub takes : TakesLines text before (lines ++ next) ended

-- The lines of a lane from this number on were answered, one after another, and it ended so.
pub record Runs {S Q : Type 0} (left : S → Option (List ℕ)) (steps : Steps Q) (head : LaneHead) (number : ℕ)
    (cutter : Cutter S) (old new : Q) (out_old out_new : Option (List ℕ)) (tally : Tally) (ended : End) : Type 0 where
  pub answers : List LineAnswer
  -- the desk once it had given them
  pub desk : Q
  -- some lines have these answers
  pub lines : List (List ℕ)
  pub answered : AnswersLines steps head old lines answers desk
  -- how many of them stand wholly
  pub whole : ℕ
  pub says : Says (replies_from number answers) whole out_old out_new
  pub tally_is : IsTally (take whole answers) tally
  -- the line at which the desk failed, if it did
  pub next : List (List ℕ)
  pub ends : EndsLane steps head (number + length answers) desk next new (replies_from number answers) whole says.next ended
  -- and where the source tells its text, the lines of the text have them
  pub text : (text : List ℕ) (before : List (List ℕ)) → HasRead left cutter text before
      → AnswersText steps head old answers desk next ended text before
