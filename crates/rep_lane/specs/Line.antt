-- What answering one line of a lane leaves: this project's own.
use Rattle.std.specs.Prelude.{◌≡◌, ◌≢◌, ◌⊎◌, ℕ, ◌≤◌, List, [], Option, Result, Ok, Err}
use Rattle.std.specs.Io.KnownBytes.{append_known}
use Rattle.rep_wire.specs.Request.{IsRequest}
use Rattle.rep_wire.specs.LaneGrammar.{Orders}
use Rattle.rep_wire.specs.Reply.{reply_text}
use Rattle.rep_wire.specs.declared.head.LaneHead.{LaneHead}
use Rattle.rep_wire.specs.declared.request.Request.{Request}
use Rattle.rep_wire.specs.declared.request.Order.{Order}
use Rattle.rep_wire.specs.declared.request.Order.TheVariants.{Asked, Extract}
use Rattle.rep_wire.specs.declared.reply.Reply.{Reply}
use Rattle.rep_report.specs.Saying.{IsStrictFront}
use Rattle.rep_lane.specs.Answers.{Answered, Extracted, LineAnswer, replied, extract_bytes, answer_bytes, kind_of, kind_of_reply}
use Rattle.rep_lane.specs.Desk.{Steps, AnswersLine}
use Rattle.rep_lane.specs.declared.answering.Kind.{Kind}
use Rattle.rep_lane.specs.declared.desk.DeskFail.{DeskFail}
use Rattle.rep_lane.specs.declared.desk.DeskFail.TheVariants as fail
use Rattle.rep_lane.specs.declared.lane.End.{End}
use Rattle.rep_lane.specs.declared.lane.End.TheVariants.{Done, SourceFault, InputLimit, SinkFault, Stopped, DeviceFault, ClockFault, OutOfMemory}

-- what is ordered is in range, as far as a desk wants it
abbrev pub IsOrdered : Order → Type 0
IsOrdered (Asked q) = IsRequest q
IsOrdered (Extract seq from to) = from ≤ to

-- the desk failed at a line that asks for a request, and nothing was written
pub record FailsToAnswer {Q : Type 0} (steps : Steps Q) (head : LaneHead) (why : DeskFail) (old : Q) (line put : List ℕ) (new : Q) : Type 0 where
  pub request : Request
  pub ordered : Orders head line (Asked request)
  pub failed : steps.asks old request (Err why) new
  pub nothing : put ≡ []

-- the desk failed at a line that orders an extraction, and a front of what was due was written
pub record FailsToExtract {Q : Type 0} (steps : Steps Q) (head : LaneHead) (number : ℕ) (why : DeskFail) (old : Q) (line put : List ℕ) (new : Q) : Type 0 where
  pub seq : ℕ
  pub from : ℕ
  pub to : ℕ
  pub ordered : Orders head line (Extract seq from to)
  pub due : Extracted
  pub failed : steps.extracts old from to due (Err why) new
  pub cut : IsStrictFront put (extract_bytes number seq due)
  -- nothing where neither the sink nor the device failed
  pub nothing : why ≢ fail.SinkFault → why ≢ fail.DeviceFault → put ≡ []

-- the desk failed at the line with this number, for which these bytes were written
abbrev pub FailsAt : {Q : Type 0} → Steps Q → LaneHead → ℕ → DeskFail → Q → List ℕ → List ℕ → Q → Type 0
FailsAt steps head number why old line put new = FailsToAnswer steps head why old line put new ⊎ FailsToExtract steps head number why old line put new

-- the line was answered, and all its bytes were written
pub record AnswersWholly {Q : Type 0} (steps : Steps Q) (head : LaneHead) (number : ℕ) (line : List ℕ) (old new : Q)
    (out_old out_new : Option (List ℕ)) (kind : Kind) : Type 0 where
  pub a : LineAnswer
  pub answers : AnswersLine steps head old line a new
  pub said : out_new ≡ append_known out_old (answer_bytes number a)
  pub is_kind : kind ≡ kind_of a

-- the line was answered, and its reply was cut
pub record CutsReply {Q : Type 0} (steps : Steps Q) (head : LaneHead) (number : ℕ) (line : List ℕ) (old new : Q)
    (out_old out_new : Option (List ℕ)) : Type 0 where
  pub a : Answered
  pub answers : AnswersLine steps head old line (replied a) new
  pub put : List ℕ
  pub said : out_new ≡ append_known out_old put
  pub cut : IsStrictFront put (reply_text number a.seq a.reply)

-- the desk failed
pub record FailsHere {Q : Type 0} (steps : Steps Q) (head : LaneHead) (number : ℕ) (why : DeskFail) (line : List ℕ) (old new : Q)
    (out_old out_new : Option (List ℕ)) : Type 0 where
  pub put : List ℕ
  pub fails : FailsAt steps head number why old line put new
  pub said : out_new ≡ append_known out_old put

abbrev pub AnswersOne : {Q : Type 0} → Steps Q → LaneHead → ℕ → List ℕ → Q → Q → Option (List ℕ) → Option (List ℕ) → Result Kind End → Type 0
AnswersOne steps head number line old new out_old out_new (Ok kind) = AnswersWholly steps head number line old new out_old out_new kind
AnswersOne steps head number line old new out_old out_new (Err SinkFault) =
    CutsReply steps head number line old new out_old out_new ⊎ FailsHere steps head number fail.SinkFault line old new out_old out_new
AnswersOne steps head number line old new out_old out_new (Err Stopped) = FailsHere steps head number fail.Stopped line old new out_old out_new
AnswersOne steps head number line old new out_old out_new (Err DeviceFault) = FailsHere steps head number fail.DeviceFault line old new out_old out_new
AnswersOne steps head number line old new out_old out_new (Err ClockFault) = FailsHere steps head number fail.ClockFault line old new out_old out_new
AnswersOne steps head number line old new out_old out_new (Err OutOfMemory) = FailsHere steps head number fail.OutOfMemory line old new out_old out_new
AnswersOne steps head number line old new out_old out_new (Err Done) = ⊥
AnswersOne steps head number line old new out_old out_new (Err SourceFault) = ⊥
AnswersOne steps head number line old new out_old out_new (Err InputLimit) = ⊥

-- how a lane ends where its desk doesn't answer
abbrev pub end_of : DeskFail → End
end_of fail.Stopped = Stopped
end_of fail.DeviceFault = DeviceFault
end_of fail.ClockFault = ClockFault
end_of fail.SinkFault = SinkFault
end_of fail.OutOfMemory = OutOfMemory

-- the reply line was written, or where the sink failed, a front of it that lacks a byte at least
abbrev pub WritesReply : ℕ → ℕ → Reply → Option (List ℕ) → Option (List ℕ) → Result Kind End → Type 0
WritesReply number seq reply old new (Ok kind) =
    (new ≡ append_known old (reply_text number seq reply)) × (kind ≡ kind_of_reply reply.answer)
WritesReply number seq reply old new (Err ended) =
    (put : List ℕ) × (ended ≡ SinkFault) × (new ≡ append_known old put) × IsStrictFront put (reply_text number seq reply)
