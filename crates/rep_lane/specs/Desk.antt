-- How a desk answers the lines of a lane, one after another: this project's own. A desk is known by three relations of its
-- own: what asking it for a request leaves, what an extraction leaves, and what looking at its front leaves.
use Rattle.std.specs.Prelude.{◌≡◌, ◌≢◌, ◌⊎◌, ℕ, List, [], ◌∷◌, IfErr, MatchResult, Option, Result, Ok}
use Rattle.std.specs.Io.KnownBytes.{append_known}
use Rattle.rep_wire.specs.LaneGrammar.{Orders, IsMalformed}
use Rattle.rep_wire.specs.declared.head.LaneHead.{LaneHead}
use Rattle.rep_wire.specs.declared.reading.Malformed.{Malformed}
use Rattle.rep_wire.specs.declared.request.Request.{Request}
use Rattle.rep_wire.specs.declared.request.Order.TheVariants.{Asked, Extract}
use Rattle.rep_wire.specs.declared.reply.Code.TheVariants as code
use Rattle.rep_wire.specs.declared.reply.Answer.TheVariants.{Refused}
use Rattle.rep_wire.specs.declared.reply.Reply.{Reply}
use Rattle.rep_report.specs.Saying.{IsStrictFront}
use Rattle.rep_lane.specs.Answers.{Answered, Extracted, LineAnswer, replied, extracted, extract_bytes}
use Rattle.rep_lane.specs.declared.desk.DeskFail.{DeskFail}
use Rattle.rep_lane.specs.declared.desk.DeskFail.TheVariants as fail

-- what a desk is before a call, the request, the answer, and what it is after
abbrev pub Asking : Type 0 → Type 1
Asking Q = Q → Request → Result Reply DeskFail → Q → Type 0

-- what a desk is before a call, the first and the last day, what is due for them, the answer, and what it is after
abbrev pub Extracting : Type 0 → Type 1
Extracting Q = Q → ℕ → ℕ → Extracted → Result (Unit {0}) DeskFail → Q → Type 0

-- what a desk is before a call, the number of entries that it shows, and what it is after
abbrev pub Showing : Type 0 → Type 1
Showing Q = Q → ℕ → Q → Type 0

-- the steps of a desk
pub record Steps (Q : Type 0) : Type 1 where
  pub asks : Asking Q
  pub extracts : Extracting Q
  pub shows : Showing Q

abbrev pub steps_of : {Q : Type 0} → Asking Q → Extracting Q → Showing Q → Steps Q
steps_of asks extracts shows = record { asks = asks; extracts = extracts; shows = shows }

-- the line asks for a request, and the desk answers it
pub record AnswersRequest {Q : Type 0} (steps : Steps Q) (head : LaneHead) (old : Q) (line : List ℕ) (a : Answered) (new : Q) : Type 0 where
  pub request : Request
  pub ordered : Orders head line (Asked request)
  pub seq : a.seq ≡ request.seq
  pub asked : steps.asks old request (Ok a.reply) new

-- the refusal of a line that orders nothing, over so many entries
abbrev pub malformed_reply : Malformed → ℕ → Reply
malformed_reply malformed front = record { answer = Refused (code.Malformed malformed.field); front = front }

-- the line orders nothing, and is refused over what the desk shows
pub record RefusesLine {Q : Type 0} (steps : Steps Q) (head : LaneHead) (old : Q) (line : List ℕ) (a : Answered) (new : Q) : Type 0 where
  pub malformed : Malformed
  pub is_malformed : IsMalformed head line malformed
  pub seq : a.seq ≡ malformed.seq
  pub front : ℕ
  pub shown : steps.shows old front new
  pub reply : a.reply ≡ malformed_reply malformed front

-- What an extraction puts for the line with this number: all that is due, or where the desk fails, a front that lacks a byte
-- at least.
pub record PutsExtract {Q : Type 0} (extracts : Extracting Q) (number seq from to : ℕ) (old new : Q) (was now : Option (List ℕ))
    (result : Result (Unit {0}) DeskFail) : Type 0 where
  pub due : Extracted
  pub step : extracts old from to due result new
  pub put : List ℕ
  pub appended : now ≡ append_known was put
  pub is_put : MatchResult result (λ _. put ≡ extract_bytes number seq due) (λ _. IsStrictFront put (extract_bytes number seq due))
  -- nothing where neither the sink nor the device failed
  pub nothing : IfErr result (λ why. why ≢ fail.SinkFault → why ≢ fail.DeviceFault → put ≡ [])

-- the line orders an extraction, which the desk makes
pub record ExtractsPeriod {Q : Type 0} (steps : Steps Q) (head : LaneHead) (old : Q) (line : List ℕ) (seq : ℕ) (x : Extracted) (new : Q) : Type 0 where
  pub from : ℕ
  pub to : ℕ
  pub ordered : Orders head line (Extract seq from to)
  pub done : steps.extracts old from to x (Ok tt) new

abbrev pub AnswersLine : {Q : Type 0} → Steps Q → LaneHead → Q → List ℕ → LineAnswer → Q → Type 0
AnswersLine steps head old line (replied a) new = AnswersRequest steps head old line a new ⊎ RefusesLine steps head old line a new
AnswersLine steps head old line (extracted seq x) new = ExtractsPeriod steps head old line seq x new

-- the desk answers these lines, one after another
abbrev pub AnswersLines : {Q : Type 0} → Steps Q → LaneHead → Q → List (List ℕ) → List LineAnswer → Q → Type 0
AnswersLines steps head old [] [] new = new ≡ old
AnswersLines {Q} steps head old (line ∷ lines) (a ∷ answers) new =
    (next : Q) × AnswersLine steps head old line a next × AnswersLines steps head next lines answers new
AnswersLines steps head old _ _ new = ⊥
