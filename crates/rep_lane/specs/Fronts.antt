-- What the replies to the lines of a lane say of the history: this project's own. Each is that over the first entries, as
-- many as its front says, and so is each extraction.
use Rattle.std.specs.Prelude.{◌≡◌, ◌⊎◌, ℕ, ◌≤◌, List, [], ◌∷◌, length, take}
use Rattle.rep_io.specs.Streams.{IsReading}
use Rattle.rep_wire.specs.LaneGrammar.{Orders, IsMalformed}
use Rattle.rep_wire.specs.declared.head.LaneHead.{LaneHead}
use Rattle.rep_wire.specs.declared.reading.Malformed.{Malformed}
use Rattle.rep_wire.specs.declared.request.Request.{Request}
use Rattle.rep_wire.specs.declared.request.Order.TheVariants.{Asked, Extract}
use Rattle.rep_wire.specs.declared.request.Entry.{Entry}
use Rattle.rep_wire.specs.declared.reply.Answer.{Answer}
use Rattle.rep_wire.specs.declared.reply.Answer.TheVariants.{Receipt, Refused}
use Rattle.rep_core.specs.Answered.{IsReply}
use Rattle.rep_lane.specs.Answers.{Answered, Extracted, LineAnswer, replied, extracted}
use Rattle.rep_lane.specs.Desk.{malformed_reply}
use Rattle.rep_lane.specs.Serving.{Rules}

-- the line asks for a request, whose reply this is over the history
pub record IsReplyToAsked (limit : ℕ) (head : LaneHead) (h : List Entry) (line : List ℕ) (a : Answered) : Type 0 where
  pub request : Request
  pub ordered : Orders head line (Asked request)
  pub seq : a.seq ≡ request.seq
  pub reply : IsReply limit h request a.reply

-- the line orders nothing, and this is its refusal over the history
pub record IsReplyToMalformed (head : LaneHead) (h : List Entry) (line : List ℕ) (a : Answered) : Type 0 where
  pub malformed : Malformed
  pub is_malformed : IsMalformed head line malformed
  pub seq : a.seq ≡ malformed.seq
  pub reply : a.reply ≡ malformed_reply malformed (length h)

abbrev pub IsReplyTo : ℕ → LaneHead → List Entry → List ℕ → Answered → Type 0
IsReplyTo limit head h line a = IsReplyToAsked limit head h line a ⊎ IsReplyToMalformed head h line a

-- the line orders an extraction, which is this over the history at one reading of the clock
pub record IsExtractionFor (rules : Rules) (head : LaneHead) (h : List Entry) (line : List ℕ) (seq : ℕ) (x : Extracted) : Type 0 where
  pub from : ℕ
  pub to : ℕ
  pub ordered : Orders head line (Extract seq from to)
  pub minute : ℕ
  pub is_reading : IsReading minute
  pub written : rules.extraction h from to minute x.size x.afd

-- a receipt is that of an entry up to the front
abbrev pub IsUpTo : ℕ → Answer → Type 0
IsUpTo front (Receipt slip) = (1 ≤ slip.nsr) × (slip.nsr ≤ front)
IsUpTo front (Refused code) = Unit {0}

-- the answer is that over the history, and tells how many entries it has
abbrev pub IsAnswerOver : Rules → LaneHead → List Entry → List ℕ → LineAnswer → Type 0
IsAnswerOver rules head h line (replied a) =
    (a.reply.front ≡ length h) × IsReplyTo rules.limit head h line a × IsUpTo a.reply.front a.reply.answer
IsAnswerOver rules head h line (extracted seq x) = (x.front ≡ length h) × IsExtractionFor rules head h line seq x

-- the number of entries that an answer tells
abbrev pub front_of : LineAnswer → ℕ
front_of (replied a) = a.reply.front
front_of (extracted seq x) = x.front

-- the answer is that over the first entries of the history, as many as its front, which is no less than the least
pub record IsFrontAnswer (rules : Rules) (head : LaneHead) (least : ℕ) (h : List Entry) (line : List ℕ) (a : LineAnswer) : Type 0 where
  pub risen : least ≤ front_of a
  pub within : front_of a ≤ length h
  pub over : IsAnswerOver rules head (take (front_of a) h) line a

-- each answer is so, and the fronts don't fall
abbrev pub AreFrontReplies : Rules → LaneHead → ℕ → List Entry → List (List ℕ) → List LineAnswer → Type 0
AreFrontReplies rules head least h [] [] = Unit {0}
AreFrontReplies rules head least h (line ∷ lines) (a ∷ answers) =
    IsFrontAnswer rules head least h line a × AreFrontReplies rules head (front_of a) h lines answers
AreFrontReplies rules head least h _ _ = ⊥
