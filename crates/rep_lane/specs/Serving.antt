-- How the lines of a lane are served over a history: this project's own. It is what a lane gets from any recorder that
-- serves it alone.
use Rattle.std.specs.Prelude.{◌≡◌, ◌⊎◌, ℕ, ℤ, List, [], ◌∷◌, ◌++◌, length, Option, Ok}
use Rattle.std.specs.Io.KnownBytes.{append_known}
use Rattle.rep_io.specs.Streams.{IsReading}
use Rattle.rep_fields.specs.Moment.{moment_at}
use Rattle.rep_wire.specs.LaneGrammar.{Orders, IsMalformed}
use Rattle.rep_wire.specs.declared.head.LaneHead.{LaneHead}
use Rattle.rep_wire.specs.declared.reading.Malformed.{Malformed}
use Rattle.rep_wire.specs.declared.request.Request.{Request}
use Rattle.rep_wire.specs.declared.request.Order.TheVariants.{Asked, Extract}
use Rattle.rep_wire.specs.declared.request.Entry.{Entry}
use Rattle.rep_wire.specs.declared.reply.Reply.{Reply}
use Rattle.rep_core.specs.Verdict.{IsVerdict}
use Rattle.rep_core.specs.Answered.{recorded_after, IsReply}
use Rattle.rep_core.specs.declared.verdict.Verdict.TheVariants.{Fresh}
use Rattle.rep_lane.specs.Answers.{Answered, Extracted, LineAnswer, replied, extracted}
use Rattle.rep_lane.specs.Desk.{Steps, malformed_reply}

-- The rules that a recorder serves by: the last number that it gives out, its clock's offset from UTC in minutes, and what
-- an extraction over a history is: the first and the last day, a reading of the clock, the size that is told, and the AFD.
pub record Rules : Type 1 where
  pub limit : ℕ
  pub offset : ℤ
  pub extraction : List Entry → ℕ → ℕ → ℕ → ℕ → List ℕ → Type 0

abbrev pub rules_of : ℕ → ℤ → (List Entry → ℕ → ℕ → ℕ → ℕ → List ℕ → Type 0) → Rules
rules_of limit offset extraction = record { limit = limit; offset = offset; extraction = extraction }

-- A request that is to be recorded is recorded at one reading of the clock. Any other changes nothing, and the clock
-- isn't read for it.
abbrev pub Recording : Rules → List Entry → Request → List ℕ → List Entry → Type 0
Recording rules h q [] after = (IsVerdict rules.limit h q Fresh → ⊥) × (after ≡ h)
Recording rules h q (minute ∷ []) after =
    IsVerdict rules.limit h q Fresh × IsReading minute × (after ≡ recorded_after h q (moment_at minute rules.offset))
Recording rules h q (minute ∷ next ∷ minutes) after = ⊥

-- the request was served, the clock having given these readings, and this is its reply
pub record ServesRequest (rules : Rules) (h : List Entry) (q : Request) (given : List ℕ) (reply : Reply) (after : List Entry) : Type 0 where
  pub recording : Recording rules h q given after
  pub replies : IsReply rules.limit after q reply

-- the period was extracted at one reading of the clock, and the history stays
pub record ServesPeriod (rules : Rules) (h : List Entry) (from to : ℕ) (given : List ℕ) (x : Extracted) (after : List Entry) : Type 0 where
  pub minute : ℕ
  pub is_reading : IsReading minute
  pub one_reading : given ≡ minute ∷ []
  pub front : x.front ≡ length h
  pub written : rules.extraction h from to minute x.size x.afd
  pub same : after ≡ h

-- the line asks for a request that was served
pub record ServesAsked (rules : Rules) (head : LaneHead) (h : List Entry) (line : List ℕ) (given : List ℕ) (a : Answered) (after : List Entry) : Type 0 where
  pub request : Request
  pub ordered : Orders head line (Asked request)
  pub seq : a.seq ≡ request.seq
  pub served : ServesRequest rules h request given a.reply after

-- the line orders nothing, and is refused over the history as it stands
pub record ServesMalformed (head : LaneHead) (h : List Entry) (line : List ℕ) (given : List ℕ) (a : Answered) (after : List Entry) : Type 0 where
  pub malformed : Malformed
  pub is_malformed : IsMalformed head line malformed
  pub seq : a.seq ≡ malformed.seq
  pub reply : a.reply ≡ malformed_reply malformed (length h)
  pub no_reading : given ≡ []
  pub same : after ≡ h

-- the line orders an extraction, which is this
pub record ServesExtraction (rules : Rules) (head : LaneHead) (h : List Entry) (line : List ℕ) (given : List ℕ) (seq : ℕ) (x : Extracted) (after : List Entry) : Type 0 where
  pub from : ℕ
  pub to : ℕ
  pub ordered : Orders head line (Extract seq from to)
  pub served : ServesPeriod rules h from to given x after

abbrev pub ServesLine : Rules → LaneHead → List Entry → List ℕ → List ℕ → LineAnswer → List Entry → Type 0
ServesLine rules head h line given (replied a) after =
    ServesAsked rules head h line given a after ⊎ ServesMalformed head h line given a after
ServesLine rules head h line given (extracted seq x) after = ServesExtraction rules head h line given seq x after

-- The lines were served one after another, each over the history that those before it left: what the clock gave meanwhile,
-- what they are answered, and the history that they leave.
abbrev pub ServesLines : Rules → LaneHead → List Entry → List (List ℕ) → List ℕ → List LineAnswer → List Entry → Type 0
ServesLines rules head h [] given [] after = (given ≡ []) × (after ≡ h)
ServesLines rules head h (line ∷ lines) given (a ∷ answers) after =
    (first : List ℕ) × (rest : List ℕ) × (middle : List Entry) × (given ≡ first ++ rest)
    × ServesLine rules head h line first a middle × ServesLines rules head middle lines rest answers after
ServesLines rules head h _ given _ after = ⊥

-- What a desk is that serves over a history: while it holds to this, each answer is that of a request that was served, each
-- extraction is that of the history, and what it shows is how many entries it has.
pub record IsServing {Q : Type 0} (steps : Steps Q) (rules : Rules) (history : Q → List Entry)
    (readings : Q → Option (List ℕ)) (Holds : Q → Type 0) : Type 0 where
  pub serves : (old new : Q) (q : Request) (reply : Reply) → Holds old → steps.asks old q (Ok reply) new
      → Holds new × ((given : List ℕ) × (readings new ≡ append_known (readings old) given)
      × ServesRequest rules (history old) q given reply (history new))
  pub extracts : (old new : Q) (from to : ℕ) (x : Extracted) → Holds old → steps.extracts old from to x (Ok tt) new
      → Holds new × ((given : List ℕ) × (readings new ≡ append_known (readings old) given)
      × ServesPeriod rules (history old) from to given x (history new))
  pub looks : (old new : Q) (front : ℕ) → Holds old → steps.shows old front new
      → Holds new × (front ≡ length (history old)) × (history new ≡ history old) × (readings new ≡ readings old)

-- what a desk that serves has done once it has answered these lines
pub record HasServed {Q : Type 0} (rules : Rules) (history : Q → List Entry) (readings : Q → Option (List ℕ)) (Holds : Q → Type 0)
    (head : LaneHead) (old : Q) (lines : List (List ℕ)) (answers : List LineAnswer) (new : Q) : Type 0 where
  pub holds : Holds new
  pub given : List ℕ
  pub readings_are : readings new ≡ append_known (readings old) given
  pub serves : ServesLines rules head (history old) lines given answers (history new)
