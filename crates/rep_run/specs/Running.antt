-- What `run` leaves of one lane over a journal: this project's own. What is said of a text, of contents or of readings
-- holds where they are told.
use Rattle.std.specs.Prelude.{◌≡◌, ◌≢◌, ◌⊎◌, ℕ, suc, ◌+◌, ◌<◌, ◌≤◌, List, [], ◌∷◌, ◌++◌, length, take, drop, IfSome, IsSome, Option}
use Rattle.std.specs.List.{concat}
use Rattle.std.specs.Io.KnownBytes.{append_known}
use Rattle.rep_io.specs.Causes.{Rose}
use Rattle.rep_io.specs.Lines.{lines_of, longest_text}
use Rattle.rep_io.specs.Streams.{IsReading}
use Rattle.rep_fields.specs.Moment.{moment_at}
use Rattle.rep_disk.specs.Disk.{Shown, Changes, IsAtRest}
use Rattle.rep_wire.specs.LaneGrammar.{operator, IsLaneHead, Orders}
use Rattle.rep_wire.specs.declared.head.LaneHead.{LaneHead}
use Rattle.rep_wire.specs.declared.request.Request.{Request}
use Rattle.rep_wire.specs.declared.request.Order.TheVariants.{Asked, Extract}
use Rattle.rep_wire.specs.declared.request.Entry.{Entry}
use Rattle.rep_core.specs.Verdict.{IsVerdict}
use Rattle.rep_core.specs.Answered.{recorded_after}
use Rattle.rep_core.specs.declared.verdict.Verdict.TheVariants.{Fresh}
use Rattle.rep_journal.specs.Format.{IsBlank, IsForeign}
use Rattle.rep_journal.specs.State.{IsKeptBy, MakesCalls}
use Rattle.rep_journal.specs.Recovery.{RestsFrom}
use Rattle.rep_ledger.specs.Ledger.{IsLedgerOf, IsDamagedAt}
use Rattle.rep_ledger.specs.Safety.{IsSafe, Receipted, receipted_at}
use Rattle.rep_ledger.specs.Leaving.{ChangesAtEnd, GrowsTo}
use Rattle.rep_site.specs.Site.{IsSite}
use Rattle.rep_site.specs.declared.site.Site.{Site}
use Rattle.rep_report.specs.Report.{run_text}
use Rattle.rep_report.specs.Saying.{IsStrictFront, SaysLine, Concludes, status_of as ending_status}
use Rattle.rep_report.specs.declared.ending.Ending.{Ending}
use Rattle.rep_report.specs.declared.ending.Ending.TheVariants as ending
use Rattle.rep_lane.specs.LaneText.{ended_lines, IsWithin}
use Rattle.rep_lane.specs.Answers.{Extracted, LineAnswer, replied, extracted, extract_bytes, replies_from, receipts_in, refusals_in}
use Rattle.rep_lane.specs.Serving.{Rules, rules_of, ServesLines}
use Rattle.rep_lane.specs.Head.{IsHeadLine, HasNoHead}
use Rattle.rep_lane.specs.Lane.{Says, EndsText}
use Rattle.rep_lane.specs.declared.lane.End.{End}
use Rattle.rep_lane.specs.declared.lane.End.TheVariants.{Done, SourceFault, InputLimit, SinkFault, Stopped, DeviceFault, ClockFault, OutOfMemory}
use Rattle.rep_run.specs.Extraction.{IsExtraction, IsExtractOf}
use Rattle.rep_run.specs.Settings.{SaysSite, RefusesSite}
use Rattle.rep_run.specs.Creating.{status_of, last_text}
use Rattle.rep_run.specs.declared.refusal.Refusal.{Refusal}
use Rattle.rep_run.specs.declared.refusal.Refusal.TheVariants as refusal
use Rattle.rep_run.specs.declared.stopping.Stopping.{Stopping}
use Rattle.rep_run.specs.declared.stopping.Stopping.TheVariants.{Refused, Ended}

-- what a call is handed, and what it hands back
pub record Parts (S K D C : Type 0) : Type 0 where
  pub site : S
  pub lane : S
  pub disk : D
  pub clock : C
  pub replies : K

-- the meanings of the parts
pub record Meanings (S K D C : Type 0) : Type 1 where
  pub left : S → Option (List ℕ)
  pub source_faults : S → ℕ
  pub shown : D → Shown
  pub readings : C → Option (List ℕ)
  pub clock_faults : C → ℕ
  pub written : K → Option (List ℕ)
  pub sink_faults : K → ℕ

-- the number of the line behind the head
abbrev pub first_line : ℕ
first_line = 2

-- a site was read from its text
pub record HasSite {S K D C : Type 0} (m : Meanings S K D C) (old : Parts S K D C) (site : Site) : Type 0 where
  pub in_range : IsSite site
  pub said : IfSome (m.left old.site) (λ text. SaysSite text site)

-- Before the store is opened

-- clock and replies are as they were
pub record StaysBeyond {S K D C : Type 0} (old new : Parts S K D C) : Type 0 where
  pub clock : new.clock ≡ old.clock
  pub replies : new.replies ≡ old.replies

-- the disk wasn't looked at
pub record StaysBeyondTexts {S K D C : Type 0} (old new : Parts S K D C) : Type 0 where
  pub beyond : StaysBeyond old new
  pub disk : new.disk ≡ old.disk

-- a site and a head were read
pub record HasTexts {S K D C : Type 0} (m : Meanings S K D C) (old : Parts S K D C) : Type 0 where
  pub site : Site
  pub has_site : HasSite m old site
  pub head : LaneHead
  pub in_range : IsLaneHead head
  pub headed : IfSome (m.left old.lane) (λ text. (first : List ℕ) × (behind : List (List ℕ)) × (lines_of text ≡ first ∷ behind) × IsHeadLine head first)

-- the disk's contents are refused for this reason; a sync was made of them, and from it on a crash leaves nothing else
pub record RefusesContents {S K D C : Type 0} (m : Meanings S K D C) (old new : Parts S K D C) (IsSo : List ℕ → Type 0) : Type 0 where
  pub texts : HasTexts m old
  pub contents : IfSome (m.shown old.disk).contents IsSo
  pub disk : IsKeptBy (m.shown old.disk) (m.shown new.disk)
  pub rest : RestsFrom ((m.shown old.disk).moment + 2) (m.shown new.disk)
  pub beyond : StaysBeyond old new

-- the text of the site is refused
pub record RefusesSiteText {S K D C : Type 0} (m : Meanings S K D C) (old new : Parts S K D C) (why : Refusal) : Type 0 where
  pub text : IfSome (m.left old.site) (λ text. RefusesSite text why)
  pub stays : StaysBeyondTexts old new

-- the lane has no head
pub record RefusesLane {S K D C : Type 0} (m : Meanings S K D C) (old new : Parts S K D C) : Type 0 where
  pub site : Site
  pub has_site : HasSite m old site
  pub no_head : IfSome (m.left old.lane) (λ text. HasNoHead (lines_of text) × IsWithin 1 text)
  pub stays : StaysBeyondTexts old new

-- a text is too long: the site's, or behind a site the lane's, which has no line's end in the room of a text
abbrev pub IsTooLong : {S K D C : Type 0} → Meanings S K D C → Parts S K D C → Type 0
IsTooLong m old =
    IfSome (m.left old.site) (λ text. longest_text < length text)
    ⊎ ((site : Site) × HasSite m old site × IfSome (m.left old.lane) (λ text. (longest_text < length text) × (ended_lines text ≡ 0)))

-- the source of the site failed, or behind a site that of the lane
abbrev pub FailsToRead : {S K D C : Type 0} → Meanings S K D C → Parts S K D C → Parts S K D C → Type 0
FailsToRead m old new =
    Rose (m.source_faults old.site) (m.source_faults new.site)
    ⊎ ((site : Site) × HasSite m old site × Rose (m.source_faults old.lane) (m.source_faults new.lane))

-- Memory was short: the disk wasn't looked at, or a sync was made of its contents, from which on a crash leaves nothing else.
pub record LacksMemory {S K D C : Type 0} (m : Meanings S K D C) (old new : Parts S K D C) : Type 0 where
  pub disk : IsKeptBy (m.shown old.disk) (m.shown new.disk)
  pub rest : (new.disk ≡ old.disk) ⊎ RestsFrom ((m.shown old.disk).moment + 2) (m.shown new.disk)
  pub beyond : StaysBeyond old new

-- The disk failed while its journal was looked for: at the sync, which came first, or later.
pub record FailsToOpen {S K D C : Type 0} (m : Meanings S K D C) (old new : Parts S K D C) : Type 0 where
  pub texts : HasTexts m old
  pub cause : Rose (m.shown old.disk).faults (m.shown new.disk).faults
  pub disk : IsKeptBy (m.shown old.disk) (m.shown new.disk)
  pub rest : MakesCalls 1 (m.shown old.disk) (m.shown new.disk) ⊎ RestsFrom ((m.shown old.disk).moment + 2) (m.shown new.disk)
  pub beyond : StaysBeyond old new

-- how the command stops before the store is opened
abbrev pub StopsBefore : {S K D C : Type 0} → Meanings S K D C → Parts S K D C → Parts S K D C → Stopping → Type 0
StopsBefore m old new (Refused refusal.SiteText) = RefusesSiteText m old new refusal.SiteText
StopsBefore m old new (Refused (refusal.SiteField key)) = RefusesSiteText m old new (refusal.SiteField key)
StopsBefore m old new (Refused refusal.NoHead) = RefusesLane m old new
StopsBefore m old new (Refused refusal.Foreign) = RefusesContents m old new IsForeign
StopsBefore m old new (Refused refusal.Blank) = RefusesContents m old new IsBlank
StopsBefore m old new (Refused refusal.Present) = ⊥
StopsBefore m old new (Refused (refusal.Damaged at)) = RefusesContents m old new (IsDamagedAt at)
StopsBefore m old new (Ended ending.SourceFault) = FailsToRead m old new × StaysBeyondTexts old new
StopsBefore m old new (Ended ending.InputLimit) = IsTooLong m old × StaysBeyondTexts old new
StopsBefore m old new (Ended ending.OutOfMemory) = LacksMemory m old new
StopsBefore m old new (Ended ending.DeviceFault) = FailsToOpen m old new
StopsBefore m old new (Ended ending.AllAnswered) = ⊥
StopsBefore m old new (Ended ending.SomeRefused) = ⊥
StopsBefore m old new (Ended ending.SinkFault) = ⊥
StopsBefore m old new (Ended ending.ClockFault) = ⊥

-- Once the store is open

-- The request of the line behind those that were answered was to be recorded, and the disk failed while its entry was
-- put at one more reading of the clock: the disk keeps the history with that entry or without it, and nothing was changed
-- but behind that history, where a put writes.
pub record FailsToPut {S K D C : Type 0} (m : Meanings S K D C) (old new : Parts S K D C) (site : Site) (head : LaneHead)
    (next : List (List ℕ)) (given : List ℕ) (before after : List Entry) : Type 0 where
  pub line : List ℕ
  pub next_is : next ≡ line ∷ []
  pub request : Request
  pub ordered : Orders head line (Asked request)
  pub fresh : IsVerdict site.last_nsr after request Fresh
  pub minute : ℕ
  pub is_reading : IsReading minute
  pub readings : m.readings new.clock ≡ append_known (m.readings old.clock) (given ++ minute ∷ [])
  pub contents : Changes
      (λ _ bytes. IsLedgerOf bytes after ⊎ IsLedgerOf bytes (recorded_after after request (moment_at minute site.offset)))
      (m.shown old.disk).contents (m.shown new.disk).contents
  pub around : Changes
      (λ was bytes. (failed : ℕ) × (middle : List ℕ) × GrowsTo before after was middle
      × ChangesAtEnd failed after (recorded_after after request (moment_at minute site.offset)) middle bytes)
      (m.shown old.disk).contents (m.shown new.disk).contents
  pub cause : Rose (m.shown old.disk).faults (m.shown new.disk).faults

-- The disk keeps the history, which went on from the one before, at rest; nothing was changed but behind that one, and
-- nothing at all where it has no new entry. The clock was read for its new entries alone.
pub record KeepsHistory {S K D C : Type 0} (m : Meanings S K D C) (old new : Parts S K D C) (given : List ℕ) (before after : List Entry) : Type 0 where
  pub readings : m.readings new.clock ≡ append_known (m.readings old.clock) given
  pub contents : Changes (λ _ bytes. IsLedgerOf bytes after) (m.shown old.disk).contents (m.shown new.disk).contents
  pub grows : Changes (GrowsTo before after) (m.shown old.disk).contents (m.shown new.disk).contents
  pub rest : IsAtRest (m.shown new.disk)

-- the line behind those that were answered asks for a request that was to be recorded
abbrev pub IsDue : Site → LaneHead → List (List ℕ) → List Entry → Type 0
IsDue site head next after =
    (line : List ℕ) × (request : Request) × (next ≡ line ∷ []) × Orders head line (Asked request)
    × IsVerdict site.last_nsr after request Fresh

-- or it orders an extraction
abbrev pub OrdersExtraction : LaneHead → List (List ℕ) → Type 0
OrdersExtraction head next =
    (line : List ℕ) × (seq : ℕ) × (from : ℕ) × (to : ℕ) × (next ≡ line ∷ []) × Orders head line (Extract seq from to)

-- The line behind those that were answered, which has this number, orders an extraction, and a front of it was written, at
-- one more reading of the clock. The disk keeps the history, at rest.
pub record CutsExtraction {S K D C : Type 0} (m : Meanings S K D C) (old new : Parts S K D C) (site : Site) (head : LaneHead) (number : ℕ)
    (next : List (List ℕ)) (put given : List ℕ) (before after : List Entry) : Type 0 where
  pub line : List ℕ
  pub next_is : next ≡ line ∷ []
  pub seq : ℕ
  pub from : ℕ
  pub to : ℕ
  pub ordered : Orders head line (Extract seq from to)
  pub minute : ℕ
  pub is_reading : IsReading minute
  pub due : Extracted
  pub front : due.front ≡ length after
  pub made : IsSome (m.shown old.disk).contents → IsExtractOf site after from to minute due.size due.afd
  pub cut : IsStrictFront put (extract_bytes number seq due)
  pub keeps : KeepsHistory m old new (given ++ minute ∷ []) before after

-- Of the replies so many are written wholly, and then these bytes: none more; or a front of the next; or of the extraction
-- that the line behind them orders.
abbrev pub AllWritten : List (List ℕ) → ℕ → List ℕ → Type 0
AllWritten replies whole put = (whole ≡ length replies) × (put ≡ [])

abbrev pub CutsReply : List (List ℕ) → ℕ → List ℕ → Type 0
CutsReply replies whole put = (suc whole ≡ length replies) × IsStrictFront put (concat (drop whole replies))

-- what is left by the lane's end, with its cause, and what was written of the replies
abbrev pub LeavesStore : {S K D C : Type 0} → Meanings S K D C → Parts S K D C → Parts S K D C → Site → LaneHead → List (List ℕ) → ℕ → List ℕ
    → List (List ℕ) → List ℕ → List Entry → List Entry → End → Type 0
LeavesStore m old new site head replies whole put next given before after Done = AllWritten replies whole put × KeepsHistory m old new given before after × (next ≡ [])
LeavesStore m old new site head replies whole put next given before after SourceFault =
    AllWritten replies whole put × KeepsHistory m old new given before after × (next ≡ [])
    × Rose (m.source_faults old.lane) (m.source_faults new.lane)
LeavesStore m old new site head replies whole put next given before after InputLimit =
    AllWritten replies whole put × KeepsHistory m old new given before after × (next ≡ [])
LeavesStore m old new site head replies whole put next given before after SinkFault =
    ((CutsReply replies whole put × KeepsHistory m old new given before after × (next ≡ []))
    ⊎ ((whole ≡ length replies) × CutsExtraction m old new site head (first_line + length replies) next put given before after))
    × Rose (m.sink_faults old.replies) (m.sink_faults new.replies)
LeavesStore m old new site head replies whole put next given before after Stopped = ⊥
LeavesStore m old new site head replies whole put next given before after DeviceFault =
    ((AllWritten replies whole put × FailsToPut m old new site head next given before after)
    ⊎ ((whole ≡ length replies) × CutsExtraction m old new site head (first_line + length replies) next put given before after))
    × Rose (m.shown old.disk).faults (m.shown new.disk).faults
LeavesStore m old new site head replies whole put next given before after ClockFault =
    AllWritten replies whole put × KeepsHistory m old new given before after × (IsDue site head next after ⊎ OrdersExtraction head next)
    × Rose (m.clock_faults old.clock) (m.clock_faults new.clock)
LeavesStore m old new site head replies whole put next given before after OutOfMemory =
    AllWritten replies whole put × KeepsHistory m old new given before after × IsDue site head next after

-- the text begins with the head, and these lines come behind it; the lane's end says this of it
pub record TakesLane (text : List ℕ) (head : LaneHead) (taken : List (List ℕ)) (ended : End) : Type 0 where
  pub first : List ℕ
  pub headed : IsHeadLine head first
  pub rest : List (List ℕ)
  pub lines : lines_of text ≡ first ∷ taken ++ rest
  pub ends : EndsText text (suc (length taken)) rest ended

-- how the command ends, by how the lane did and by whether a request was refused
abbrev pub EndsAs : List LineAnswer → End → Ending → Type 0
EndsAs answers Done ending.AllAnswered = refusals_in answers ≡ 0
EndsAs answers Done ending.SomeRefused = 0 < refusals_in answers
EndsAs answers Done _ = ⊥
EndsAs answers SourceFault e = e ≡ ending.SourceFault
EndsAs answers InputLimit e = e ≡ ending.InputLimit
EndsAs answers SinkFault e = e ≡ ending.SinkFault
EndsAs answers Stopped e = ⊥
EndsAs answers DeviceFault e = e ≡ ending.DeviceFault
EndsAs answers ClockFault e = e ≡ ending.ClockFault
EndsAs answers OutOfMemory e = e ≡ ending.OutOfMemory

-- the receipts among the answers, at a moment
abbrev pub receipts_at : ℕ → List LineAnswer → List Receipted
receipts_at moment [] = []
receipts_at moment (replied a ∷ answers) = receipted_at moment a.reply.answer ++ receipts_at moment answers
receipts_at moment (extracted seq x ∷ answers) = receipts_at moment answers

-- the counts' line of one lane, so many of whose answers were written wholly, where the recorder has so many entries
abbrev pub counts_text : List LineAnswer → ℕ → ℕ → List ℕ
counts_text answers whole last = run_text 1 whole (receipts_in (take whole answers)) (refusals_in (take whole answers)) last

-- the rules by which the lane is served: the site's, and its AFD for extractions
abbrev pub lane_rules : {S K D C : Type 0} → Meanings S K D C → Parts S K D C → Site → Rules
lane_rules m old site = rules_of site.last_nsr site.offset (IsExtraction (IsSome (m.shown old.disk).contents) site)

-- Over the history that the disk kept the lines of the lane were served, one after another. Each reply that was due was
-- written, the last perhaps cut. The history went on by the entries of those lines, the disk keeps it, and a crash leaves
-- a front of it that has the history found and each entry that had its receipt.
pub record ServesLane {S K D C : Type 0} (m : Meanings S K D C) (old new : Parts S K D C) (out_old out_new : Option (List ℕ)) (before_out now_out : ℕ) (status : ℕ) : Type 0 where
  pub site : Site
  pub has_site : HasSite m old site
  pub head : LaneHead
  pub head_in_range : IsLaneHead head
  pub before : List Entry
  pub found : IfSome (m.shown old.disk).contents (λ bytes. IsLedgerOf bytes before)
  pub lines : List (List ℕ)
  pub given : List ℕ
  pub answers : List LineAnswer
  pub after : List Entry
  pub serves : ServesLines (lane_rules m old site) head before lines given answers after
  pub ended : End
  -- the line at which the store failed, if it did
  pub next : List (List ℕ)
  pub lane : IfSome (m.left old.lane) (λ text. TakesLane text head (lines ++ next) ended)
  pub whole : ℕ
  pub says : Says (replies_from first_line answers) whole (m.written old.replies) (m.written new.replies)
  -- where nothing was to be written, the sink wasn't called
  pub unopened : answers ≡ [] → ended ≢ SinkFault → (ended ≡ DeviceFault → head.kind ≢ operator) → new.replies ≡ old.replies
  pub leaves : LeavesStore m old new site head (replies_from first_line answers) whole says.next next given before after ended
  pub reached : List Entry
  pub reached_is : (reached ≡ after) ⊎ ((ended ≡ DeviceFault) × (fails : FailsToPut m old new site head next given before after)
      × (reached ≡ recorded_after after fails.request (moment_at fails.minute site.offset)))
  pub safe : IsSafe ((m.shown old.disk).moment + 2) before reached (receipts_at (m.shown new.disk).moment answers)
      (m.shown old.disk) (m.shown new.disk)
  -- and where the disk was at rest before, so it is from the beginning on
  pub safe_from_rest : IsAtRest (m.shown old.disk) → IsSafe (m.shown old.disk).moment before reached
      (receipts_at (m.shown new.disk).moment answers) (m.shown old.disk) (m.shown new.disk)
  pub due : Ending
  pub due_is : EndsAs answers ended due
  pub told : Ending
  pub concludes : Concludes due (counts_text answers whole (length after)) out_old out_new before_out now_out told
  pub status_is : status ≡ ending_status told

-- the command stopped before the store was opened, and said why
pub record StopsEarly {S K D C : Type 0} (m : Meanings S K D C) (old new : Parts S K D C) (out_old out_new : Option (List ℕ)) (before_out now_out : ℕ) (status : ℕ) : Type 0 where
  pub stopping : Stopping
  pub stops : StopsBefore m old new stopping
  pub says : SaysLine (last_text stopping) out_old out_new (Rose before_out now_out)
  pub status_is : status ≡ status_of stopping

-- a whole call of `run`
abbrev pub Ran : {S K D C : Type 0} → Meanings S K D C → Parts S K D C → Parts S K D C → Option (List ℕ) → Option (List ℕ) → ℕ → ℕ → ℕ → Type 0
Ran m old new out_old out_new before_out now_out status =
    StopsEarly m old new out_old out_new before_out now_out status ⊎ ServesLane m old new out_old out_new before_out now_out status

-- Completeness

-- nothing is refused: the site's text is a site, the lane has a head, neither text is too long, and the disk keeps a
-- history
pub record IsServable (site_text lane_text contents : List ℕ) : Type 0 where
  pub site : Site
  pub said : SaysSite site_text site
  pub short : length lane_text ≤ longest_text
  pub head : LaneHead
  pub first : List ℕ
  pub behind : List (List ℕ)
  pub lines : lines_of lane_text ≡ first ∷ behind
  pub headed : IsHeadLine head first
  pub history : List Entry
  pub keeps : IsLedgerOf contents history
