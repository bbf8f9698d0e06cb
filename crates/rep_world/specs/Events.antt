-- The events of a world, and what each does: this project's own.
use Rattle.std.specs.Prelude.{◌≡◌, ◌⊎◌, ◌↔◌, ℕ, ◌+◌, ◌-◌, ◌*◌, ◌<◌, ◌≤◌, Bool, true, false, if◌then◌else◌, nat_le, List, [], ◌∷◌, ◌++◌, length, drop, IfOk, OnErr, Result, Err}
use Rattle.rep_fields.specs.Moment.{moment_at}
use Rattle.rep_io.specs.Streams.{IsReading}
use Rattle.rep_disk.specs.Disk.{IsAtRest, last_moment}
use Rattle.rep_disk.specs.Record.{image_of}
use Rattle.rep_disk.specs.Memory.{Memory, memory_shown, state_at}
use Rattle.rep_disk.specs.declared.image.Image.{Image}
use Rattle.rep_wire.specs.Request.{IsRequest}
use Rattle.rep_wire.specs.declared.request.Request.{Request}
use Rattle.rep_wire.specs.declared.request.Entry.{Entry}
use Rattle.rep_wire.specs.declared.reply.Answer.{Answer}
use Rattle.rep_wire.specs.declared.reply.Answer.TheVariants.{Receipt, Refused}
use Rattle.rep_wire.specs.declared.reply.Reply.{Reply}
use Rattle.rep_wire.specs.declared.reply.Slip.{Slip}
use Rattle.rep_core.specs.Verdict.{IsVerdict}
use Rattle.rep_core.specs.Answered.{recorded_after, entry_of, IsReply}
use Rattle.rep_core.specs.declared.verdict.Verdict.TheVariants.{Fresh}
use Rattle.rep_journal.specs.Format.{closed_gate, end_of, front_text}
use Rattle.rep_ledger.specs.Ledger.{IsLedgerOf, frames_of}
use Rattle.rep_ledger.specs.Safety.{IsFrontOf}
use Rattle.rep_ledger.specs.Leaving.{history_named}
use Rattle.rep_site.specs.declared.site.Site.{Site}
use Rattle.rep_store.specs.Extracting.{IsAfdOf}
use Rattle.rep_store.specs.Founding.{founding_request}
use Rattle.rep_world.specs.declared.naming.Naming.{Naming}
use Rattle.rep_world.specs.World.{World, IsMessage, IsImage, HasMadeSure}
use Rattle.rep_world.specs.declared.event.Event.{Event}
use Rattle.rep_world.specs.declared.event.Event.TheVariants.{Send, Deliver, Fail, Crash, Rest, Reopen, Extract}
use Rattle.rep_world.specs.declared.event.Seen.{Seen}
use Rattle.rep_world.specs.declared.event.Seen.TheVariants.{Sent, Answered, ReplyLost, Failed, Crashed, AtRest, Opened, Extracted, Idle}
use Rattle.rep_world.specs.declared.event.WorldStop.{WorldStop}
use Rattle.rep_world.specs.declared.event.WorldStop.TheVariants.{NotSent}

-- the minute at which a world's journal is made: 2024-03-04T07:00 at the offset -0300
abbrev pub first_minute : ℕ
first_minute = 28492440

-- the recorder was just made: its journal has the site's employer record, and is at rest
pub record IsNewWorld (site : Site) (w : World) : Type 0 where
  pub of_site : w.site ≡ site
  pub sent : w.sent ≡ []
  pub named : w.named ≡ []
  pub issued : w.issued ≡ []
  pub up : w.up ≡ true
  pub ledger : IsLedgerOf w.disk.bytes (entry_of (founding_request site) (moment_at first_minute site.offset) ∷ [])
  pub rest : IsAtRest (memory_shown w.disk)

-- an event that a line of a schedule can give
abbrev pub IsPlayable : Event → Type 0
IsPlayable (Send request) = IsRequest request
IsPlayable (Deliver k minute lost) = IsReading minute
IsPlayable (Fail k minute call) = IsReading minute × (1 ≤ call) × (call ≤ 4)
IsPlayable (Crash k minute call image) = IsReading minute × (1 ≤ call) × (call ≤ 4)
IsPlayable (Rest image) = Unit {0}
IsPlayable Reopen = Unit {0}
IsPlayable (Extract from to minute) = (from ≤ to) × IsReading minute

-- site and messages are as before
pub record SamePeople (old new : World) : Type 0 where
  pub site : new.site ≡ old.site
  pub sent : new.sent ≡ old.sent

-- the receipt of an answer, if it is one
abbrev pub receipts_in : Answer → List Slip
receipts_in (Receipt slip) = slip ∷ []
receipts_in (Refused code) = []

-- the event named this message
abbrev pub named_by : World → ℕ → ℕ → List Naming
named_by w k minute = w.named ++ record { message = k; minute = minute } ∷ []

-- The request is to be recorded, and its entry was put behind the history.
pub record RecordsIn (site : Site) (minute : ℕ) (q : Request) (h : List Entry) (old : List ℕ) (after : List Entry) (new : List ℕ) : Type 0 where
  pub fresh : IsVerdict site.last_nsr h q Fresh
  pub recorded : after ≡ recorded_after h q (moment_at minute site.offset)
  pub text : new ≡ front_text (frames_of after) ++ closed_gate ∷ drop (1 + end_of (frames_of after)) old

-- The request isn't to be recorded, and nothing was written.
pub record SettlesIn (site : Site) (q : Request) (h : List Entry) (old : List ℕ) (after : List Entry) (new : List ℕ) : Type 0 where
  pub settled : IsVerdict site.last_nsr h q Fresh → ⊥
  pub same : after ≡ h
  pub text : new ≡ old

-- The message was served over the history that the bytes kept, at that minute, and the reply is that over the history that
-- they keep then, which is sure.
pub record Serves (k minute : ℕ) (old new : World) (reply : Reply) : Type 0 where
  pub request : Request
  pub message : IsMessage old.sent k request
  pub before : List Entry
  pub kept : IsLedgerOf old.disk.bytes before
  pub after : List Entry
  pub keeps : IsLedgerOf new.disk.bytes after
  pub recorded : RecordsIn old.site minute request before old.disk.bytes after new.disk.bytes
      ⊎ SettlesIn old.site request before old.disk.bytes after new.disk.bytes
  pub answered : IsReply old.site.last_nsr after request reply
  pub issued : new.issued ≡ old.issued ++ receipts_in reply.answer
  pub named : new.named ≡ named_by old k minute
  pub sure : HasMadeSure new after
  pub up : new.up ≡ true
  pub people : SamePeople old new

-- what is seen of a reply: that it is lost, or the reply itself
abbrev pub SeesReply : Bool → ℕ → Reply → Seen → Type 0
SeesReply true seq reply seen = seen ≡ ReplyLost
SeesReply false seq reply seen = seen ≡ Answered seq reply

pub record Delivers (k minute : ℕ) (lost : Bool) (old new : World) (seen : Seen) : Type 0 where
  pub reply : Reply
  pub serves : Serves k minute old new reply
  pub sees : SeesReply lost serves.request.seq reply seen

-- so many entries are those of the history that the bytes keep
pub record Counts (bytes : List ℕ) (n : ℕ) : Type 0 where
  pub history : List Entry
  pub ledger : IsLedgerOf bytes history
  pub count : n ≡ length history

-- the recorder is down, and what it issued is as before
pub record GoesDown (old new : World) : Type 0 where
  pub down : new.up ≡ false
  pub issued : new.issued ≡ old.issued
  pub people : SamePeople old new

-- The message is to be recorded after the history that the bytes keep, as this entry's history.
pub record IsDue (k minute : ℕ) (w : World) : Type 0 where
  pub request : Request
  pub message : IsMessage w.sent k request
  pub before : List Entry
  pub kept : IsLedgerOf w.disk.bytes before
  pub fresh : IsVerdict w.site.last_nsr before request Fresh
  pub whole : List Entry
  pub is_whole : whole ≡ recorded_after before request (moment_at minute w.site.offset)

-- the bytes keep a history between these two
abbrev pub KeepsBetween : List Entry → List Entry → List ℕ → Type 0
KeepsBetween before whole bytes = (h : List Entry) × IsLedgerOf bytes h × IsFrontOf before h × IsFrontOf h whole

-- What the bytes keep where the device call with this number failed: a write that fails isn't made.
abbrev pub history_left : ℕ → List Entry → List Entry → List Entry
history_left call without whole = if nat_le call 3 then without else whole

-- What the image of this name keeps within the device call with this number: up to the frame's sync no image has the entry.
abbrev pub history_at : ℕ → Image → List Entry → List Entry → List Entry
history_at call name without whole = if nat_le call 2 then without else history_named name without whole

-- The device call with this number of the message's put failed, and those before it were made.
pub record FailsAtCall (k minute call : ℕ) (old new : World) (seen : Seen) : Type 0 where
  pub due : IsDue k minute old
  pub down : GoesDown old new
  pub named : new.named ≡ named_by old k minute
  pub left : IsLedgerOf new.disk.bytes (history_left call due.before due.whole)
  pub images : new.disk.moment < last_moment → (image : List ℕ) → IsImage new image → KeepsBetween due.before due.whole image
  -- where the frame isn't sure yet, no image has the entry
  pub closed : call ≤ 2 → new.disk.moment < last_moment → (image : List ℕ) → IsImage new image → IsLedgerOf image due.before
  -- which history a crash leaves then, by the image's name
  pub by_name : new.disk.moment < last_moment → (name : Image)
      → IsLedgerOf (image_of name (state_at new.disk new.disk.moment)) (history_at call name due.before due.whole)
  pub entries : ℕ
  pub counted : Counts new.disk.bytes entries
  pub sees : seen ≡ Failed entries

-- The entry that makes this history whole was put by four device calls, on a disk that had nothing but these bytes at that
-- moment. Up to the end of the second one no image has it.
pub record PutsOn (bytes : List ℕ) (before whole : List Entry) (begun : ℕ) (during : Memory) : Type 0 where
  pub calls : during.moment ≡ begun + 8
  pub rested : (image : List ℕ) → (memory_shown during).may_leave begun image → image ≡ bytes
  pub closed : (m : ℕ) (image : List ℕ) → begun ≤ m → m ≤ begun + 4 → (memory_shown during).may_leave m image
      → IsLedgerOf image before
  pub text : during.bytes ≡ front_text (frames_of whole) ++ closed_gate ∷ drop (1 + end_of (frames_of whole)) bytes

-- A crash came within the device call with this number of the message's put: the bytes are this image of that moment, at
-- rest.
pub record CrashesAtCall (k minute call : ℕ) (image : Image) (old new : World) (seen : Seen) : Type 0 where
  pub due : IsDue k minute old
  pub down : GoesDown old new
  pub named : new.named ≡ named_by old k minute
  pub during : Memory
  pub begun : ℕ
  pub puts : PutsOn old.disk.bytes due.before due.whole begun during
  pub left : new.disk.bytes ≡ image_of image (state_at during (begun + (2 * call - 1)))
  pub allowed : (memory_shown during).may_leave (begun + (2 * call - 1)) new.disk.bytes
  pub keeps : IsLedgerOf new.disk.bytes (history_at call image due.before due.whole)
  pub rest : IsAtRest (memory_shown new.disk)
  pub entries : ℕ
  pub counted : Counts new.disk.bytes entries
  pub sees : seen ≡ Crashed entries

-- the first where the recorder is up, else the second
abbrev pub WhileUp : Bool → Type 0 → Type 0 → Type 0
WhileUp true Up Down = Up
WhileUp false Up Down = Down

-- A crash came between calls: the bytes are this image of now, at rest. While the recorder is up there is no image but its
-- bytes.
pub record Rests (image : Image) (old new : World) (seen : Seen) : Type 0 where
  pub down : GoesDown old new
  pub named : new.named ≡ old.named
  pub left : WhileUp old.up (new.disk.bytes ≡ old.disk.bytes)
      (new.disk.bytes ≡ image_of image (state_at old.disk old.disk.moment))
  pub allowed : IsImage old new.disk.bytes
  pub rest : IsAtRest (memory_shown new.disk)
  pub entries : ℕ
  pub counted : Counts new.disk.bytes entries
  pub sees : seen ≡ AtRest entries

-- The recorder was opened on the bytes as they stand, which are at rest then: the history that they keep is sure.
pub record Opens (old new : World) (seen : Seen) : Type 0 where
  pub up : new.up ≡ true
  pub bytes : new.disk.bytes ≡ old.disk.bytes
  pub rest : IsAtRest (memory_shown new.disk)
  pub history : List Entry
  pub ledger : IsLedgerOf new.disk.bytes history
  pub sure : HasMadeSure new history
  pub issued : new.issued ≡ old.issued
  pub named : new.named ≡ old.named
  pub people : SamePeople old new
  pub sees : seen ≡ Opened (length history)

-- The AFD of a period, with a head of this minute, was extracted out of the history that the bytes keep, and how many bytes
-- it has is seen. Nothing changes.
pub record ExtractsAt (from to minute : ℕ) (old new : World) (seen : Seen) : Type 0 where
  pub same : new ≡ old
  pub history : List Entry
  pub ledger : IsLedgerOf old.disk.bytes history
  pub afd : List ℕ
  pub is_afd : IsAfdOf old.site history from to minute afd
  pub sees : seen ≡ Extracted (length afd)

-- nothing happens
pub record StaysIdle (old new : World) (seen : Seen) : Type 0 where
  pub same : new ≡ old
  pub sees : seen ≡ Idle

-- a message is added
pub record Sends (request : Request) (old new : World) (seen : Seen) : Type 0 where
  pub added : new ≡ record old { sent = old.sent ++ request ∷ [] }
  pub sees : seen ≡ Sent (length old.sent + 1)

-- the message isn't to be recorded, and is served as it is delivered
pub record DeliversSettled (k minute : ℕ) (old new : World) (seen : Seen) : Type 0 where
  pub delivers : Delivers k minute false old new seen
  pub settled : IsVerdict old.site.last_nsr delivers.serves.before delivers.serves.request Fresh → ⊥

-- what an event does where it names no message that wasn't sent, and what is seen of it
abbrev pub Happens : Event → World → World → Seen → Type 0
Happens (Send request) old new seen = Sends request old new seen
Happens (Deliver k minute lost) old new seen = WhileUp old.up (Delivers k minute lost old new seen) (StaysIdle old new seen)
Happens (Fail k minute call) old new seen =
    WhileUp old.up (FailsAtCall k minute call old new seen ⊎ DeliversSettled k minute old new seen) (StaysIdle old new seen)
Happens (Crash k minute call image) old new seen =
    WhileUp old.up (CrashesAtCall k minute call image old new seen ⊎ DeliversSettled k minute old new seen) (StaysIdle old new seen)
Happens (Rest image) old new seen = Rests image old new seen
Happens Reopen old new seen = WhileUp old.up (StaysIdle old new seen) (Opens old new seen)
Happens (Extract from to minute) old new seen = WhileUp old.up (ExtractsAt from to minute old new seen) (StaysIdle old new seen)

-- no message has this number
abbrev pub IsUnsent : List Request → ℕ → Type 0
IsUnsent sent k = (k ≡ 0) ⊎ (length sent < k)

-- the event names a message that wasn't sent
abbrev pub NamesUnsent : Event → World → Type 0
NamesUnsent (Send request) w = ⊥
NamesUnsent (Deliver k minute lost) w = IsUnsent w.sent k
NamesUnsent (Fail k minute call) w = IsUnsent w.sent k
NamesUnsent (Crash k minute call image) w = IsUnsent w.sent k
NamesUnsent (Rest image) w = ⊥
NamesUnsent Reopen w = ⊥
NamesUnsent (Extract from to minute) w = ⊥

-- an event is a step of a world: it names no message that wasn't sent, up or down
pub record Steps (event : Event) (old new : World) (seen : Seen) : Type 0 where
  pub sent : NamesUnsent event old → ⊥
  pub happens : Happens event old new seen

-- nothing happened, though the disk may have been read, or room been taken
pub record IsAsBefore (old new : World) : Type 0 where
  pub people : SamePeople old new
  pub named : new.named ≡ old.named
  pub issued : new.issued ≡ old.issued
  pub up : new.up ≡ old.up
  pub bytes : new.disk.bytes ≡ old.disk.bytes
  pub images : new.disk.moment < last_moment → (image : List ℕ) → IsImage new image ↔ IsImage old image
  pub time : old.disk.moment ≤ new.disk.moment

-- What was sure stays sure, and what was sent, named and issued stays so.
pub record GoesOn (old new : World) : Type 0 where
  pub site : new.site ≡ old.site
  pub sent : (more : List Request) × (new.sent ≡ old.sent ++ more)
  pub named : (more : List Naming) × (new.named ≡ old.named ++ more)
  pub issued : (more : List Slip) × (new.issued ≡ old.issued ++ more)
  pub sure : (h : List Entry) → HasMadeSure old h → HasMadeSure new h

-- an event was played, or wasn't
pub record Does (event : Event) (old new : World) (result : Result Seen WorldStop) : Type 0 where
  pub steps : IfOk result (Steps event old new)
  pub not_sent : (result ≡ Err NotSent) ↔ NamesUnsent event old
  pub as_before : OnErr result (IsAsBefore old new)
  pub goes_on : GoesOn old new
