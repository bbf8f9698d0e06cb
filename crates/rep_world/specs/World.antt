-- The recorder and what happens to it, as a world of events: this project's own. Its disk is one in memory, whose images say
-- what a crash may leave.
use Rattle.std.specs.Prelude.{◌≡◌, ℕ, suc, ◌<◌, Bool, true, List, [], ◌∷◌, ◌++◌, length, All, Contains}
use Rattle.rep_fields.specs.Moment.{moment_at}
use Rattle.rep_disk.specs.Disk.{IsAtRest, last_moment}
use Rattle.rep_disk.specs.Memory.{Memory, memory_shown}
use Rattle.rep_wire.specs.declared.request.Request.{Request}
use Rattle.rep_wire.specs.declared.request.Entry.{Entry}
use Rattle.rep_wire.specs.declared.reply.Slip.{Slip}
use Rattle.rep_core.specs.History.{IsNew, IsNumbered}
use Rattle.rep_core.specs.Answered.{entry_of, slip_of}
use Rattle.rep_ledger.specs.Ledger.{IsLedgerOf}
use Rattle.rep_ledger.specs.Safety.{IsFrontOf}
use Rattle.rep_site.specs.declared.site.Site.{Site}
use Rattle.rep_world.specs.declared.naming.Naming.{Naming}

pub record World : Type 0 where
  pub site : Site
  -- the messages, by number
  pub sent : List Request
  -- the events that named a message while the recorder was up
  pub named : List Naming
  -- the receipts that were issued, also those whose reply was lost
  pub issued : List Slip
  pub disk : Memory
  pub up : Bool

-- the message with this number, counted from 1
pub record IsMessage (sent : List Request) (k : ℕ) (q : Request) : Type 0 where
  pub before : List Request
  pub behind : List Request
  pub split : sent ≡ before ++ q ∷ behind
  pub number : k ≡ suc (length before)

-- the entry is that of a message that an event named, recorded at the minute of that event
pub record IsNamed (w : World) (e : Entry) : Type 0 where
  pub naming : Naming
  pub listed : Contains w.named naming
  pub request : Request
  pub message : IsMessage w.sent naming.message request
  pub made : e ≡ entry_of request (moment_at naming.minute w.site.offset)

-- each entry but the first
abbrev pub BehindFirst : (Entry → Type 0) → List Entry → Type 0
BehindFirst P [] = Unit {0}
BehindFirst P (first ∷ h) = All P h

-- the receipt is that of the entry with its number
abbrev pub IsReceiptIn : List Entry → Slip → Type 0
IsReceiptIn h slip = (e : Entry) × IsNumbered h slip.nsr e × (slip ≡ slip_of h slip.nsr e.body)

-- The history has the entry of each receipt that was ever issued, and consists of a first entry and of messages that were
-- sent.
pub record IsHistory (w : World) (h : List Entry) : Type 0 where
  pub receipts : All (IsReceiptIn h) w.issued
  pub of_messages : BehindFirst (IsNamed w) h

-- no two entries came by the same origin and sequence number
abbrev pub HasPairsOnce : List Entry → Type 0
HasPairsOnce h = (before : List Entry) (e : Entry) (behind : List Entry) → h ≡ before ++ e ∷ behind → IsNew e.origin e.seq before

-- the bytes keep such a history
pub record Keeps (w : World) (bytes : List ℕ) : Type 0 where
  pub history : List Entry
  pub ledger : IsLedgerOf bytes history
  pub once : HasPairsOnce history
  pub is_history : IsHistory w history

-- what a crash may leave now
abbrev pub IsImage : World → List ℕ → Type 0
IsImage w image = (memory_shown w.disk).may_leave w.disk.moment image

-- What holds of each world: its bytes and every image keep such a history, and while the recorder is up there is no image
-- but its bytes. What is said of images holds below the last value of a moment.
pub record IsWorld (w : World) : Type 0 where
  pub bytes : Keeps w w.disk.bytes
  pub images : w.disk.moment < last_moment → (image : List ℕ) → IsImage w image → Keeps w image
  pub rest : w.up ≡ true → IsAtRest (memory_shown w.disk)

-- the bytes keep a history that begins with this one
abbrev pub KeepsFrom : List Entry → List ℕ → Type 0
KeepsFrom h bytes = (after : List Entry) × IsLedgerOf bytes after × IsFrontOf h after

-- The recorder has made sure of a history: the bytes and every image keep one that begins with it.
pub record HasMadeSure (w : World) (h : List Entry) : Type 0 where
  pub bytes : KeepsFrom h w.disk.bytes
  pub images : w.disk.moment < last_moment → (image : List ℕ) → IsImage w image → KeepsFrom h image
