-- What a request does to a store: this project's own.
use Rattle.std.specs.Prelude.{◌≡◌, ◌⊎◌, ◌↔◌, ℕ, ◌+◌, ◌<◌, ◌≤◌, ℤ, List, [], ◌∷◌, IsSome, Option, Some, None, Result, Ok, Err}
use Rattle.std.specs.Io.KnownBytes.{append_known}
use Rattle.rep_fields.specs.Moment.{moment_at}
use Rattle.rep_io.specs.Causes.{Rose}
use Rattle.rep_io.specs.Streams.{IsReading}
use Rattle.rep_disk.specs.Disk.{Shown, Changes, IsAtRest, IsOwnImage, last_moment}
use Rattle.rep_disk.specs.Memory.{counted}
use Rattle.rep_wire.specs.declared.request.Request.{Request}
use Rattle.rep_wire.specs.declared.request.Entry.{Entry}
use Rattle.rep_wire.specs.declared.reply.Reply.{Reply}
use Rattle.rep_core.specs.Verdict.{IsVerdict}
use Rattle.rep_core.specs.Answered.{recorded_after, IsReply}
use Rattle.rep_core.specs.declared.verdict.Verdict.TheVariants.{Fresh}
use Rattle.rep_journal.specs.State.{IsRead, Leaves, MakesCalls}
use Rattle.rep_ledger.specs.Ledger.{IsLedgerOf, frames_of}
use Rattle.rep_ledger.specs.Safety.{Receipted, receipted_at}
use Rattle.rep_ledger.specs.Leaving.{ChangesAtEnd, OpensBefore}
use Rattle.rep_store.specs.State.{State}
use Rattle.rep_store.specs.declared.error.Stop.{Stop}
use Rattle.rep_store.specs.declared.error.Stop.TheVariants.{Stopped, DeviceFault, ClockFault, OutOfMemory}

-- the history with the request's entry, recorded at a reading of the clock; without one where there is no reading
abbrev pub recorded_at : List Entry → Request → ℤ → Option ℕ → List Entry
recorded_at h q offset None = h
recorded_at h q offset (Some minute) = recorded_after h q (moment_at minute offset)

-- a clock gave this reading more
pub record Ticks {C : Type 0} (readings_of : C → Option (List ℕ)) (faults_of : C → ℕ) (minute : ℕ) (old new : C) : Type 0 where
  pub in_range : IsReading minute
  pub given : readings_of new ≡ append_known (readings_of old) (minute ∷ [])
  pub no_fault : faults_of new ≡ faults_of old

-- site, history, limit, offset and counts are as before, and the disk was read at most
pub record IsKeptAsWas {D C : Type 0} (shown : D → Shown) (old new : State D C) : Type 0 where
  pub site : new.site ≡ old.site
  pub history : new.history ≡ old.history
  pub limit : new.limit ≡ old.limit
  pub offset : new.offset ≡ old.offset
  pub faults : new.faults ≡ old.faults
  pub stopped : new.stopped ≡ old.stopped
  pub disk : IsRead (shown old.disk) (shown new.disk)

-- nothing changes, and the clock isn't looked at
pub record LeavesAll {D C : Type 0} (shown : D → Shown) (old new : State D C) : Type 0 where
  pub kept : IsKeptAsWas shown old new
  pub no_fault : (shown new.disk).faults ≡ (shown old.disk).faults
  pub clock : new.clock ≡ old.clock
  pub reading : new.reading ≡ None

-- the clock failed, and nothing else changes
pub record MissesTime {D C : Type 0} (shown : D → Shown) (readings_of : C → Option (List ℕ)) (faults_of : C → ℕ) (old new : State D C) : Type 0 where
  pub kept : IsKeptAsWas shown old new
  pub no_disk_fault : (shown new.disk).faults ≡ (shown old.disk).faults
  pub readings : readings_of new.clock ≡ readings_of old.clock
  pub cause : Rose (faults_of old.clock) (faults_of new.clock)
  pub reading : new.reading ≡ None

-- the clock was read, and site, limit and offset are as before
pub record TakesReading {D C : Type 0} (readings_of : C → Option (List ℕ)) (faults_of : C → ℕ) (old new : State D C) : Type 0 where
  pub minute : ℕ
  pub clock : Ticks readings_of faults_of minute old.clock new.clock
  pub reading : new.reading ≡ Some minute
  pub site : new.site ≡ old.site
  pub limit : new.limit ≡ old.limit
  pub offset : new.offset ≡ old.offset

-- up to the end of two device calls a crash leaves the history from before, where the disk tells its contents
abbrev pub StaysClosed : List Entry → Shown → Shown → Type 0
StaysClosed h old new =
    IsSome old.contents → new.moment < last_moment → (m : ℕ) (image : List ℕ) → old.moment ≤ m → m ≤ old.moment + 4
    → m ≤ new.moment → new.may_leave m image → IsLedgerOf image h

-- The request's entry was recorded at a reading of the clock, and the disk keeps the history with it.
pub record Records {D C : Type 0} (shown : D → Shown) (readings_of : C → Option (List ℕ)) (faults_of : C → ℕ) (q : Request) (old new : State D C) : Type 0 where
  pub takes : TakesReading readings_of faults_of old new
  pub history : new.history ≡ recorded_at old.history q old.offset new.reading
  pub faults : new.faults ≡ old.faults
  pub running : new.stopped ≡ None
  pub contents : Changes (λ _ bytes. IsLedgerOf bytes new.history) (shown old.disk).contents (shown new.disk).contents
  pub text : Leaves (frames_of new.history) (shown old.disk).contents (shown new.disk).contents
  pub rest : IsAtRest (shown new.disk)
  pub closed : StaysClosed old.history (shown old.disk) (shown new.disk)
  pub at_gate : OpensBefore old.history new.history (shown old.disk) (shown new.disk) ((shown old.disk).moment + 7)
  pub calls : MakesCalls 4 (shown old.disk) (shown new.disk)
  pub own : IsOwnImage (shown old.disk) ↔ IsOwnImage (shown new.disk)
  pub no_fault : (shown new.disk).faults ≡ (shown old.disk).faults

-- What is left of the history where the device call of this number failed while an entry was put: the first two write
-- the frame and make sure of it, the others open its gate and make sure of that.
pub record IsLeftAt (failed : ℕ) (without with_entry : List Entry) (bytes : List ℕ) : Type 0 where
  pub early : failed ≤ 2 → IsLedgerOf bytes without
  pub late : failed ≡ 4 → IsLedgerOf bytes with_entry
  pub either : IsLedgerOf bytes without ⊎ IsLedgerOf bytes with_entry

-- The disk failed while the request's entry was put. The store has stopped with its history from before, and the disk
-- keeps that, with the entry or without it.
pub record Stops {D C : Type 0} (shown : D → Shown) (readings_of : C → Option (List ℕ)) (faults_of : C → ℕ) (q : Request) (old new : State D C) : Type 0 where
  pub takes : TakesReading readings_of faults_of old new
  pub fresh : IsVerdict old.limit old.history q Fresh
  pub history : new.history ≡ old.history
  pub counts : new.faults ≡ counted old.faults
  pub stopped : new.stopped ≡ Some new.faults
  pub cause : Rose (shown old.disk).faults (shown new.disk).faults
  pub failed : ℕ
  pub some : 0 < failed
  pub within : failed ≤ 4
  pub calls : MakesCalls failed (shown old.disk) (shown new.disk)
  pub contents : Changes
      (λ _ bytes. IsLeftAt failed old.history (recorded_at old.history q old.offset new.reading) bytes)
      (shown old.disk).contents (shown new.disk).contents
  pub around : Changes (ChangesAtEnd failed old.history (recorded_at old.history q old.offset new.reading))
      (shown old.disk).contents (shown new.disk).contents
  pub closed : StaysClosed old.history (shown old.disk) (shown new.disk)
  pub at_gate : OpensBefore old.history (recorded_at old.history q old.offset new.reading) (shown old.disk) (shown new.disk) (shown new.disk).moment
  pub own : IsOwnImage (shown old.disk) ↔ IsOwnImage (shown new.disk)

-- The request was served: recorded where it was to be recorded, and else nothing changed. The reply is that over the
-- history as it stands then.
pub record Serves {D C : Type 0} (shown : D → Shown) (readings_of : C → Option (List ℕ)) (faults_of : C → ℕ) (q : Request) (reply : Reply) (old new : State D C) : Type 0 where
  pub running : old.stopped ≡ None
  pub served : (IsVerdict old.limit old.history q Fresh × Records shown readings_of faults_of q old new)
      ⊎ ((IsVerdict old.limit old.history q Fresh → ⊥) × LeavesAll shown old new)
  pub answered : IsReply old.limit new.history q reply

-- what is done where a request is to be recorded, by the answer
abbrev pub Tries : {D C : Type 0} → (D → Shown) → (C → Option (List ℕ)) → (C → ℕ) → Request → State D C → State D C → Result Reply Stop → Type 0
Tries shown readings_of faults_of q old new (Ok reply) =
    Records shown readings_of faults_of q old new × IsReply old.limit new.history q reply
Tries shown readings_of faults_of q old new (Err (Stopped faults)) = ⊥
Tries shown readings_of faults_of q old new (Err DeviceFault) = Stops shown readings_of faults_of q old new
Tries shown readings_of faults_of q old new (Err ClockFault) = MissesTime shown readings_of faults_of old new
Tries shown readings_of faults_of q old new (Err OutOfMemory) = LeavesAll shown old new

-- the receipt that was answered at a moment, if one was
abbrev pub receipts_of : ℕ → Result Reply Stop → List Receipted
receipts_of moment (Ok reply) = receipted_at moment reply.answer
receipts_of moment (Err stop) = []
