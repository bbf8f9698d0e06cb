-- A store as the desk of a lane: this project's own.
use Rattle.std.specs.Prelude.{◌≡◌, ℕ, List, [], length, Bool, true, false, IsFalse, IsSome, Option, Some, None, Result, Ok, Err}
use Rattle.rep_io.specs.Causes.{Rose}
use Rattle.rep_disk.specs.Disk.{Shown}
use Rattle.rep_core.specs.Verdict.{IsVerdict}
use Rattle.rep_core.specs.declared.verdict.Verdict.TheVariants.{Fresh}
use Rattle.rep_wire.specs.declared.request.Request.{Request}
use Rattle.rep_wire.specs.declared.reply.Reply.{Reply}
use Rattle.rep_lane.specs.Answers.{Extracted}
use Rattle.rep_lane.specs.declared.desk.DeskFail.{DeskFail}
use Rattle.rep_lane.specs.declared.desk.DeskFail.TheVariants.{Stopped, DeviceFault, ClockFault, SinkFault, OutOfMemory}
use Rattle.rep_store.specs.State.{State}
use Rattle.rep_store.specs.Filing.{IsReadBy}
use Rattle.rep_store.specs.Steps.{LeavesAll, MissesTime, Serves, Stops, Ticks, recorded_at}
use Rattle.rep_ledger.specs.Safety.{IsSafe, Receipted, receipted_at}
use Rattle.rep_run.specs.Extraction.{IsExtraction, IsExtractOf}

-- what asking for a request does to the store, by its answer
abbrev pub AsksBy : {D C : Type 0} → (D → Shown) → (C → Option (List ℕ)) → (C → ℕ) → State D C → Request → Result Reply DeskFail → State D C → Type 0
AsksBy shown readings faults old q (Ok reply) new = Serves shown readings faults q reply old new
AsksBy shown readings faults old q (Err Stopped) new = (count : ℕ) × (old.stopped ≡ Some count) × LeavesAll shown old new
AsksBy shown readings faults old q (Err DeviceFault) new = Stops shown readings faults q old new
AsksBy shown readings faults old q (Err ClockFault) new =
    IsVerdict old.limit old.history q Fresh × MissesTime shown readings faults old new
AsksBy shown readings faults old q (Err SinkFault) new = ⊥
AsksBy shown readings faults old q (Err OutOfMemory) new =
    IsVerdict old.limit old.history q Fresh × LeavesAll shown old new

-- the receipt that was answered at a moment, if one was
abbrev pub receipts_of : ℕ → Result Reply DeskFail → List Receipted
receipts_of moment (Ok reply) = receipted_at moment reply.answer
receipts_of moment (Err why) = []

-- what asking for a request leaves, by the answer, and what a crash leaves of it
pub record Asks {D C : Type 0} (shown : D → Shown) (readings : C → Option (List ℕ)) (faults : C → ℕ) (old : State D C) (q : Request)
    (result : Result Reply DeskFail) (new : State D C) : Type 0 where
  pub answered : AsksBy shown readings faults old q result new
  pub safe : old.stopped ≡ None → IsSafe (shown old.disk).moment old.history (recorded_at old.history q old.offset new.reading)
      (receipts_of (shown new.disk).moment result) (shown old.disk) (shown new.disk)

-- The clock was read, the disk was read at most, and the history stays. The disk failed only where that is said.
pub record TakesTime {D C : Type 0} (shown : D → Shown) (readings : C → Option (List ℕ)) (faults : C → ℕ) (failed : Bool) (old new : State D C) : Type 0 where
  pub running : old.stopped ≡ None
  pub kept : IsReadBy shown failed old new
  pub minute : ℕ
  pub clock : Ticks readings faults minute old.clock new.clock
  pub no_fault : IsFalse failed → (shown new.disk).faults ≡ (shown old.disk).faults

-- the extraction was made
pub record Extracts {D C : Type 0} (shown : D → Shown) (readings : C → Option (List ℕ)) (faults : C → ℕ) (old : State D C) (from to : ℕ) (due : Extracted)
    (new : State D C) : Type 0 where
  pub takes : TakesTime shown readings faults false old new
  pub front : due.front ≡ length old.history
  pub made : IsExtraction (IsSome (shown old.disk).contents) old.site old.history from to takes.minute due.size due.afd

-- the sink or the disk failed in an extraction, of which this was due
pub record CutsExtract {D C : Type 0} (shown : D → Shown) (readings : C → Option (List ℕ)) (faults : C → ℕ) (failed : Bool) (old : State D C) (from to : ℕ)
    (due : Extracted) (new : State D C) : Type 0 where
  pub takes : TakesTime shown readings faults failed old new
  pub front : due.front ≡ length old.history
  pub made : IsSome (shown old.disk).contents → IsExtractOf old.site old.history from to takes.minute due.size due.afd

-- what an extraction does to the store, by its answer
abbrev pub ExtractsBy : {D C : Type 0} → (D → Shown) → (C → Option (List ℕ)) → (C → ℕ) → State D C → ℕ → ℕ → Extracted → Result (Unit {0}) DeskFail
    → State D C → Type 0
ExtractsBy shown readings faults old from to due (Ok done) new = Extracts shown readings faults old from to due new
ExtractsBy shown readings faults old from to due (Err Stopped) new = (count : ℕ) × (old.stopped ≡ Some count) × LeavesAll shown old new
ExtractsBy shown readings faults old from to due (Err DeviceFault) new =
    CutsExtract shown readings faults true old from to due new × Rose (shown old.disk).faults (shown new.disk).faults
ExtractsBy shown readings faults old from to due (Err ClockFault) new = MissesTime shown readings faults old new
ExtractsBy shown readings faults old from to due (Err SinkFault) new = CutsExtract shown readings faults false old from to due new
ExtractsBy shown readings faults old from to due (Err OutOfMemory) new = ⊥

-- what an extraction leaves, by the answer, and what a crash leaves of it
pub record Files {D C : Type 0} (shown : D → Shown) (readings : C → Option (List ℕ)) (faults : C → ℕ) (old : State D C) (from to : ℕ) (due : Extracted)
    (result : Result (Unit {0}) DeskFail) (new : State D C) : Type 0 where
  pub answered : ExtractsBy shown readings faults old from to due result new
  pub safe : old.stopped ≡ None → IsSafe (shown old.disk).moment old.history old.history [] (shown old.disk) (shown new.disk)

-- all entries are shown
abbrev pub Shows : {D C : Type 0} → State D C → ℕ → State D C → Type 0
Shows old front new = (front ≡ length old.history) × (new ≡ old)
