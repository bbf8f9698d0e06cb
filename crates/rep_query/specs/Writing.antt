-- The AFD of a period, written out of a store and told: this project's own.
use Rattle.std.specs.Prelude.{◌≡◌, ℕ, List, [], Option, None, Result, Ok, Err}
use Rattle.rep_io.specs.Causes.{Rose}
use Rattle.rep_disk.specs.Disk.{Shown}
use Rattle.rep_core.specs.History.{days_of}
use Rattle.afd_extract.specs.Period.{IsPeriod, Range}
use Rattle.rep_ledger.specs.Safety.{IsSafe}
use Rattle.rep_store.specs.Extracting.{Extracts}
use Rattle.rep_store.specs.State.{State}
use Rattle.rep_store.specs.Steps as steps
use Rattle.rep_store.specs.declared.error.ExtractFail.{ExtractFail}
use Rattle.rep_store.specs.declared.error.ExtractFail.TheVariants as fail
use Rattle.rep_report.specs.Saying.{Concludes}
use Rattle.rep_report.specs.declared.ending.Ending.{Ending}
use Rattle.rep_report.specs.declared.ending.Ending.TheVariants.{AllAnswered, SinkFault, DeviceFault, ClockFault}
use Rattle.rep_query.specs.Lines.{extracted_text, numbers_of}

-- How a command ends where an extraction isn't whole; a store that has stopped is none that was opened just now.
abbrev pub ending_of : ExtractFail → Ending
ending_of (fail.Stopped faults) = DeviceFault
ending_of fail.ClockFault = ClockFault
ending_of fail.SinkFault = SinkFault
ending_of fail.DeviceFault = DeviceFault

-- what an extraction leaves of a store, by its result, and the line that is said of it
abbrev pub LeavesStore : {K D C : Type 0} → (D → Shown) → (C → Option (List ℕ)) → (C → ℕ) → (K → Option (List ℕ)) → (K → ℕ) → ℕ → ℕ → Range → State D C → State D C → K → K → List ℕ → Result ℕ ExtractFail → Type 0
LeavesStore shown readings faults written sink_faults from to range old new was now counts (Ok size) =
    Extracts shown readings faults None from to old new (written was) (written now) (Ok size)
    × (counts ≡ extracted_text (numbers_of range).0 (numbers_of range).1 size)
LeavesStore shown readings faults written sink_faults from to range old new was now counts (Err (fail.Stopped count)) = ⊥
LeavesStore shown readings faults written sink_faults from to range old new was now counts (Err fail.ClockFault) =
    steps.MissesTime shown readings faults old new × (now ≡ was) × (counts ≡ [])
LeavesStore shown readings faults written sink_faults from to range old new was now counts (Err fail.SinkFault) =
    Extracts shown readings faults None from to old new (written was) (written now) (Err fail.SinkFault)
    × Rose (sink_faults was) (sink_faults now) × (counts ≡ [])
LeavesStore shown readings faults written sink_faults from to range old new was now counts (Err fail.DeviceFault) =
    Extracts shown readings faults None from to old new (written was) (written now) (Err fail.DeviceFault)
    × Rose (shown old.disk).faults (shown new.disk).faults × (counts ≡ [])

-- how a command ends by the result of an extraction
abbrev pub ending_by : Result ℕ ExtractFail → Ending
ending_by (Ok size) = AllAnswered
ending_by (Err why) = ending_of why

-- The AFD of a period was written out of a store, and that was said.
pub record WritesOut {K D C : Type 0} (shown : D → Shown) (readings : C → Option (List ℕ)) (faults : C → ℕ) (written : K → Option (List ℕ)) (sink_faults : K → ℕ) (from to : ℕ) (old new : State D C) (was now : K) (out_old out_new : Option (List ℕ)) (before after : ℕ) (told : Ending) : Type 0 where
  pub range : Range
  pub period : IsPeriod (days_of old.history) from to range
  pub result : Result ℕ ExtractFail
  pub counts : List ℕ
  pub leaves : LeavesStore shown readings faults written sink_faults from to range old new was now counts result
  pub concludes : Concludes (ending_by result) counts out_old out_new before after told
  pub safe : IsSafe (shown old.disk).moment old.history old.history [] (shown old.disk) (shown new.disk)
