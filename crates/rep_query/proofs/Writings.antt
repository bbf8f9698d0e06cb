-- What an extraction that isn't whole leaves.
use Rattle.std.proofs.Common.{◌≡◌, ◌≢◌, ◌∙◌, inl, inr, ap, ℕ, List, [], Option, Some, None, Result, Err, sym, subst}
use Rattle.rep_io.specs.Causes.{Rose}
use Rattle.rep_disk.specs.Disk.{Shown}
use Rattle.afd_extract.specs.Period.{Range}
use Rattle.rep_store.specs.Extracting.{Extracts}
use Rattle.rep_store.specs.State.{State}
use Rattle.rep_store.specs.Steps.{MissesTime}
use Rattle.rep_store.specs.declared.error.ExtractFail.{ExtractFail}
use Rattle.rep_store.specs.declared.error.ExtractFail.TheVariants as fail
use Rattle.rep_report.specs.Saying.{Tells}
use Rattle.rep_report.specs.declared.ending.Ending.{Ending}
use Rattle.rep_report.specs.declared.ending.Ending.TheVariants as ending
use Rattle.rep_run.proofs.Known.{same_err}
use Rattle.rep_query.specs.Writing.{LeavesStore, ending_of}

-- what an extraction that isn't whole leaves of a store
pub leaves_err : {K D C : Type 0} (shown : D → Shown) (readings : C → Option (List ℕ)) (faults : C → ℕ) (written : K → Option (List ℕ)) (sink_faults : K → ℕ) (from to : ℕ) (range : Range) (old new : State D C) (was now : K) (counts : List ℕ) (result : Result ℕ ExtractFail) (why : ExtractFail) → result ≡ Err why → old.stopped ≡ None
    → ((count : ℕ) → result ≡ Err (fail.Stopped count) → old.stopped ≡ Some count)
    → (result ≡ Err fail.ClockFault → MissesTime shown readings faults old new × (now ≡ was))
    → (result ≡ Err fail.SinkFault → Extracts shown readings faults None from to old new (written was) (written now) result × Rose (sink_faults was) (sink_faults now))
    → (result ≡ Err fail.DeviceFault → Extracts shown readings faults None from to old new (written was) (written now) result × Rose (shown old.disk).faults (shown new.disk).faults)
    → counts ≡ [] → LeavesStore shown readings faults written sink_faults from to range old new was now counts (Err why)
leaves_err shown readings faults written sink_faults from to range old new was now counts result (fail.Stopped count) is running stopped clock sink device none =
    let no : None ≡ Some count = sym running ∙ stopped count is in absurd cc
leaves_err shown readings faults written sink_faults from to range old new was now counts result fail.ClockFault is running stopped clock sink device none =
    let c = clock is in (c.0, c.1, none)
leaves_err shown readings faults written sink_faults from to range old new was now counts result fail.SinkFault is running stopped clock sink device none =
    let s = sink is in
    (subst (λ (r : Result ℕ ExtractFail). Extracts shown readings faults None from to old new (written was) (written now) r) is s.0, s.1, none)
leaves_err shown readings faults written sink_faults from to range old new was now counts result fail.DeviceFault is running stopped clock sink device none =
    let d = device is in
    (subst (λ (r : Result ℕ ExtractFail). Extracts shown readings faults None from to old new (written was) (written now) r) is d.0, d.1, none)

-- how a command ends where an extraction failed so, and the output's fault isn't told in its place
pub tells_why : (result : Result ℕ ExtractFail) (why other : ExtractFail) (due told : Ending) (put counts : List ℕ) (Failed : Type 0) → result ≡ Err why → due ≡ ending_of why
    → Tells due put counts Failed told → told ≢ ending.SinkFault → result ≡ Err other → told ≡ ending_of other
tells_why result why other due told put counts Failed is due_is (inl same) uncut failed = same ∙ due_is ∙ ap ending_of (same_err result why other is failed)
tells_why result why other due told put counts Failed is due_is (inr t) uncut failed = absurd (uncut t.0)
