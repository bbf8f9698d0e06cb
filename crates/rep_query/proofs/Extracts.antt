-- What `extract` leaves, from what its parts leave.
use Rattle.std.proofs.Common.{◌≡◌, ℕ, ◌⊎◌, inl, inr, List, [], Option, None, Result, Ok, Err, refl, sym, ap, subst, ◌∙◌, arith}
use Rattle.std.specs.Prelude.{IsSome}
use Rattle.rep_io.specs.Causes.{Rose}
use Rattle.rep_core.specs.History.{days_of}
use Rattle.rep_journal.specs.State.{IsRead}
use Rattle.rep_ledger.specs.Safety.{IsSafe}
use Rattle.afd_extract.specs.Period.{IsPeriod, Range}
use Rattle.rep_store.specs.Extracting.{Extracts}
use Rattle.rep_store.specs.State.{State}
use Rattle.rep_store.specs.Steps.{Ticks}
use Rattle.rep_store.specs.declared.error.ExtractFail.{ExtractFail}
use Rattle.rep_store.specs.declared.error.ExtractFail.TheVariants as fail
use Rattle.rep_report.specs.Saying.{Concludes, status_of}
use Rattle.rep_report.specs.declared.ending.Ending.{Ending}
use Rattle.rep_report.specs.declared.ending.Ending.TheVariants.{AllAnswered, SomeRefused, SourceFault, SinkFault, DeviceFault, ClockFault, OutOfMemory, InputLimit}
use Rattle.rep_query.specs.Extract.{Leaves, Meanings, WritesFile, input_meanings}
use Rattle.rep_query.specs.Writing.{LeavesStore, ending_by}
use Rattle.rep_query.specs.Opening.{Opens, OpensStore}
use Rattle.rep_query.proofs.Openings.{opens_still}

-- what a fault of the outside needs, by the ending
abbrev pub Causes : Type 0 → Type 0 → Type 0 → Type 0 → Ending → Type 0
Causes File Out Disk Clock AllAnswered = Unit {0}
Causes File Out Disk Clock SinkFault = File ⊎ Out
Causes File Out Disk Clock DeviceFault = Disk
Causes File Out Disk Clock ClockFault = Clock
Causes File Out Disk Clock SomeRefused = ⊥
Causes File Out Disk Clock SourceFault = ⊥
Causes File Out Disk Clock OutOfMemory = ⊥
Causes File Out Disk Clock InputLimit = ⊥

module _ {S K D C : Type 0} (m : Meanings S K D C) (from to : ℕ) (was now : S) (disk disk' : D) (clock clock' : C) (store store' : State D C) (file file' : K)
    (opened : OpensStore (input_meanings m) was now disk clock store) (is_disk : disk' ≡ store'.disk) (is_clock : clock' ≡ store'.clock) where
  opens : IsRead (m.shown store.disk) (m.shown store'.disk) → IsSafe (m.shown store.disk).moment store.history store.history [] (m.shown store.disk) (m.shown store'.disk)
      → Opens (input_meanings m) (record { site = was; disk = disk }) (record { site = now; disk = disk' }) store.site store.history
  opens read safe = opens_still (input_meanings m) was now disk disk' clock store store' opened is_disk read safe

  file_of : (range : Range) (result : Result ℕ ExtractFail) → IsPeriod (days_of store.history) from to range
      → Extracts m.shown m.readings m.clock_faults None from to store store' (m.written file) (m.written file') result
      → IsSafe (m.shown store.disk).moment store.history store.history [] (m.shown store.disk) (m.shown store'.disk)
      → WritesFile m from to (record { site = was; disk = disk; clock = clock; file = file }) (record { site = now; disk = disk'; clock = clock'; file = file' }) range result
  file_of range result period extracts safe = record {
    site = store.site;
    history = store.history;
    opens = opens extracts.kept.disk safe;
    minute = extracts.minute;
    ticks = subst (λ (c : C). Ticks m.readings m.clock_faults extracts.minute clock c) (sym is_clock)
        (subst (λ (c : C). Ticks m.readings m.clock_faults extracts.minute c store'.clock) opened.same_clock extracts.clock);
    period = period;
    put = extracts.put;
    appended = extracts.appended;
    of_lines = extracts.of_lines;
    is_put = λ told. extracts.is_put (subst IsSome (sym opened.opens.disk.contents) told);
  }

  rose_disk : Rose (m.shown store.disk).faults (m.shown store'.disk).faults → Rose (m.shown disk).faults (m.shown disk').faults
  rose_disk rose =
      let same = opened.no_fault in
      subst (λ (d : D). Rose (m.shown disk).faults (m.shown d).faults) (sym is_disk) (omega arith)

  pub leaves_of : (range : Range) (counts : List ℕ) (result : Result ℕ ExtractFail) → IsPeriod (days_of store.history) from to range
      → LeavesStore m.shown m.readings m.clock_faults m.written m.sink_faults from to range store store' file file' counts result
      → IsSafe (m.shown store.disk).moment store.history store.history [] (m.shown store.disk) (m.shown store'.disk)
      → Leaves m from to (record { site = was; disk = disk; clock = clock; file = file }) (record { site = now; disk = disk'; clock = clock'; file = file' }) counts (ending_by result)
  leaves_of range counts (Ok size) period leaves safe = (range, size, file_of range (Ok size) period leaves.0 safe, leaves.1)
  leaves_of range counts (Err (fail.Stopped count)) period leaves safe = absurd leaves
  leaves_of range counts (Err fail.ClockFault) period leaves safe = (
    record {
      site = store.site;
      history = store.history;
      opens = opens leaves.0.kept.disk safe;
      cause = subst (λ (c : C). Rose (m.clock_faults clock) (m.clock_faults c)) (sym is_clock)
          (subst (λ (c : C). Rose (m.clock_faults c) (m.clock_faults store'.clock)) opened.same_clock leaves.0.cause);
      readings = ap m.readings is_clock ∙ leaves.0.readings ∙ ap m.readings opened.same_clock;
      file = leaves.1;
    },
    leaves.2,
  )
  leaves_of range counts (Err fail.SinkFault) period leaves safe = (range, file_of range (Err fail.SinkFault) period leaves.0 safe, leaves.1, leaves.2)
  leaves_of range counts (Err fail.DeviceFault) period leaves safe =
      (range, file_of range (Err fail.DeviceFault) period leaves.0 safe, rose_disk leaves.1, leaves.2)

  pub causes_of : (Out : Type 0) (range : Range) (counts : List ℕ) (result : Result ℕ ExtractFail) (told : Ending)
      → LeavesStore m.shown m.readings m.clock_faults m.written m.sink_faults from to range store store' file file' counts result
      → (told ≡ ending_by result) ⊎ ((told ≡ SinkFault) × Out)
      → Causes (Rose (m.sink_faults file) (m.sink_faults file')) Out (Rose (m.shown disk).faults (m.shown disk').faults) (Rose (m.clock_faults clock) (m.clock_faults clock')) told
  causes_of Out range counts result told leaves (inr out) =
      subst (λ (e : Ending). Causes (Rose (m.sink_faults file) (m.sink_faults file')) Out (Rose (m.shown disk).faults (m.shown disk').faults) (Rose (m.clock_faults clock) (m.clock_faults clock')) e) (sym out.0) (inr out.1)
  causes_of Out range counts result told leaves (inl same) =
      subst (λ (e : Ending). Causes (Rose (m.sink_faults file) (m.sink_faults file')) Out (Rose (m.shown disk).faults (m.shown disk').faults) (Rose (m.clock_faults clock) (m.clock_faults clock')) e) (sym same) (by_result result leaves)
    where
      by_result : (r : Result ℕ ExtractFail) → LeavesStore m.shown m.readings m.clock_faults m.written m.sink_faults from to range store store' file file' counts r
          → Causes (Rose (m.sink_faults file) (m.sink_faults file')) Out (Rose (m.shown disk).faults (m.shown disk').faults) (Rose (m.clock_faults clock) (m.clock_faults clock')) (ending_by r)
      by_result (Ok size) l = tt
      by_result (Err (fail.Stopped count)) l = absurd l
      by_result (Err fail.ClockFault) l =
          subst (λ (c : C). Rose (m.clock_faults clock) (m.clock_faults c)) (sym is_clock)
          (subst (λ (c : C). Rose (m.clock_faults c) (m.clock_faults store'.clock)) opened.same_clock l.0.cause)
      by_result (Err fail.SinkFault) l = inl l.1
      by_result (Err fail.DeviceFault) l = rose_disk l.1

-- the output's fault, where it is told
pub told_of : (due : Ending) (counts : List ℕ) (old new : Option (List ℕ)) (before now : ℕ) (told : Ending) → Concludes due counts old new before now told → (told ≡ due) ⊎ ((told ≡ SinkFault) × Rose before now)
told_of due counts old new before now told concludes =
    let until = concludes.until in
    elim concludes.told [
      | inl same ↦ inl same
      | inr out ↦ let rose = out.2 in inr (out.0, omega arith)
    ]

-- the clauses on the statuses, by what the ending needs
module _ (File Out Disk Clock : Type 0) where
  pub source_of : (told : Ending) → Causes File Out Disk Clock told → status_of told ≡ 4 → ⊥
  source_of AllAnswered causes is = omega arith
  source_of SomeRefused causes is = causes
  source_of SourceFault causes is = causes
  source_of SinkFault causes is = omega arith
  source_of DeviceFault causes is = omega arith
  source_of ClockFault causes is = omega arith
  source_of OutOfMemory causes is = causes
  source_of InputLimit causes is = causes

  pub sink_of : (told : Ending) → Causes File Out Disk Clock told → status_of told ≡ 5 → File ⊎ Out
  sink_of AllAnswered causes is = absurd (omega arith)
  sink_of SomeRefused causes is = absurd causes
  sink_of SourceFault causes is = absurd causes
  sink_of SinkFault causes is = causes
  sink_of DeviceFault causes is = absurd (omega arith)
  sink_of ClockFault causes is = absurd (omega arith)
  sink_of OutOfMemory causes is = absurd causes
  sink_of InputLimit causes is = absurd causes

  pub device_of : (told : Ending) → Causes File Out Disk Clock told → status_of told ≡ 6 → Disk
  device_of AllAnswered causes is = absurd (omega arith)
  device_of SomeRefused causes is = absurd causes
  device_of SourceFault causes is = absurd causes
  device_of SinkFault causes is = absurd (omega arith)
  device_of DeviceFault causes is = causes
  device_of ClockFault causes is = absurd (omega arith)
  device_of OutOfMemory causes is = absurd causes
  device_of InputLimit causes is = absurd causes

  pub clock_of : (told : Ending) → Causes File Out Disk Clock told → status_of told ≡ 7 → Clock
  clock_of AllAnswered causes is = absurd (omega arith)
  clock_of SomeRefused causes is = absurd causes
  clock_of SourceFault causes is = absurd causes
  clock_of SinkFault causes is = absurd (omega arith)
  clock_of DeviceFault causes is = absurd (omega arith)
  clock_of ClockFault causes is = causes
  clock_of OutOfMemory causes is = absurd causes
  clock_of InputLimit causes is = absurd causes

  pub whole_of : (told : Ending) → Causes File Out Disk Clock told → (File → ⊥) → (Out → ⊥) → (Disk → ⊥) → (Clock → ⊥) → status_of told ≡ 0
  whole_of AllAnswered causes file out disk clock = refl
  whole_of SomeRefused causes file out disk clock = absurd causes
  whole_of SourceFault causes file out disk clock = absurd causes
  whole_of SinkFault (inl failed) file out disk clock = absurd (file failed)
  whole_of SinkFault (inr failed) file out disk clock = absurd (out failed)
  whole_of DeviceFault causes file out disk clock = absurd (disk causes)
  whole_of ClockFault causes file out disk clock = absurd (clock causes)
  whole_of OutOfMemory causes file out disk clock = absurd causes
  whole_of InputLimit causes file out disk clock = absurd causes
