-- The clauses of a request, from what recording it did.
use Rattle.std.proofs.Common.{◌≡◌, ℕ, ◌↔◌, List, Option, Some, None, Result, Ok, Err, inl}
use Rattle.std.specs.Prelude.{IfOk}
use Rattle.rep_disk.specs.Disk.{Shown}
use Rattle.rep_wire.specs.declared.request.Request.{Request}
use Rattle.rep_wire.specs.declared.reply.Reply.{Reply}
use Rattle.rep_core.specs.Verdict.{IsVerdict}
use Rattle.rep_core.specs.declared.verdict.Verdict.TheVariants.{Fresh}
use Rattle.rep_store.specs.State.{State}
use Rattle.rep_store.specs.Steps.{LeavesAll, MissesTime, Serves, Stops, Tries}
use Rattle.rep_store.specs.declared.error.Stop.{Stop}
use Rattle.rep_store.specs.declared.error.Stop.TheVariants.{Stopped, DeviceFault, ClockFault, OutOfMemory}

module _ {D C : Type 0} (shown : D → Shown) (readings_of : C → Option (List ℕ)) (faults_of : C → ℕ) (q : Request) (old new : State D C) (running : old.stopped ≡ None) (fresh : IsVerdict old.limit old.history q Fresh) where
  pub served_by : (result : Result Reply Stop) → Tries shown readings_of faults_of q old new result → IfOk result (λ reply. Serves shown readings_of faults_of q reply old new)
  served_by (Ok reply) tried = record {
    running = running;
    served = inl (fresh, tried.0);
    answered = tried.1;
  }
  served_by (Err stop) tried = tt

  pub stopped_by : (result : Result Reply Stop) → Tries shown readings_of faults_of q old new result → (count : ℕ) → (result ≡ Err (Stopped count)) ↔ (old.stopped ≡ Some count)
  stopped_by result tried count = (not_stopped result tried, λ is. absurd cc)
    where
      not_stopped : (r : Result Reply Stop) → Tries shown readings_of faults_of q old new r → r ≡ Err (Stopped count) → old.stopped ≡ Some count
      not_stopped (Ok reply) t is = absurd cc
      not_stopped (Err (Stopped n)) t is = absurd t
      not_stopped (Err DeviceFault) t is = absurd cc
      not_stopped (Err ClockFault) t is = absurd cc
      not_stopped (Err OutOfMemory) t is = absurd cc

  pub device_fault_by : (result : Result Reply Stop) → Tries shown readings_of faults_of q old new result → result ≡ Err DeviceFault → Stops shown readings_of faults_of q old new
  device_fault_by (Ok reply) t is = absurd cc
  device_fault_by (Err (Stopped n)) t is = absurd t
  device_fault_by (Err DeviceFault) t is = t
  device_fault_by (Err ClockFault) t is = absurd cc
  device_fault_by (Err OutOfMemory) t is = absurd cc

  pub clock_fault_by : (result : Result Reply Stop) → Tries shown readings_of faults_of q old new result → result ≡ Err ClockFault → IsVerdict old.limit old.history q Fresh × MissesTime shown readings_of faults_of old new
  clock_fault_by (Ok reply) t is = absurd cc
  clock_fault_by (Err (Stopped n)) t is = absurd t
  clock_fault_by (Err DeviceFault) t is = absurd cc
  clock_fault_by (Err ClockFault) t is = (fresh, t)
  clock_fault_by (Err OutOfMemory) t is = absurd cc

  pub memory_by : (result : Result Reply Stop) → Tries shown readings_of faults_of q old new result → result ≡ Err OutOfMemory → IsVerdict old.limit old.history q Fresh × LeavesAll shown old new
  memory_by (Ok reply) t is = absurd cc
  memory_by (Err (Stopped n)) t is = absurd t
  memory_by (Err DeviceFault) t is = absurd cc
  memory_by (Err ClockFault) t is = absurd cc
  memory_by (Err OutOfMemory) t is = (fresh, t)

  pub left_by : (result : Result Reply Stop) → Tries shown readings_of faults_of q old new result → (count : ℕ) → result ≡ Err (Stopped count) → LeavesAll shown old new
  left_by (Ok reply) t count is = absurd cc
  left_by (Err (Stopped n)) t count is = absurd t
  left_by (Err DeviceFault) t count is = absurd cc
  left_by (Err ClockFault) t count is = absurd cc
  left_by (Err OutOfMemory) t count is = absurd cc
