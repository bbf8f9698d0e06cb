use Rattle.std.proofs.Common.{◌||◌, Ok, Err, refl, sym}
use Rattle.rep_disk.specs.Memory.{read_fails}
use Rattle.rep_disk.specs.Calls.{read_counted}
use Rattle.rep_disk.specs.declared.mem_disk.Calls.{Calls}
use Rattle.rep_disk.proofs.Glue.{idled, idle_kept, idle_looks, goes_with}
use Rattle.rep_disk.proofs.mem_disk.MemDisk.read_unless.Goals as goal

-- the fields after the call
abbrev calls : goal.Then-fails → Calls
calls c = record {
  all = c.counted-self-inside.result;
  reads = c.counted-self-inside-2.result;
  writes = c.self.inside.calls.writes;
  syncs = c.self.inside.calls.syncs;
}

pub invariant_of-self : goal.invariant_of-self
invariant_of-self c = idle_kept c.self.inside c.saturating_add-self-inside.result c.faults_after-self-inside.result (calls c) c.fails_by_either-fails.result c.self.invariant c.saturating_add-self-inside.ensures c.faults_after-self-inside.ensures

pub returns-then-fails-clause-looks : goal.returns-then-fails-clause-looks
returns-then-fails-clause-looks c = idle_looks c.self.inside c.saturating_add-self-inside.result c.faults_after-self-inside.result (calls c) c.fails_by_either-fails.result c.self.invariant c.saturating_add-self-inside.ensures c.faults_after-self-inside.ensures c.args.self.now c.self.view_is

pub returns-then-fails-clause-goes : goal.returns-then-fails-clause-goes
returns-then-fails-clause-goes c =
    let kept = invariant_of-self c in
    goes_with (λ m. c.args.blown || read_fails m) read_counted c.self.inside (idled c.self.inside c.saturating_add-self-inside.result c.faults_after-self-inside.result (calls c)) c.args.self.now (Err (record {})) c.fails_by_either-fails.result c.self.view_is c.self.invariant.sound kept.sound (sym c.if-fails.true) (cc) (cc) refl c.saturating_add-self-inside.ensures c.faults_after-self-inside.ensures

-- the fields after the call
abbrev calls-2 : goal.After-slice_known-2-1 → Calls
calls-2 c = record {
  all = c.counted-self-inside.result;
  reads = c.counted-self-inside-2.result;
  writes = c.self.inside.calls.writes;
  syncs = c.self.inside.calls.syncs;
}

pub invariant_of-self-2 : goal.invariant_of-self-2
invariant_of-self-2 c = idle_kept c.self.inside c.saturating_add-self-inside.result c.faults_after-self-inside.result (calls-2 c) c.fails_by_either-fails.result c.self.invariant c.saturating_add-self-inside.ensures c.faults_after-self-inside.ensures

pub returns-clause-looks : goal.returns-clause-looks
returns-clause-looks c = idle_looks c.self.inside c.saturating_add-self-inside.result c.faults_after-self-inside.result (calls-2 c) c.fails_by_either-fails.result c.self.invariant c.saturating_add-self-inside.ensures c.faults_after-self-inside.ensures c.args.self.now c.self.view_is

pub returns-clause-goes : goal.returns-clause-goes
returns-clause-goes c =
    let kept = invariant_of-self-2 c in
    goes_with (λ m. c.args.blown || read_fails m) read_counted c.self.inside (idled c.self.inside c.saturating_add-self-inside.result c.faults_after-self-inside.result (calls-2 c)) c.args.self.now (Ok c.fill.result) c.fails_by_either-fails.result c.self.view_is c.self.invariant.sound kept.sound (sym c.if-fails.false) (cc) (cc) refl c.saturating_add-self-inside.ensures c.faults_after-self-inside.ensures
