use Rattle.std.proofs.Common.{◌≤◌, ◌||◌, Ok, Err, refl, sym}
use Rattle.rep_io.specs.Causes.{last_count}
use Rattle.rep_disk.specs.Memory.{sync_fails}
use Rattle.rep_disk.specs.Calls.{sync_counted}
use Rattle.rep_disk.specs.declared.mem_disk.Calls.{Calls}
use Rattle.rep_disk.proofs.Glue.{faults_after, idled, idle_kept, idle_syncs, synced, sync_kept, sync_syncs, goes_with}
use Rattle.rep_disk.proofs.mem_disk.MemDisk.sync_unless.Goals as goal

-- the fields after the call
abbrev calls : goal.Then-fails → Calls
calls c = record {
  all = c.counted-self-inside.result;
  reads = c.self.inside.calls.reads;
  writes = c.self.inside.calls.writes;
  syncs = c.counted-self-inside-2.result;
}

pub invariant_of-self : goal.invariant_of-self
invariant_of-self c = idle_kept c.self.inside c.saturating_add-self-inside.result c.faults_after-self-inside.result (calls c) c.fails_by_either-fails.result c.self.invariant c.saturating_add-self-inside.ensures c.faults_after-self-inside.ensures

pub returns-then-fails-clause-syncs : goal.returns-then-fails-clause-syncs
returns-then-fails-clause-syncs c = idle_syncs c.self.inside c.saturating_add-self-inside.result c.faults_after-self-inside.result (calls c) c.fails_by_either-fails.result c.self.invariant c.saturating_add-self-inside.ensures c.faults_after-self-inside.ensures c.args.self.now c.self.view_is

pub returns-then-fails-clause-goes : goal.returns-then-fails-clause-goes
returns-then-fails-clause-goes c =
    let kept = invariant_of-self c in
    goes_with (λ m. c.args.blown || sync_fails m) sync_counted c.self.inside (idled c.self.inside c.saturating_add-self-inside.result c.faults_after-self-inside.result (calls c)) c.args.self.now (Err (record {})) c.fails_by_either-fails.result c.self.view_is c.self.invariant.sound kept.sound (sym c.if-fails.true) (cc) (cc) refl c.saturating_add-self-inside.ensures c.faults_after-self-inside.ensures

abbrev calls-2 : goal.After-make_sure → Calls
calls-2 c = record {
  all = c.counted-self-inside.result;
  reads = c.self.inside.calls.reads;
  writes = c.self.inside.calls.writes;
  syncs = c.counted-self-inside-2.result;
}

-- the count of faults stays in its range
in_range : (c : goal.After-make_sure) → c.faults_after-self-inside.result ≤ last_count
in_range c = (faults_after c.self.inside.faults c.faults_after-self-inside.result c.fails_by_either-fails.result c.faults_after-self-inside.ensures c.self.invariant.sound.faults_in_range).1

pub invariant_of-self-2 : goal.invariant_of-self-2
invariant_of-self-2 c = sync_kept c.self.inside c.make_sure.new.log c.saturating_add-self-inside.result c.faults_after-self-inside.result (calls-2 c) c.self.invariant c.saturating_add-self-inside.ensures (in_range c) c.make_sure.ensures.sure c.make_sure.ensures.capacity c.make_sure.ensures.len

pub returns-clause-syncs : goal.returns-clause-syncs
returns-clause-syncs c = sync_syncs c.self.inside c.make_sure.new.log c.saturating_add-self-inside.result c.faults_after-self-inside.result (calls-2 c) c.self.invariant c.saturating_add-self-inside.ensures (in_range c) c.make_sure.ensures.sure c.make_sure.ensures.capacity c.make_sure.ensures.len c.args.self.now c.self.view_is

pub returns-clause-goes : goal.returns-clause-goes
returns-clause-goes c =
    let kept = invariant_of-self-2 c in
    goes_with (λ m. c.args.blown || sync_fails m) sync_counted c.self.inside (synced c.self.inside c.make_sure.new.log c.saturating_add-self-inside.result c.faults_after-self-inside.result (calls-2 c)) c.args.self.now (Ok tt) c.fails_by_either-fails.result c.self.view_is c.self.invariant.sound kept.sound (sym c.if-fails.false) (cc) (cc) refl c.saturating_add-self-inside.ensures c.faults_after-self-inside.ensures
