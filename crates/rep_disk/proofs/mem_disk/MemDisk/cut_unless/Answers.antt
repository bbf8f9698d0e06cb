use Rattle.std.proofs.Common.{◌≡◌, ◌-◌, ◌||◌, refl, ap, arith}
use Rattle.rep_disk.specs.Memory.{Memory, cut_fails}
use Rattle.rep_disk.specs.Calls.{length_counted}
use Rattle.rep_disk.specs.declared.mem_disk.MemDisk.TheInside.{Inside}
use Rattle.rep_disk.proofs.Glue.{wrote, Shortened, cut_kept, cut_cuts, goes_with}
use Rattle.rep_disk.proofs.mem_disk.MemDisk.cut_unless.Goals as goal

-- the fields after the call
abbrev after : goal.After-answer → Inside
after c = wrote c.self.inside c.shorten_unless.new.bytes c.self.inside.pieces c.push_reserved.new.self (c.self.inside.spare - 1) c.saturating_add-self-inside.result c.faults_after-self-inside.result (record {
  all = c.counted-self-inside.result;
  reads = c.self.inside.calls.reads;
  writes = c.self.inside.calls.writes;
  syncs = c.self.inside.calls.syncs;
})

shortened : (c : goal.After-answer) → Shortened c.self.inside (after c) c.args.length c.saturating_add-begun.result c.fails_by-fails.result
shortened c = record {
  bytes = c.shorten_unless.ensures.cut;
  bytes_len = c.shorten_unless.ensures.shorter;
  bytes_capacity = c.shorten_unless.ensures.capacity;
  pieces = refl;
  pieces_len = refl;
  pieces_capacity = omega arith;
  log = c.push_reserved.ensures.items;
  log_len = c.push_reserved.ensures.len;
  log_capacity = c.push_reserved.ensures.capacity;
  begins = c.saturating_add-begun.ensures;
  moment = c.saturating_add-self-inside.ensures;
  faults = c.faults_after-self-inside.ensures;
  spare = (let e : c.self.inside.spare ≡ c.args.self.now.spare = ap (λ (m : Memory). m.spare) c.self.view_is in omega arith);
  first = refl;
  copied = refl;
}

pub invariant_of-self : goal.invariant_of-self
invariant_of-self c = cut_kept c.self.inside (after c) c.args.length c.saturating_add-begun.result c.fails_by-fails.result c.self.invariant (shortened c)

pub returns-clause-cuts : goal.returns-clause-cuts
returns-clause-cuts c =
    cut_cuts c.self.inside (after c) c.args.length c.saturating_add-begun.result c.fails_by-fails.result c.self.invariant (shortened c) c.args.self.now c.answer.result c.self.view_is c.answer.ensures

pub returns-clause-goes : goal.returns-clause-goes
returns-clause-goes c =
    let kept = invariant_of-self c in
    goes_with (λ m. c.args.blown || cut_fails m) length_counted c.self.inside (after c) c.args.self.now c.answer.result c.fails_by-fails.result c.self.view_is c.self.invariant.sound kept.sound c.answer.ensures (cc) (cc) refl c.saturating_add-self-inside.ensures c.faults_after-self-inside.ensures
