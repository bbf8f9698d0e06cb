use Rattle.std.proofs.Common.{◌≡◌, ◌-◌, ◌≤◌, ◌||◌, length, refl, ap, subst, sym, arith}
use Rattle.rep_disk.specs.Memory.{Memory, write_fails}
use Rattle.rep_disk.specs.Calls.{write_counted}
use Rattle.rep_disk.specs.declared.mem_disk.MemDisk.TheInside.{Inside}
use Rattle.rep_disk.proofs.Glue.{wrote, Wrote, wrote_kept, wrote_writes, goes_with}
use Rattle.rep_disk.proofs.mem_disk.MemDisk.write_unless.Goals as goal

-- the fields after the call
abbrev after : goal.After-answer → Inside
after c = wrote c.self.inside c.overwrite.new.bytes c.note.new.pieces c.note.new.log (c.self.inside.spare - length c.args.piece.now) c.saturating_add-self-inside.result c.faults_after-self-inside.result (record {
  all = c.counted-self-inside.result;
  reads = c.self.inside.calls.reads;
  writes = c.counted-self-inside-2.result;
  syncs = c.self.inside.calls.syncs;
})

written : (c : goal.After-answer) → Wrote c.self.inside (after c) c.args.at c.args.piece.now c.saturating_add-begun.result c.fails_by_either-fails.result
written c = record {
  bytes = c.overwrite.ensures.put;
  bytes_len = c.overwrite.ensures.longer;
  bytes_capacity = c.overwrite.ensures.capacity;
  pieces = c.note.ensures.pieces;
  pieces_len = c.note.ensures.pieces_len;
  pieces_capacity = c.note.ensures.pieces_capacity;
  log = c.note.ensures.log;
  log_len = c.note.ensures.log_len;
  log_capacity = c.note.ensures.log_capacity;
  begins = c.saturating_add-begun.ensures;
  moment = c.saturating_add-self-inside.ensures;
  faults = c.faults_after-self-inside.ensures;
  spare = (let e : c.self.inside.spare ≡ c.args.self.now.spare = ap (λ (m : Memory). m.spare) c.self.view_is in omega arith);
  first = refl;
  copied = refl;
}

inside : (c : goal.After-answer) → c.args.at ≤ length c.self.inside.bytes.items
inside c = subst (λ (m : Memory). c.args.at ≤ length m.bytes) (sym c.self.view_is) c.requires.within

pub invariant_of-self : goal.invariant_of-self
invariant_of-self c = wrote_kept c.self.inside (after c) c.args.at c.args.piece.now c.saturating_add-begun.result c.fails_by_either-fails.result c.self.invariant (written c) (inside c)

pub returns-clause-writes : goal.returns-clause-writes
returns-clause-writes c =
    wrote_writes c.self.inside (after c) c.args.at c.args.piece.now c.saturating_add-begun.result c.fails_by_either-fails.result c.self.invariant (written c) (inside c) c.args.self.now c.answer.result c.self.view_is c.answer.ensures

pub returns-clause-goes : goal.returns-clause-goes
returns-clause-goes c =
    let kept = invariant_of-self c in
    goes_with (λ m. c.args.blown || write_fails m) write_counted c.self.inside (after c) c.args.self.now c.answer.result c.fails_by_either-fails.result c.self.view_is c.self.invariant.sound kept.sound c.answer.ensures (cc) (cc) refl c.saturating_add-self-inside.ensures c.faults_after-self-inside.ensures
