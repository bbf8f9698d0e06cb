use Rattle.std.proofs.Common.{◌≡◌, ◌∙◌, [], length, List, ℕ, refl, sym, ap, subst, arith}
use Rattle.rep_disk.specs.Record.{Made}
use Rattle.rep_disk.specs.Memory.{Memory, Listed, IsSound, fresh}
use Rattle.rep_disk.specs.Fields.{log_of, size_of_all}
use Rattle.rep_disk.specs.declared.change.Change.{Change}
use Rattle.rep_disk.proofs.Glue.{fresh_sound}
use Rattle.rep_disk.proofs.mem_disk.MemDisk.new.Goals as goal

-- a disk in memory with this record, and nothing else since it was made
abbrev with_log : List ℕ → Listed → List Made → Memory
with_log bytes listed log = record (fresh bytes listed) { log = log }

pub invariant_of-result : goal.invariant_of-result
invariant_of-result c =
    let listed : Listed = record { all = c.args.fails.all.items; reads = c.args.fails.reads.items; writes = c.args.fails.writes.items; syncs = c.args.fails.syncs.items } in
    let log : log_of c.new-3.result.items c.new-2.result.items ≡ log_of [] c.new-2.result.items = ap (λ (l : List Change). log_of l c.new-2.result.items) c.new-3.ensures.items in
    record {
      bytes_room = omega arith;
      pieces_room = omega arith;
      log_room = omega arith;
      pieces = ap size_of_all c.new-3.ensures.items ∙ sym (ap length c.new-2.ensures.items);
      untouched = λ _. (c.new-3.ensures.items, refl, c.new.ensures.items);
      sound = subst (λ (l : List Made). IsSound (with_log c.args.bytes.items listed l)) (sym log) (fresh_sound c.args.bytes.items listed);
    }
