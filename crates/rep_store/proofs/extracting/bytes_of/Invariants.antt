use Rattle.std.proofs.Common.{◌≡◌, ◌-◌, ◌*◌, ◌≤◌, List, length, take, drop}
use Rattle.std.specs.List.{flat_map}
use Rattle.afd_records.specs.File.{ended}
use Rattle.rep_wire.specs.declared.request.Entry.{Entry}
use Rattle.rep_core.specs.Chained.{history_lines}
use Rattle.rep_core.specs.Core.{Stands}
use Rattle.rep_store.proofs.extracting.bytes_of.Given as goal

abbrev pub invariant-loop-place : goal.invariant-loop-place
invariant-loop-place l = record {
  few : l.size ≤ 333 * l.place;
  bytes : (h : List Entry) → Stands l.core h → l.size ≡ length (flat_map ended (drop (l.first - 1) (take l.place (history_lines h))));
}
