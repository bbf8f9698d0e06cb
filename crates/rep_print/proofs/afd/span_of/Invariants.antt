use Rattle.std.proofs.Common.{◌-◌, ◌≤◌, List, take}
use Rattle.rep_wire.specs.declared.request.Entry.{Entry}
use Rattle.rep_core.specs.Core.{Stands}
use Rattle.rep_print.specs.FileSteps.{IsSpan}
use Rattle.rep_print.proofs.afd.span_of.Given as goal

abbrev pub invariant-loop-nsr : goal.invariant-loop-nsr
invariant-loop-nsr l = record {
  some : 1 ≤ l.nsr;
  within : l.nsr ≤ l.count;
  so_far : (h : List Entry) → Stands l.core h → IsSpan (take l.nsr h) l.span.first l.span.last;
}

abbrev pub decreases-loop-nsr : goal.decreases-loop-nsr
decreases-loop-nsr l = l.count - l.nsr
