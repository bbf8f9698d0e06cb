use Rattle.std.proofs.Common.{take}
use Rattle.tr_plan.specs.Index.{HasStarts}
use Rattle.tr_plan.proofs.links.starts_of.Given as goal

abbrev pub invariant-loop-i : goal.invariant-loop-i
invariant-loop-i l = HasStarts l.starts (take l.i l.links)
