use Rattle.tr_plan.specs.Include.{IsIncludeOf}
use Rattle.tr_plan.proofs.LoopLemmas.{AreSaid}
use Rattle.tr_plan.proofs.include.includes_of.Given as goal

abbrev pub invariant-loop-i : goal.invariant-loop-i
invariant-loop-i l = AreSaid (IsIncludeOf l.links.links.items) l.rows l.i l.includes.items
