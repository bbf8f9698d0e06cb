use Rattle.tr_plan.specs.Disregard.{IsDisregardOf}
use Rattle.tr_plan.specs.Index.{HasNsrs}
use Rattle.tr_plan.proofs.LoopLemmas.{AreSaid}
use Rattle.tr_plan.proofs.disregard.disregards_of.Given as goal

abbrev pub invariant-loop-i : goal.invariant-loop-i
invariant-loop-i l = record { said : AreSaid IsDisregardOf l.rows l.i l.disregards.items; places : HasNsrs l.places l.disregards.items }
