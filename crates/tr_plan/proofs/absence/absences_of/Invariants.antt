use Rattle.tr_plan.specs.Absence.{IsAbsenceOf}
use Rattle.tr_plan.proofs.LoopLemmas.{AreSaid}
use Rattle.tr_plan.proofs.absence.absences_of.Given as goal

abbrev pub invariant-loop-i : goal.invariant-loop-i
invariant-loop-i l = AreSaid (IsAbsenceOf l.links.links.items) l.rows l.i l.absences.items
