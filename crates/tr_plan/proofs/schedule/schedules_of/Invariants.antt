use Rattle.tr_plan.specs.Index.{HasCodes}
use Rattle.tr_plan.specs.Schedule.{IsScheduleOf}
use Rattle.tr_plan.proofs.LoopLemmas.{AreSaid}
use Rattle.tr_plan.proofs.schedule.schedules_of.Given as goal

abbrev pub invariant-loop-i : goal.invariant-loop-i
invariant-loop-i l = record { said : AreSaid IsScheduleOf l.rows l.i l.schedules.items; codes : HasCodes l.codes l.schedules.items }
