use Rattle.std.proofs.Common.{All, List, take}
use Rattle.tr_plan.specs.Index.{HasCodes}
use Rattle.tr_plan.specs.Plan.{HasKnownCode}
use Rattle.tr_plan.specs.declared.schedule.Schedule.{Schedule}
use Rattle.tr_plan.proofs.check.unknown_code.Given as goal

abbrev pub invariant-loop-i : goal.invariant-loop-i
invariant-loop-i l = (schedules : List Schedule) → HasCodes l.codes schedules → All (HasKnownCode schedules) (take l.i l.links)
