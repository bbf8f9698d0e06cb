use Rattle.tr_plan.proofs.TimesLemmas.{AreTimesOf}
use Rattle.tr_plan.proofs.schedule.times_at.Given as goal

abbrev pub invariant-loop-value : goal.invariant-loop-value
invariant-loop-value l = AreTimesOf l.value-items l.value-index l.minutes.items
