use Rattle.std.proofs.Common.{◌≡◌}
use Rattle.rep_fields.specs.Calendar.{date_of}
use Rattle.rep_fields.proofs.calendar.date_by_steps.Given as goal

abbrev pub invariant-loop-day : goal.invariant-loop-day
invariant-loop-day l = l.date ≡ date_of l.day
