use Rattle.std.proofs.Common.{sym, arith, ◌∙◌}
use Rattle.rep_fields.proofs.TimeTexts.{hours_text-injective}
use Rattle.rep_fields.proofs.time_of_day.read_time_of_day.Goals as goal

pub returns-then-minute-ge-MINUTES_OF_DAY : goal.returns-then-minute-ge-MINUTES_OF_DAY
returns-then-minute-ge-MINUTES_OF_DAY c = λ minute in_range e.
    let found = c.in-Some.ensures in
    let same = hours_text-injective c.in-Some.minute minute found.0 (omega arith) (sym found.1 ∙ e) in
    omega arith
