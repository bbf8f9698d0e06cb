use Rattle.std.proofs.Common.{sym, ◌∙◌, arith, ◌/◌, ◌%◌}
use Rattle.rep_fields.proofs.TimeTexts.{hours_parts}
use Rattle.rep_fields.proofs.Numerals.{numeral-injective}
use Rattle.rep_fields.proofs.time_of_day.get_hours.Goals as goal

pub returns-then-text-ne4 : goal.returns-then-text-ne4
returns-then-text-ne4 c = λ minutes fits e. omega (arith, (hours_parts c.args.text.now minutes e).size)

pub returns-in_default : goal.returns-in_default
returns-in_default c = λ minutes fits e. c.in_default.ensures (minutes / 60) fits (hours_parts c.args.text.now minutes e).hours

pub returns-in_default-get_two : goal.returns-in_default-get_two
returns-in_default-get_two c =
    λ minutes fits e. c.in_default-get_two.ensures (minutes % 60) (omega arith) (hours_parts c.args.text.now minutes e).rest

pub returns-then-minutes-ge60 : goal.returns-then-minutes-ge60
returns-then-minutes-ge60 c = λ minutes fits e.
    let found = c.in-Some-get_two.ensures in
    let same = numeral-injective 2 c.in-Some-get_two.minutes (minutes % 60) found.0 (omega arith) (sym found.1 ∙ (hours_parts c.args.text.now minutes e).rest) in
    omega (arith, c.if-minutes-ge60.true)
