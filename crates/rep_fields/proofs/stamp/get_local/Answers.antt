use Rattle.std.proofs.Common.{sym, arith, ◌∙◌, ◌/◌, ◌%◌}
use Rattle.rep_fields.proofs.Numerals.{numeral-injective}
use Rattle.rep_fields.proofs.StampTexts.{local_parts, local_text_found}
use Rattle.rep_fields.proofs.stamp.get_local.Goals as goal

pub returns-then-text-ne19 : goal.returns-then-text-ne19
returns-then-text-ne19 c = λ time in_range e.
    let is = local_parts c.args.text.now time.0 time.1 e in
    grind (arith, is.size, is.letter, is.first_colon, is.second_colon)

pub returns-in_default : goal.returns-in_default
returns-in_default c = λ time in_range e.
    c.in_default.ensures (time.0 / 1440) (omega (arith, in_range.0)) (local_parts c.args.text.now time.0 time.1 e).day

pub returns-in_default-get_two : goal.returns-in_default-get_two
returns-in_default-get_two c = λ time in_range e.
    c.in_default-get_two.ensures (time.0 % 1440 / 60) (omega arith) (local_parts c.args.text.now time.0 time.1 e).hours

pub returns-in_default-get_two-2 : goal.returns-in_default-get_two-2
returns-in_default-get_two-2 c = λ time in_range e.
    c.in_default-get_two-2.ensures (time.0 % 60) (omega arith) (local_parts c.args.text.now time.0 time.1 e).minutes

pub returns-in_default-get_two-3 : goal.returns-in_default-get_two-3
returns-in_default-get_two-3 c = λ time in_range e.
    c.in_default-get_two-3.ensures time.1 in_range.1 (local_parts c.args.text.now time.0 time.1 e).seconds

pub returns-then-hours-ge24 : goal.returns-then-hours-ge24
returns-then-hours-ge24 c = λ time in_range e.
    let is = local_parts c.args.text.now time.0 time.1 e in
    let hours = c.in-Some-get_two.ensures in
    let minutes = c.in-Some-get_two-2.ensures in
    let same_hours = numeral-injective 2 c.in-Some-get_two.hours (time.0 % 1440 / 60) hours.0 (omega arith) (sym hours.1 ∙ is.hours) in
    let same_minutes = numeral-injective 2 c.in-Some-get_two-2.minutes (time.0 % 60) minutes.0 (omega arith) (sym minutes.1 ∙ is.minutes) in
    grind (arith, same_hours, same_minutes)

pub returns : goal.returns
returns c =
    let day = c.in-Some.ensures in
    let hours = c.in-Some-get_two.ensures in
    let minutes = c.in-Some-get_two-2.ensures in
    let seconds = c.in-Some-get_two-3.ensures in
    let found = local_text_found c.args.text.now c.in-Some.day c.in-Some-get_two.hours c.in-Some-get_two-2.minutes c.in-Some-get_two-3.seconds (omega arith) (omega arith) (omega arith) (omega arith) (omega arith) (omega arith) day.1 hours.1 minutes.1 seconds.1 in
    rw c.day.view_is ((omega (arith, day.0), seconds.0), found)
