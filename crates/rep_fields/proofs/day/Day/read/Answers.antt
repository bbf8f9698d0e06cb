use Rattle.std.proofs.Common.{arith}
use Rattle.rep_fields.specs.Calendar.{date_of}
use Rattle.rep_fields.proofs.DayTexts.{date_parts, fits_text, date_text_from_parts, same_date_from_parts, found_parts}
use Rattle.rep_fields.proofs.day.Day.read.Goals as goal

pub returns-then-text-ne10 : goal.returns-then-text-ne10
returns-then-text-ne10 c = λ day in_range e. let is = date_parts c.args.text.now (date_of day) e in grind (arith, is.size, is.first_dash, is.second_dash)

pub returns-in_default : goal.returns-in_default
returns-in_default c =
    λ day in_range e. c.in_default.ensures (date_of day).year (fits_text day in_range).year (date_parts c.args.text.now (date_of day) e).year

pub returns-in_default-get_two : goal.returns-in_default-get_two
returns-in_default-get_two c =
    λ day in_range e. c.in_default-get_two.ensures (date_of day).month (fits_text day in_range).month (date_parts c.args.text.now (date_of day) e).month

pub returns-in_default-get_two-2 : goal.returns-in_default-get_two-2
returns-in_default-get_two-2 c =
    λ day in_range e. c.in_default-get_two-2.ensures (date_of day).day (fits_text day in_range).day (date_parts c.args.text.now (date_of day) e).day

pub returns-in_default-day_number : goal.returns-in_default-day_number
returns-in_default-day_number c =
    let year = c.in-Some.ensures in
    let month = c.in-Some-get_two.ensures in
    let day_of_month = c.in-Some-get_two-2.ensures in
    let found = found_parts c.args.text.now c.in-Some.year c.in-Some-get_two.month c.in-Some-get_two-2.day (omega arith) (omega arith) (omega arith) year.1 month.1 day_of_month.1 in
    λ day in_range e.
    c.in_default-day_number.ensures day in_range
    (same_date_from_parts c.args.text.now (date_of day) _ (fits_text day in_range) (record { year = year.0; month = month.0; day = day_of_month.0 }) (date_parts c.args.text.now (date_of day) e) found)

pub returns : goal.returns
returns c =
    let found = found_parts c.args.text.now c.in-Some.year c.in-Some-get_two.month c.in-Some-get_two-2.day (omega arith) (omega arith) (omega arith) c.in-Some.ensures.1 c.in-Some-get_two.ensures.1 c.in-Some-get_two-2.ensures.1 in
    let is = c.in-Some-day_number.ensures in
    (is.0, rw is.1 (date_text_from_parts c.args.text.now _ found))
