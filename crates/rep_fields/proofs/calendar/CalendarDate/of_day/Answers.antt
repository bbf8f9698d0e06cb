use Rattle.std.proofs.Common.{rules, arith, FitsSigned, w16}
use Rattle.std.proofs.lemmas.Int.{to_z-of_z}
use Rattle.rep_fields.proofs.DateLemmas.{date_given, year-date_of}
use Rattle.rep_fields.proofs.calendar.CalendarDate.of_day.Goals as goal

pub overflow_cast-result : goal.overflow_cast-result
overflow_cast-result c =
    let civil = c.from_days_since_min-date.result in
    let given = date_given civil c.args.number c.requires c.from_days_since_min-date.ensures in
    let fits : FitsSigned w16 civil.year = search rules in
    simp to_z-of_z (rw given.year (tt, omega (arith, year-date_of c.args.number c.requires)))

pub returns : goal.returns
returns c =
    let civil = c.from_days_since_min-date.result in
    let given = date_given civil c.args.number c.requires c.from_days_since_min-date.ensures in
    let fits : FitsSigned w16 civil.year = search rules in
    simp (to_z-of_z, c.from.ensures, c.from-2.ensures)
    (record { date = given.date; year_bound = given.in_range.year_high; month_bound = given.in_range.month_high; day_bound = given.in_range.day_high })
