use Rattle.std.proofs.Common.{arith, ◌^◌, ◌<◌, ◌-◌, ◌≤◌, Some}
use Rattle.std.proofs.lemmas.Bool.{false≢true}
use Rattle.std.proofs.lemmas.Int.{to_z_pos}
use Rattle.jiff_core.proofs.SignedLemmas.{signed_casts}
use Rattle.rep_fields.specs.Calendar.{IsDayOfDate}
use Rattle.rep_fields.proofs.DateLemmas.{no_day_of_date, IsDateInRange, is_day_of_date}
use Rattle.rep_fields.proofs.calendar.CalendarDate.day_number.Goals as goal

pub returns-then-year-lt1970 : goal.returns-then-year-lt1970
returns-then-year-lt1970 c =
    rw (← c.self.view_is) (no_day_of_date _ (λ (h : IsDateInRange _). grind (arith, h.year_low, h.year_high, h.month_high, h.day_high)))

day_is : (c : goal.After-days_since_min) → (4_371_587 ≤ c.days_since_min.result) × IsDayOfDate c.args.self (Some (c.days_since_min.result - 4_371_587))
day_is c =
    let made = c.in-Ok.ensures.value in
    rw (← c.self.view_is) (is_day_of_date c.in-Ok.date _ c.days_since_min.result c.if-year-lt1970.false (omega (arith, signed_casts, made.0)) (omega (arith, signed_casts, made.1)) (omega (arith, signed_casts, made.2)) c.days_since_min.ensures.value)

pub overflow_sub-result : goal.overflow_sub-result
overflow_sub-result c = (day_is c).0

pub returns-in-Ok : goal.returns-in-Ok
returns-in-Ok c = (day_is c).1

pub returns-in-Err : goal.returns-in-Err
returns-in-Err c =
    let date = c.self.inside in
    let year : date.year < 2 ^ 15 = omega arith in
    let month : date.month < 2 ^ 7 = omega arith in
    let day : date.day < 2 ^ 7 = omega arith in
    let refused = simp to_z_pos at c.in-Err.ensures.succeeds.1 in
    rw (← c.self.view_is) (no_day_of_date _ (λ (h : IsDateInRange _). false≢true (refused h.is_date)))
