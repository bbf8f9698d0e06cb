use Rattle.std.proofs.Common.{arith, rules, ◌≤◌, ◌≡◌, ap, ◌∙◌, suc, add-one}
use Rattle.rep_fields.specs.Calendar.{date_of, next_date}
use Rattle.rep_fields.proofs.DateLemmas.{year-date_of}
use Rattle.rep_fields.proofs.calendar.date_by_steps.Goals as goal

pub loop-day-init : goal.loop-day-init
unfolding date_of
loop-day-init c = search rules

pub next-date-requires : goal.next-date-requires
next-date-requires c =
    let year : c.loop-day.date.year ≤ 9999 = rw c.loop-day.invariant (year-date_of c.loop-day.day (omega arith)) in
    omega arith

pub loop-day-preserved : goal.loop-day-preserved
unfolding date_of
loop-day-preserved c =
    let step : next_date c.loop-day.date ≡ date_of (suc c.loop-day.day) = ap next_date c.loop-day.invariant in
    rw add-one (c.next-date.ensures ∙ step)
