-- The walk from day to day is the calendar of `jiff_core`: `next_date` raises its day number by one.
use Rattle.std.proofs.Common.{◌≡◌, ℕ, zero, suc, ◌+◌, ◌-◌, ◌<◌, ◌≤◌, inl, inr, Some, None, refl, sym, ap, ◌∙◌, subst, arith, ℤ, pos, ◌+ℤ◌, ◌≤ℤ◌, unsigned_abs}
use Rattle.std.proofs.lemmas.Bool.{cases_lt, lt-ltb, le-ltb}
use Rattle.std.proofs.lemmas.Int.{by_lt_z}
use Rattle.rep_fields.specs.Calendar.{Date, month_length, next_date, date_of, IsDay, IsDayOfDate}
use Rattle.jiff_core.specs.declared.civil.date.Date.{Date as CivilDate}
use Rattle.jiff_core.specs.Calendar.{days_from_civil, day_count, IsDate}
use Rattle.jiff_core.specs.Date.{epoch_day}
use Rattle.jiff_core.proofs.SignedLemmas.{signed_arith}
use Rattle.jiff_core.proofs.CalendarLemmas.{day_count-epoch, day_count-end, day_count-next_year, day_count-later_year, days_from_civil-day_count, day_count-day_of_year, days_in_month_bounds}
use Rattle.jiff_core.proofs.DateLemmas.{days_from_civil-day, days_from_civil-next_month, days_from_civil-next_year, epoch_day_injective, epoch_day_range}

-- a day that the calendar has
pub record IsOnCalendar (date : Date) : Type 0 where
  pub month_low : 1 ≤ date.month
  pub month_high : date.month ≤ 12
  pub day_low : 1 ≤ date.day
  pub day_high : date.day ≤ month_length date.year date.month

-- the calendar's number of a day
abbrev pub number_of : Date → ℤ
number_of date = days_from_civil (pos date.year) date.month date.day

pub month_length_bounds : (year month : ℕ) → (month_length year month ≤ 31) × (28 ≤ month_length year month)
month_length_bounds year month = days_in_month_bounds (pos year) month

-- the three ways to the next day
next_date_in_month : (date : Date) → date.day < month_length date.year date.month → next_date date ≡ record date { day = date.day + 1 }
next_date_in_month date h = rw (lt-ltb date.day (month_length date.year date.month) h) refl

next_date_in_year : (date : Date) → month_length date.year date.month ≤ date.day → date.month < 12 → next_date date ≡ record { year = date.year; month = date.month + 1; day = 1 }
next_date_in_year date h k = rw (le-ltb date.day (month_length date.year date.month) h, lt-ltb date.month 12 k) refl

next_date_after_year : (date : Date) → month_length date.year date.month ≤ date.day → 12 ≤ date.month → next_date date ≡ record { year = date.year + 1; month = 1; day = 1 }
next_date_after_year date h k = rw (le-ltb date.day (month_length date.year date.month) h, le-ltb date.month 12 k) refl

-- the next day is on the calendar too, and its number is one more
pub record IsNextDay (date next : Date) : Type 0 where
  pub on_calendar : IsOnCalendar next
  pub number : number_of next ≡ number_of date +ℤ pos 1
  pub year_low : date.year ≤ next.year
  pub year_high : next.year ≤ date.year + 1

number_of-after_december : (date : Date) → IsOnCalendar date → month_length date.year date.month ≤ date.day → 12 ≤ date.month → days_from_civil (pos (date.year + 1)) 1 1 ≡ number_of date +ℤ pos 1
number_of-after_december date h last_of_month last_of_year =
    let december : date.month ≡ 12 = omega (arith, h.month_high) in
    let long : month_length date.year date.month ≡ 31 = rw december refl in
    let last : date.day ≡ 31 = omega (arith, h.day_high) in
    rw (december, last) (days_from_civil-next_year (pos date.year) (pos (date.year + 1)) (omega (arith, signed_arith)) refl)

pub next_date_is : (date : Date) → IsOnCalendar date → IsNextDay date (next_date date)
next_date_is date h =
    let P = λ (next : Date). IsNextDay date next in
    elim (cases_lt date.day (month_length date.year date.month)) [
      | inl in_month ↦ subst P (sym (next_date_in_month date in_month)) (record {
        on_calendar = record { month_low = h.month_low; month_high = h.month_high; day_low = omega arith; day_high = omega arith };
        number = omega (arith, signed_arith, days_from_civil-day (pos date.year) date.month date.day (date.day + 1) h.day_low (omega arith));
        year_low = omega arith;
        year_high = omega arith;
      })
      | inr last_of_month ↦ elim (cases_lt date.month 12) [
        | inl in_year ↦ subst P (sym (next_date_in_year date last_of_month in_year)) (record {
          on_calendar = record { month_low = omega arith; month_high = omega arith; day_low = omega arith; day_high = omega (arith, month_length_bounds date.year (date.month + 1)) };
          number = days_from_civil-next_month (pos date.year) date.month date.day h.month_low (omega arith);
          year_low = omega arith;
          year_high = omega arith;
        })
        | inr last_of_year ↦ subst P (sym (next_date_after_year date last_of_month last_of_year)) (record {
          on_calendar = record { month_low = omega arith; month_high = omega arith; day_low = omega arith; day_high = omega arith };
          number = number_of-after_december date h last_of_month last_of_year;
          year_low = omega arith;
          year_high = omega arith;
        })
      ]
    ]

-- so the walk stays on the calendar, and the number of its date is the number of its steps
pub record IsDateOf (days : ℕ) (date : Date) : Type 0 where
  pub on_calendar : IsOnCalendar date
  pub number : number_of date ≡ pos days
  pub year_low : 1970 ≤ date.year
  pub year_high : date.year ≤ 1970 + days

pub date_of_is : (days : ℕ) → IsDateOf days (date_of days)
unfolding date_of
date_of_is zero = record {
  on_calendar = record { month_low = omega arith; month_high = omega arith; day_low = omega arith; day_high = omega arith };
  number = omega (arith, signed_arith, days_from_civil-day_count, day_count-epoch);
  year_low = omega arith;
  year_high = omega arith;
}
date_of_is (suc days) =
    let before = date_of_is days in
    let next = next_date_is (date_of days) before.on_calendar in
    record {
      on_calendar = next.on_calendar;
      number = omega (arith, signed_arith, next.number, before.number);
      year_low = omega (arith, next.year_low, before.year_low);
      year_high = omega (arith, next.year_high, before.year_high);
    }

-- the days of the range lie before the year 10000
pub year-date_of : (days : ℕ) → IsDay days → (date_of days).year ≤ 9999
year-date_of days h =
    let date = date_of days in
    let is = date_of_is days in
    let number : day_count (pos date.year) date.month date.day ≡ days + 4_371_953 = omega (arith, signed_arith, is.number, days_from_civil-day_count (pos date.year) date.month date.day) in
    elim (cases_lt 9999 date.year) [
      | inl late ↦ absurd (omega (arith, number, day_count-day_of_year (pos date.year) date.month date.day is.on_calendar.day_low, day_count-end, day_count-next_year (pos 9999) (pos 10000) (omega (arith, signed_arith)) refl, day_count-later_year (pos 9999) (pos date.year) (omega (arith, signed_arith)) (omega (arith, signed_arith)), is.on_calendar.day_low))
      | inr fits ↦ fits
    ]

-- the calendar's record of a date in the range
civil_date_of : (days : ℕ) → IsDay days → CivilDate
civil_date_of days h =
    let is = (date_of_is days).on_calendar in
    record {
      year = pos (date_of days).year;
      month = (date_of days).month;
      day = (date_of days).day;
      year_in = (omega (arith, signed_arith), omega (arith, signed_arith, year-date_of days h));
      month_in = (is.month_low, is.month_high);
      day_in = (is.day_low, is.day_high);
    }

-- the calendar's date with the number of a day is the date of that day
pub record IsSameDate (civil : CivilDate) (date : Date) : Type 0 where
  pub year : civil.year ≡ pos date.year
  pub month : civil.month ≡ date.month
  pub day : civil.day ≡ date.day

pub same_date_from_number : (civil : CivilDate) (days : ℕ) → IsDay days → epoch_day civil ≡ pos days → IsSameDate civil (date_of days)
unfolding civil_date_of
same_date_from_number civil days h e =
    let same = epoch_day_injective civil (civil_date_of days h) (e ∙ sym (date_of_is days).number) in
    record { year = same.0; month = same.1; day = same.2 }

-- what the dates of the range have in common, as the calendar's constructor takes them
pub record IsDateInRange (date : Date) : Type 0 where
  pub year_low : 1970 ≤ date.year
  pub year_high : date.year ≤ 9999
  pub month_high : date.month ≤ 12
  pub day_high : date.day ≤ 31
  pub is_date : IsDate (pos date.year) (pos date.month) (pos date.day)

pub date_in_range : (days : ℕ) → IsDay days → IsDateInRange (date_of days)
date_in_range days h =
    let is = date_of_is days in
    let on_calendar = is.on_calendar in
    record {
      year_low = is.year_low;
      year_high = year-date_of days h;
      month_high = on_calendar.month_high;
      day_high = omega (arith, on_calendar.day_high, month_length_bounds (date_of days).year (date_of days).month);
      is_date = (
        (omega (arith, signed_arith), omega (arith, signed_arith, year-date_of days h)),
        (omega (arith, signed_arith, on_calendar.month_low), omega (arith, signed_arith, on_calendar.month_high)),
        (omega (arith, signed_arith, on_calendar.day_low), omega (arith, signed_arith, on_calendar.day_high)),
      );
    }

-- a date that lacks one of these is that of no day of the range
pub no_day_of_date : (date : Date) → (IsDateInRange date → ⊥) → IsDayOfDate date None
no_day_of_date date refused days h e = refused (subst IsDateInRange e (date_in_range days h))

-- a date from 1970 on has a day number that isn't negative
pub number_not_negative : (civil : CivilDate) → pos 1970 ≤ℤ civil.year → pos 0 ≤ℤ epoch_day civil
number_not_negative civil h =
    let place = day_count-day_of_year civil.year civil.month civil.day civil.day_in.0 in
    by_lt_z (pos 1970) civil.year
    (λ later. omega (arith, signed_arith, civil.day_in.0, place, days_from_civil-day_count, day_count-epoch, day_count-later_year (pos 1970) civil.year (omega (arith, signed_arith)) later))
    (λ not_later. let same : civil.year ≡ pos 1970 = omega (arith, signed_arith) in
    let first : day_count civil.year 1 1 ≡ 4_371_953 = rw same day_count-epoch in
    omega (arith, signed_arith, civil.day_in.0, place, days_from_civil-day_count, first))

abbrev pub date_of_parts : ℕ → ℕ → ℕ → Date
date_of_parts year month day = record { year = year; month = month; day = day }

pub same_date : (a b : Date) → a.year ≡ b.year → a.month ≡ b.month → a.day ≡ b.day → a ≡ b
same_date a b year month day =
    ap (λ (y : ℕ). date_of_parts y a.month a.day) year ∙ ap (λ (m : ℕ). date_of_parts b.year m a.day) month ∙ ap (λ (d : ℕ). date_of_parts b.year b.month d) day

-- the date that the calendar's constructor made of a year from 1970 on and a month and a day is that of its number
pub is_day_of_date : (civil : CivilDate) (date : Date) (since_min : ℕ) → 1970 ≤ date.year → civil.year ≡ pos date.year → pos civil.month ≡ pos date.month → pos civil.day ≡ pos date.day → epoch_day civil +ℤ pos 4_371_587 ≡ pos since_min → (4_371_587 ≤ since_min) × IsDayOfDate date (Some (since_min - 4_371_587))
is_day_of_date civil date since_min low year month day e =
    let not_negative = number_not_negative civil (omega (arith, signed_arith)) in
    let number : epoch_day civil ≡ pos (since_min - 4_371_587) = omega (arith, signed_arith) in
    let in_range : IsDay (since_min - 4_371_587) = omega (arith, signed_arith, epoch_day_range civil) in
    let same = same_date_from_number civil (since_min - 4_371_587) in_range number in
    (omega (arith, signed_arith), (in_range, same_date (date_of (since_min - 4_371_587)) date (omega (arith, signed_arith, same.year)) (omega (arith, signed_arith, same.month)) (omega (arith, signed_arith, same.day))))

-- and the parts of the date that the calendar gives for a number are those of its day
pub record IsDateGiven (civil : CivilDate) (days : ℕ) : Type 0 where
  pub year : civil.year ≡ pos (date_of days).year
  pub date : date_of_parts (unsigned_abs civil.year) civil.month civil.day ≡ date_of days
  pub in_range : IsDateInRange (date_of_parts (unsigned_abs civil.year) civil.month civil.day)

pub date_given : (civil : CivilDate) (days : ℕ) → IsDay days → epoch_day civil +ℤ pos 4_371_587 ≡ pos (days + 4_371_587) → IsDateGiven civil days
date_given civil days h e =
    let same = same_date_from_number civil days h (omega (arith, signed_arith)) in
    let date = same_date (date_of_parts (unsigned_abs civil.year) civil.month civil.day) (date_of days) (ap unsigned_abs same.year) same.month same.day in
    record { year = same.year; date = date; in_range = subst IsDateInRange (sym date) (date_in_range days h) }
