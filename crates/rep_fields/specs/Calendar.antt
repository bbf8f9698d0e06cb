-- The Gregorian calendar from 1970-01-01 to 9999-12-31, and its dates as ISO 8601 writes them: the fields of kind D
-- of Portaria MTP 671/2021, annex V, `AAAA-MM-dd`. The range of years is this project's own.
use Rattle.std.specs.Prelude.{◌≡◌, ℕ, zero, suc, ◌+◌, ◌%◌, ◌≤◌, Bool, not, ◌&&◌, ◌||◌, ◌==◌, nat_lt, Option, Some, None, if◌then◌else◌, List, [], ◌∷◌}
use Rattle.std.specs.List.{concat}
use Rattle.rep_fields.specs.Digits.{numeral}

-- a day of the calendar
pub record Date : Type 0 where
  pub year : ℕ
  pub month : ℕ
  pub day : ℕ

-- every fourth year, but of the centuries only every fourth
abbrev pub is_leap_year : ℕ → Bool
is_leap_year year = (year % 4 == 0) && (not (year % 100 == 0) || (year % 400 == 0))

-- thirty days have September, April, June and November
abbrev pub month_length : ℕ → ℕ → ℕ
month_length year month =
    if month == 2 then (if is_leap_year year then 29 else 28)
    else (if (month == 4) || (month == 6) || (month == 9) || (month == 11) then 30 else 31)

-- the day after
abbrev pub next_date : Date → Date
next_date date =
    if nat_lt date.day (month_length date.year date.month) then record date { day = date.day + 1 }
    else (if nat_lt date.month 12 then record { year = date.year; month = date.month + 1; day = 1 }
    else record { year = date.year + 1; month = 1; day = 1 })

-- the first day
abbrev pub first_date : Date
first_date = record { year = 1970; month = 1; day = 1 }

-- the date so many days after 1970-01-01
unfoldable pub date_of : ℕ → Date
date_of zero = first_date
date_of (suc days) = next_date (date_of days)

-- the days from 1970-01-01 to 9999-12-31
abbrev pub last_day : ℕ
last_day = 2932896

-- the number of a day in the range
abbrev pub IsDay : ℕ → Type 0
IsDay days = days ≤ last_day

-- the number is that of the date's day, and there is none where the date isn't in the range
abbrev pub IsDayOfDate : Date → Option ℕ → Type 0
IsDayOfDate date (Some days) = IsDay days × (date_of days ≡ date)
IsDayOfDate date None = (days : ℕ) → IsDay days → date_of days ≡ date → ⊥

-- year, month and day, with dashes
abbrev pub date_text : Date → List ℕ
date_text date = concat (numeral 4 date.year ∷ (45 ∷ []) ∷ numeral 2 date.month ∷ (45 ∷ []) ∷ numeral 2 date.day ∷ [])

-- the text of a day
abbrev pub day_text : ℕ → List ℕ
day_text days = date_text (date_of days)
