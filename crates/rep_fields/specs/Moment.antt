-- Stamps: a local minute with the offset of its clock from UTC, as ISO 8601 writes them. They are the fields of
-- kind DH of Portaria MTP 671/2021, annex V, `AAAA-MM-ddThh:mm:00ZZZZZ`. The ranges are this project's own.
use Rattle.std.specs.Prelude.{◌≡◌, ◌≢◌, ℕ, suc, ◌/◌, ◌%◌, ◌<◌, ◌≤◌, ◌⊎◌, ◌↔◌, Bool, IsTrue, Option, Some, None, if◌then◌else◌, List, [], ◌∷◌, ◌++◌, ℤ, pos, negsuc, ◌+ℤ◌, ◌-ℤ◌, unsigned_abs, codes}
use Rattle.std.specs.List.{concat}
use Rattle.rep_fields.specs.Digits.{numeral, FitsDigits}
use Rattle.rep_fields.specs.Calendar.{day_text}

-- what a stamp says
pub record Moment : Type 0 where
  -- minutes since 1970-01-01T00:00 of the local time
  pub local : ℕ
  -- how many minutes the local time is ahead of UTC
  pub offset : ℤ

abbrev pub minutes_of_day : ℕ
minutes_of_day = 1440

-- 14 hours
abbrev pub greatest_offset : ℕ
greatest_offset = 840

-- 9999-12-31T23:59
abbrev pub last_local : ℕ
last_local = 4223371679

-- at most 14 hours ahead or behind
abbrev pub IsOffset : ℤ → Type 0
IsOffset offset = unsigned_abs offset ≤ greatest_offset

pub record IsMoment (moment : Moment) : Type 0 where
  pub local : moment.local ≤ last_local
  pub offset : IsOffset moment.offset

-- minutes as hours and minutes, in two digits each: a field of kind H of Portaria MTP 671/2021, annex VI
abbrev pub hours_text : ℕ → List ℕ
hours_text minutes = numeral 2 (minutes / 60) ++ numeral 2 (minutes % 60)

-- a minute of a day
abbrev pub IsMinuteOfDay : ℕ → Type 0
IsMinuteOfDay minute = minute < minutes_of_day

-- sign, hours and minutes; zero is `+0000`
abbrev pub offset_text : ℤ → List ℕ
offset_text (pos minutes) = codes "+" ++ hours_text minutes
offset_text (negsuc less) = codes "-" ++ hours_text (suc less)

-- the character of an offset's sign
abbrev pub sign_of : ℤ → ℕ
sign_of (pos minutes) = 43
sign_of (negsuc less) = 45

-- the offset has this sign and so many minutes
abbrev pub IsSigned : ℕ → ℕ → ℤ → Type 0
IsSigned sign minutes offset = (sign_of offset ≡ sign) × (unsigned_abs offset ≡ minutes)

-- the offset in the range that has this sign and so many minutes, and none only where there is none
abbrev pub IsSignedOffset : ℕ → ℕ → Option ℤ → Type 0
IsSignedOffset sign minutes (Some offset) = IsOffset offset × IsSigned sign minutes offset
IsSignedOffset sign minutes None = (offset : ℤ) → IsOffset offset → IsSigned sign minutes offset → ⊥

-- date, hours, minutes and seconds of a stamp, without its offset
abbrev pub local_text : ℕ → ℕ → List ℕ
local_text local seconds =
    concat (day_text (local / minutes_of_day) ∷ codes "T" ∷ numeral 2 (local % minutes_of_day / 60) ∷ codes ":"
    ∷ numeral 2 (local % 60) ∷ codes ":" ∷ numeral 2 seconds ∷ [])

-- a local minute in the range, and seconds of two digits
abbrev pub IsLocalTime : (ℕ × ℕ) → Type 0
IsLocalTime time = (time.0 ≤ last_local) × FitsDigits 2 time.1

-- the text of a stamp: its seconds are 00
abbrev pub moment_text : Moment → List ℕ
moment_text moment = local_text moment.local 0 ++ offset_text moment.offset

-- an offset, and whether it is written `-0000`
abbrev pub IsLooseOffset : (ℤ × Bool) → Type 0
IsLooseOffset loose = IsOffset loose.0 × (IsTrue loose.1 → loose.0 ≡ pos 0)

abbrev pub loose_offset_text : ℤ → Bool → List ℕ
loose_offset_text offset minus_zero = if minus_zero then codes "-0000" else offset_text offset

-- what a lenient reader tells of a stamp
pub record Lenient : Type 0 where
  pub moment : Moment
  -- whether the text isn't the strict one
  pub odd : Bool

-- This project's own leniency on reading: seconds from 00 to 59, and `-0000` for the offset zero. The seconds are
-- dropped.
pub record IsLenientText (lenient : Lenient) (seconds : ℕ) (minus_zero : Bool) (bytes : List ℕ) : Type 0 where
  pub in_range : IsMoment lenient.moment
  pub in_minute : seconds < 60
  pub at_zero : IsTrue minus_zero → lenient.moment.offset ≡ pos 0
  pub text : bytes ≡ local_text lenient.moment.local seconds
      ++ (if minus_zero then codes "-0000" else offset_text lenient.moment.offset)
  pub told_odd : IsTrue lenient.odd ↔ ((seconds ≢ 0) ⊎ IsTrue minus_zero)

abbrev pub IsLenientlyWritten : Lenient → List ℕ → Type 0
IsLenientlyWritten lenient bytes = (seconds : ℕ) × (minus_zero : Bool) × IsLenientText lenient seconds minus_zero bytes

-- a lenient reader tells of a stamp in the range
abbrev pub IsLenientMoment : Lenient → Type 0
IsLenientMoment lenient = IsMoment lenient.moment

-- the least and the greatest minute since 1970-01-01T00:00 UTC that a clock answers
abbrev pub first_reading : ℕ
first_reading = 840

abbrev pub last_reading : ℕ
last_reading = 4223370839

-- The stamp of a minute since 1970-01-01T00:00 UTC at an offset, for the readings of a clock: from minute 840 on no
-- offset leads back before 1970, and below it the sum may be negative, which this word doesn't speak of.
abbrev pub moment_at : ℕ → ℤ → Moment
moment_at instant offset = record { local = unsigned_abs (pos instant +ℤ offset); offset = offset }

-- the minute since 1970-01-01T00:00 UTC
abbrev pub instant_of : Moment → ℤ
instant_of moment = pos moment.local -ℤ moment.offset

-- the number of the local day
abbrev pub day_of : Moment → ℕ
day_of moment = moment.local / minutes_of_day

-- the moment is that minute since 1970-01-01T00:00 UTC, told at that offset
abbrev pub IsMomentAt : ℕ → ℤ → Moment → Type 0
IsMomentAt instant offset moment = (moment.offset ≡ offset) × (instant_of moment ≡ pos instant)

-- the stamp of a minute at an offset, and none only where no stamp in the range is of that minute
abbrev pub IsStampAt : ℕ → ℤ → Option Moment → Type 0
IsStampAt instant offset (Some moment) = IsMoment moment × IsMomentAt instant offset moment
IsStampAt instant offset None = (moment : Moment) → IsMoment moment → IsMomentAt instant offset moment → ⊥
