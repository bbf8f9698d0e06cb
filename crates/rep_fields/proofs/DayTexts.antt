-- The text of a date and its parts.
use Rattle.std.proofs.Common.{◌≡◌, ℕ, List, [], ◌∷◌, length, get_or, take, drop, refl, sym, ap, ◌∙◌, arith}
use Rattle.rep_fields.specs.Digits.{numeral, FitsDigits}
use Rattle.rep_fields.specs.Calendar.{Date, date_of, date_text, IsDay}
use Rattle.rep_fields.proofs.Numerals.{length-numeral, numeral-injective}
use Rattle.rep_fields.proofs.Layouts.{cuts, widths_of, total, parts_of_text, length-concat, text_of_parts, one_byte, byte_of_part}
use Rattle.rep_fields.proofs.DateLemmas.{date_in_range, same_date, date_of_parts}

-- a date whose parts have as many digits as the text gives them
pub record FitsText (date : Date) : Type 0 where
  pub year : FitsDigits 4 date.year
  pub month : FitsDigits 2 date.month
  pub day : FitsDigits 2 date.day

pub fits_text : (days : ℕ) → IsDay days → FitsText (date_of days)
fits_text days h =
    let is = date_in_range days h in
    record { year = omega (arith, is.year_high); month = omega (arith, is.month_high); day = omega (arith, is.day_high) }

-- what stands at the places of a text of ten bytes
pub record IsDateParts (text : List ℕ) (date : Date) : Type 0 where
  pub size : length text ≡ 10
  pub year : take 4 text ≡ numeral 4 date.year
  pub first_dash : get_or text 4 0 ≡ 45
  pub month : take 2 (drop 5 text) ≡ numeral 2 date.month
  pub second_dash : get_or text 7 0 ≡ 45
  pub day : take 2 (drop 8 text) ≡ numeral 2 date.day

abbrev parts : Date → List (List ℕ)
parts date = numeral 4 date.year ∷ (45 ∷ []) ∷ numeral 2 date.month ∷ (45 ∷ []) ∷ numeral 2 date.day ∷ []

abbrev widths : List ℕ
widths = 4 ∷ 1 ∷ 2 ∷ 1 ∷ 2 ∷ []

widths_of-parts : (date : Date) → widths_of (parts date) ≡ widths
widths_of-parts date = rw (length-numeral 4 date.year, length-numeral 2 date.month, length-numeral 2 date.day) refl

pub date_parts : (text : List ℕ) (date : Date) → text ≡ date_text date → IsDateParts text date
date_parts text date e =
    let size : length text ≡ 10 = ap length e ∙ length-concat (parts date) ∙ ap total (widths_of-parts date) in
    let same : cuts 0 widths text ≡ parts date = sym (ap (λ (ws : List ℕ). cuts 0 ws text) (widths_of-parts date)) ∙ parts_of_text (parts date) text e in
    record {
      size = size;
      year = cc;
      first_dash = byte_of_part text 4 45 (omega arith) cc;
      month = cc;
      second_dash = byte_of_part text 7 45 (omega arith) cc;
      day = cc;
    }

pub date_text_from_parts : (text : List ℕ) (date : Date) → IsDateParts text date → text ≡ date_text date
date_text_from_parts text date h =
    let first : take 1 (drop 4 text) ≡ 45 ∷ [] = one_byte text 4 45 (omega (arith, h.size)) h.first_dash in
    let second : take 1 (drop 7 text) ≡ 45 ∷ [] = one_byte text 7 45 (omega (arith, h.size)) h.second_dash in
    text_of_parts widths (parts date) text (sym h.size) (rw (h.year, first, h.month, second, h.day) refl)

-- a text is that of one date
pub same_date_from_parts : (text : List ℕ) (a b : Date) → FitsText a → FitsText b → IsDateParts text a → IsDateParts text b → a ≡ b
same_date_from_parts text a b fits_a fits_b h k =
    same_date a b
    (numeral-injective 4 a.year b.year fits_a.year fits_b.year (sym h.year ∙ k.year))
    (numeral-injective 2 a.month b.month fits_a.month fits_b.month (sym h.month ∙ k.month))
    (numeral-injective 2 a.day b.day fits_a.day fits_b.day (sym h.day ∙ k.day))

-- the parts that a reader found make up a date
pub found_parts : (text : List ℕ) (year month day : ℕ) → length text ≡ 10 → get_or text 4 0 ≡ 45 → get_or text 7 0 ≡ 45 → take 4 text ≡ numeral 4 year → take 2 (drop 5 text) ≡ numeral 2 month → take 2 (drop 8 text) ≡ numeral 2 day → IsDateParts text (date_of_parts year month day)
found_parts text year month day size first_dash second_dash year_is month_is day_is =
    record { size = size; year = year_is; first_dash = first_dash; month = month_is; second_dash = second_dash; day = day_is }
