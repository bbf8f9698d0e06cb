-- The texts of hours and minutes and of offsets, and their parts.
use Rattle.std.proofs.Common.{◌≡◌, ℕ, ◌/◌, ◌%◌, List, ◌∷◌, length, get_or, take, drop, Option, Some, None, refl, sym, ap, ◌∙◌, arith, length-append, ℤ, pos, negsuc, unsigned_abs}
use Rattle.std.proofs.lemmas.List.{take_at, drop_at, take_all, length-drop, drop_more}
use Rattle.rep_fields.specs.Decoding.{Decodes}
use Rattle.rep_fields.specs.Digits.{numeral, FitsDigits}
use Rattle.rep_fields.specs.Moment.{hours_text, offset_text, sign_of, IsOffset, IsSignedOffset}
use Rattle.rep_fields.proofs.Numerals.{length-numeral, numeral-injective}

-- what stands at the places of a text of four bytes
pub record IsHoursParts (text : List ℕ) (minutes : ℕ) : Type 0 where
  pub size : length text ≡ 4
  pub hours : take 2 text ≡ numeral 2 (minutes / 60)
  pub rest : take 2 (drop 2 text) ≡ numeral 2 (minutes % 60)

pub hours_parts : (text : List ℕ) (minutes : ℕ) → text ≡ hours_text minutes → IsHoursParts text minutes
hours_parts text minutes e =
    let hours = length-numeral 2 (minutes / 60) in
    let wide = length-numeral 2 (minutes % 60) in
    let front = numeral 2 (minutes / 60) in
    let back = numeral 2 (minutes % 60) in
    record {
      size = ap length e ∙ omega (arith, length-append front back);
      hours = ap (take 2) e ∙ take_at front back 2 hours;
      rest = ap (λ (t : List ℕ). take 2 (drop 2 t)) e ∙ ap (take 2) (drop_at front back 2 hours) ∙ take_all 2 back (omega arith);
    }

pub hours_text-injective : (m n : ℕ) → FitsDigits 2 (m / 60) → FitsDigits 2 (n / 60) → hours_text m ≡ hours_text n → m ≡ n
hours_text-injective m n fits_m fits_n e =
    let a = hours_parts (hours_text n) m (sym e) in
    let b = hours_parts (hours_text n) n refl in
    let hours = numeral-injective 2 (m / 60) (n / 60) fits_m fits_n (sym a.hours ∙ b.hours) in
    let minutes = numeral-injective 2 (m % 60) (n % 60) (omega arith) (omega arith) (sym a.rest ∙ b.rest) in
    omega (arith, hours, minutes)

pub offset_text-signed : (offset : ℤ) → offset_text offset ≡ sign_of offset ∷ hours_text (unsigned_abs offset)
offset_text-signed (pos minutes) = refl
offset_text-signed (negsuc less) = refl

pub length-offset_text : (offset : ℤ) → length (offset_text offset) ≡ 5
length-offset_text offset =
    ap length (offset_text-signed offset) ∙ omega (arith, (hours_parts (hours_text (unsigned_abs offset)) (unsigned_abs offset) refl).size)

-- what a reader of the sign and of the minutes makes of a text is what the text says
pub offset_decoded : (text : List ℕ) (sign minutes : ℕ) (result : Option ℤ) → text ≡ sign ∷ hours_text minutes → FitsDigits 2 (minutes / 60) → IsSignedOffset sign minutes result → Decodes IsOffset offset_text text result
offset_decoded text sign minutes (Some offset) e fits h =
    (h.0, e ∙ sym (offset_text-signed offset ∙ ap (λ (s : ℕ). s ∷ hours_text (unsigned_abs offset)) h.1.0 ∙ ap (λ (m : ℕ). sign ∷ hours_text m) h.1.1))
offset_decoded text sign minutes None e fits h = λ offset in_range is.
    let same : sign ∷ hours_text minutes ≡ sign_of offset ∷ hours_text (unsigned_abs offset) = sym e ∙ is ∙ offset_text-signed offset in
    let heads : sign ≡ sign_of offset = cc in
    let tails : hours_text minutes ≡ hours_text (unsigned_abs offset) = cc in
    h offset in_range (sym heads, sym (hours_text-injective minutes (unsigned_abs offset) fits (omega arith) tails))

-- a text of five bytes is its first one and the four behind it
pub first_and_four : (text rest : List ℕ) → length text ≡ 5 → take 4 (drop 1 text) ≡ rest → text ≡ get_or text 0 0 ∷ rest
first_and_four text rest size e = drop_more text 0 0 (omega arith) ∙ ap (λ (t : List ℕ). get_or text 0 0 ∷ t) (sym (take_all 4 (drop 1 text) (omega (arith, length-drop 1 text))) ∙ e)
