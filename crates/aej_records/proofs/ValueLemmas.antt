-- Laws of what one field says: a field says one value at most.
use Rattle.std.proofs.Common.{◌≡◌, ℕ, ◌<◌, ◌≤◌, List, length, Option, Some, None, IsSome, refl, sym, ap, ◌∙◌, subst, arith}
use Rattle.rep_fields.specs.Decoding.{Decodes, DecodesBy}
use Rattle.rep_fields.specs.Digits.{numeral, FitsDigits, IsDigitCount}
use Rattle.rep_fields.proofs.Numerals.{length-numeral, numeral-injective}
use Rattle.rep_fields.proofs.Ids.{FitsDigits-wider}
use Rattle.aej_records.specs.Grammar.{IsNumeral, IsNumeralText}

-- a number has as many digits as its field
pub width_of-numeral : (most n : ℕ) (text : List ℕ) (width : ℕ) → IsNumeral most n text width → length text ≡ width
width_of-numeral most n text width said = ap length said.written ∙ length-numeral width n

pub IsNumeralText-unique : (most other_most m n : ℕ) (text : List ℕ) → IsNumeralText most m text
    → IsNumeralText other_most n text → m ≡ n
IsNumeralText-unique most other_most m n text m_said n_said =
    let widths : m_said.0 ≡ n_said.0 =
    sym (width_of-numeral most m text m_said.0 m_said.1) ∙ width_of-numeral other_most n text n_said.0 n_said.1 in
    let fits : FitsDigits n_said.0 m = subst (λ (w : ℕ). FitsDigits w m) widths m_said.1.fits in
    numeral-injective n_said.0 m n fits n_said.1.fits
    (ap (λ w. numeral w m) (sym widths) ∙ sym m_said.1.written ∙ n_said.1.written)

-- a longer field shows no such number
pub no_long_numeral : (most n : ℕ) (text : List ℕ) → most < length text → IsNumeralText most n text → ⊥
no_long_numeral most n text long said =
    omega (arith, width_of-numeral most n text said.0 said.1, said.1.within)

-- the digits that a field has are those of its number
pub numeral_read : (most : ℕ) (text : List ℕ) (result : Option ℕ) → most ≤ 9 → length text ≤ most
    → (IsSome result → IsDigitCount (length text))
    → (IsDigitCount (length text) → Decodes (FitsDigits (length text)) (numeral (length text)) text result)
    → DecodesBy (FitsDigits most) (IsNumeralText most) text result
numeral_read most text (Some n) small short counted read =
    let count = counted refl in
    let found = read count in
    let said : IsNumeralText most n text =
    (length text, record { some = count.0; within = short; fits = found.0; written = found.1 }) in
    (FitsDigits-wider (length text) most n short found.0, said)
numeral_read most text None small short counted read = λ n in_range said.
    let width = width_of-numeral most n text said.0 said.1 in
    let some = said.1.some in
    read (omega arith, omega arith) n (subst (λ (w : ℕ). FitsDigits w n) (sym width) said.1.fits)
    (said.1.written ∙ ap (λ w. numeral w n) (sym width))
