-- A number that was read in a field is the only one there.
use Rattle.std.proofs.Common.{◌≡◌, ℕ, List, length, sym, ◌∙◌, subst}
use Rattle.rep_fields.specs.Digits.{numeral, FitsDigits}
use Rattle.rep_fields.proofs.Numerals.{numeral-injective}

pub only_number : (width : ℕ) (field : List ℕ) (m n : ℕ) → length field ≡ width
    → FitsDigits (length field) m × (field ≡ numeral (length field) m) → FitsDigits width n → field ≡ numeral width n
    → m ≡ n
only_number width field m n size read fits is =
    numeral-injective width m n (subst (λ (w : ℕ). FitsDigits w m) size read.0) fits
    (sym (subst (λ (w : ℕ). field ≡ numeral w m) size read.1) ∙ is)
