-- Laws of the fields of lane files.
use Rattle.std.proofs.Common.{◌≡◌, ℕ, ◌<◌, ◌≤◌, inl, inr, List, length, Option, Some, None, refl, sym, ap, ◌∙◌, subst, codes, arith}
use Rattle.rep_fields.specs.Decoding.{Decodes, DecodesBy}
use Rattle.rep_fields.specs.Digits.{numeral, digits, FitsDigits}
use Rattle.rep_fields.proofs.Numerals.{length-numeral}
use Rattle.rep_fields.proofs.Ids.{FitsDigits-wider}
use Rattle.afd_records.specs.Record.{IsCno}
use Rattle.rep_wire.specs.LaneGrammar.{IsCnoText}

pub numeral-seven : numeral 2 7 ≡ codes "07"
unfolding digits
numeral-seven = refl

pub numeral-eight : numeral 2 8 ≡ codes "08"
unfolding digits
numeral-eight = refl

-- a CNO isn't longer than 14 digits
pub no_long_cno : (text : List ℕ) (cno : ℕ) → 14 < length text → IsCnoText cno text → ⊥
no_long_cno text cno long (inl none) = omega (arith, ap length none.0)
no_long_cno text cno long (inr some) =
    omega (arith, ap length some.1.written, length-numeral some.0 cno, some.1.within)

-- the digits that are there are those of the CNO
pub cno_read : (text : List ℕ) (result : Option ℕ) → 1 ≤ length text → length text ≤ 14
    → Decodes (FitsDigits (length text)) (numeral (length text)) text result → DecodesBy IsCno IsCnoText text result
cno_read text (Some cno) some few read = (
  FitsDigits-wider (length text) 14 cno few read.0,
  inr (length text, record { some = some; within = few; fits = read.0; written = read.1 }),
)
cno_read text None some few read = λ cno in_range said. none cno said
  where
    none : (cno : ℕ) → IsCnoText cno text → ⊥
    none cno (inl nothing) = omega (arith, ap length nothing.0)
    none cno (inr digits_there) =
        let width : digits_there.0 ≡ length text =
        sym (length-numeral digits_there.0 cno) ∙ ap length (sym digits_there.1.written) in
        read cno (subst (λ (w : ℕ). FitsDigits w cno) width digits_there.1.fits)
        (digits_there.1.written ∙ ap (λ w. numeral w cno) width)
