-- The fields of a trailer.
use Rattle.std.proofs.Common.{◌≡◌, ℕ, List, [], ◌∷◌, length, get_or, take, drop, refl, sym, ap, ◌∙◌, arith, append_assoc}
use Rattle.std.specs.Prelude.{codes, Option, Some}
use Rattle.std.specs.List.{concat}
use Rattle.std.proofs.lemmas.List.Elements.{All-nil, All-cons}
use Rattle.rep_fields.specs.Decoding.{Decodes}
use Rattle.rep_fields.specs.Digits.{numeral, FitsDigits}
use Rattle.rep_fields.proofs.Layouts.{cuts, widths_of, total, parts_of_text, text_of_parts, length-concat, one_byte, byte_of_part}
use Rattle.rep_fields.proofs.Numerals.{length-numeral, numeral-injective}
use Rattle.rep_fields.proofs.Reading.{Decodes-found}
use Rattle.afd_records.specs.Fields.{Spells}
use Rattle.afd_records.specs.File.{trailer_text, HasTrailerText}
use Rattle.afd_records.specs.declared.trailer.Trailer.{Trailer}

abbrev IsCountText : List ℕ → Type 0
IsCountText bytes = Spells (FitsDigits 9) (numeral 9) bytes

-- what stands at the places of a trailer
pub record IsTrailerLine (line : List ℕ) : Type 0 where
  pub size : length line ≡ 64
  pub nines : take 9 line ≡ codes "999999999"
  pub employers : IsCountText (take 9 (drop 9 line))
  pub device_clockings : IsCountText (take 9 (drop 18 line))
  pub adjustments : IsCountText (take 9 (drop 27 line))
  pub workers : IsCountText (take 9 (drop 36 line))
  pub events : IsCountText (take 9 (drop 45 line))
  pub clockings : IsCountText (take 9 (drop 54 line))
  pub type : get_or line 63 0 ≡ 57

abbrev parts : ℕ → ℕ → ℕ → ℕ → ℕ → ℕ → List (List ℕ)
parts a b c d e f =
    codes "999999999" ∷ numeral 9 a ∷ numeral 9 b ∷ numeral 9 c ∷ numeral 9 d ∷ numeral 9 e ∷ numeral 9 f ∷ codes "9" ∷ []

abbrev widths : List ℕ
widths = 9 ∷ 9 ∷ 9 ∷ 9 ∷ 9 ∷ 9 ∷ 9 ∷ 1 ∷ []

trailer_text-parts : (a b c d e f : ℕ) → trailer_text (a ∷ b ∷ c ∷ d ∷ e ∷ f ∷ []) ≡ concat (parts a b c d e f)
unfolding trailer_text
trailer_text-parts a b c d e f = simp append_assoc

widths_of-parts : (a b c d e f : ℕ) → widths_of (parts a b c d e f) ≡ widths
widths_of-parts a b c d e f =
    rw (length-numeral 9 a, length-numeral 9 b, length-numeral 9 c, length-numeral 9 d, length-numeral 9 e, length-numeral 9 f) refl

cuts-trailer : (a b c d e f : ℕ)
    → cuts 0 widths (trailer_text (a ∷ b ∷ c ∷ d ∷ e ∷ f ∷ [])) ≡ parts a b c d e f
cuts-trailer a b c d e f =
    sym (ap (λ (ws : List ℕ). cuts 0 ws (trailer_text (a ∷ b ∷ c ∷ d ∷ e ∷ f ∷ []))) (widths_of-parts a b c d e f))
    ∙ parts_of_text (parts a b c d e f) (trailer_text (a ∷ b ∷ c ∷ d ∷ e ∷ f ∷ [])) (trailer_text-parts a b c d e f)

pub trailer_line : (line counts : List ℕ) → HasTrailerText counts → line ≡ trailer_text counts → IsTrailerLine line
trailer_line line (a ∷ b ∷ c ∷ d ∷ e ∷ f ∷ []) fits is =
    let text : line ≡ concat (parts a b c d e f) = is ∙ trailer_text-parts a b c d e f in
    let size : length line ≡ 64 =
    ap length text ∙ length-concat (parts a b c d e f) ∙ ap total (widths_of-parts a b c d e f) in
    let cut : cuts 0 widths line ≡ parts a b c d e f =
    sym (ap (λ (ws : List ℕ). cuts 0 ws line) (widths_of-parts a b c d e f)) ∙ parts_of_text (parts a b c d e f) line text in
    record {
      size = size;
      nines = cc cut;
      employers = (a, (fits.digits 0 0 (omega arith), cc cut));
      device_clockings = (b, (fits.digits 1 0 (omega arith), cc cut));
      adjustments = (c, (fits.digits 2 0 (omega arith), cc cut));
      workers = (d, (fits.digits 3 0 (omega arith), cc cut));
      events = (e, (fits.digits 4 0 (omega arith), cc cut));
      clockings = (f, (fits.digits 5 0 (omega arith), cc cut));
      type = byte_of_part line 63 57 (omega arith) (cc cut);
    }
trailer_line line counts fits is = absurd (omega (arith, fits.size))

-- six counts of nine digits
pub six_counts : (a b c d e f : ℕ) → FitsDigits 9 a → FitsDigits 9 b → FitsDigits 9 c → FitsDigits 9 d → FitsDigits 9 e
    → FitsDigits 9 f → HasTrailerText (a ∷ b ∷ c ∷ d ∷ e ∷ f ∷ [])
six_counts a b c d e f fits_a fits_b fits_c fits_d fits_e fits_f =
    let P : ℕ → Type 0 = FitsDigits 9 in
    record {
      size = refl;
      digits = All-cons P a (b ∷ c ∷ d ∷ e ∷ f ∷ []) fits_a
          (All-cons P b (c ∷ d ∷ e ∷ f ∷ []) fits_b
          (All-cons P c (d ∷ e ∷ f ∷ []) fits_c
          (All-cons P d (e ∷ f ∷ []) fits_d (All-cons P e (f ∷ []) fits_e (All-cons P f [] fits_f (All-nil P))))));
    }

-- and they make up a trailer
pub trailer_from_fields : (line : List ℕ) (a b c d e f : ℕ) → length line ≡ 64 → take 9 line ≡ codes "999999999"
    → take 9 (drop 9 line) ≡ numeral 9 a → take 9 (drop 18 line) ≡ numeral 9 b → take 9 (drop 27 line) ≡ numeral 9 c
    → take 9 (drop 36 line) ≡ numeral 9 d → take 9 (drop 45 line) ≡ numeral 9 e → take 9 (drop 54 line) ≡ numeral 9 f
    → get_or line 63 0 ≡ 57 → line ≡ trailer_text (a ∷ b ∷ c ∷ d ∷ e ∷ f ∷ [])
trailer_from_fields line a b c d e f size nines is_a is_b is_c is_d is_e is_f type =
    let last : take 1 (drop 63 line) ≡ 57 ∷ [] = one_byte line 63 57 (omega arith) type in
    text_of_parts widths (parts a b c d e f) line (sym size)
    (rw (nines, is_a, is_b, is_c, is_d, is_e, is_f, last) refl) ∙ sym (trailer_text-parts a b c d e f)

-- two trailers with one line have the same counts
pub trailer_text-injective : (counts other : List ℕ) → HasTrailerText counts → HasTrailerText other
    → trailer_text counts ≡ trailer_text other → counts ≡ other
trailer_text-injective (a ∷ b ∷ c ∷ d ∷ e ∷ f ∷ []) (k ∷ l ∷ m ∷ n ∷ o ∷ p ∷ []) fits fits_other same =
    let texts : parts a b c d e f ≡ parts k l m n o p =
    sym (cuts-trailer a b c d e f) ∙ ap (cuts 0 widths) same ∙ cuts-trailer k l m n o p in
    let first = numeral-injective 9 a k (fits.digits 0 0 (omega arith)) (fits_other.digits 0 0 (omega arith)) (cc texts) in
    let second = numeral-injective 9 b l (fits.digits 1 0 (omega arith)) (fits_other.digits 1 0 (omega arith)) (cc texts) in
    let third = numeral-injective 9 c m (fits.digits 2 0 (omega arith)) (fits_other.digits 2 0 (omega arith)) (cc texts) in
    let fourth = numeral-injective 9 d n (fits.digits 3 0 (omega arith)) (fits_other.digits 3 0 (omega arith)) (cc texts) in
    let fifth = numeral-injective 9 e o (fits.digits 4 0 (omega arith)) (fits_other.digits 4 0 (omega arith)) (cc texts) in
    let sixth = numeral-injective 9 f p (fits.digits 5 0 (omega arith)) (fits_other.digits 5 0 (omega arith)) (cc texts) in
    cc (first, second, third, fourth, fifth, sixth)
trailer_text-injective counts other fits fits_other same = absurd (omega (arith, fits.size, fits_other.size))

abbrev trailer_of : List ℕ → Trailer
trailer_of counts = record { counts = counts }

-- so a reader that answers a trailer answers the only one
pub only_trailer : (line : List ℕ) (result : Option Trailer)
    → Decodes (λ trailer. HasTrailerText trailer.counts) (λ trailer. trailer_text trailer.counts) line result
    → (counts : List ℕ) → HasTrailerText counts → line ≡ trailer_text counts → result ≡ Some (trailer_of counts)
only_trailer line result read counts fits is =
    Decodes-found (λ (trailer : Trailer). HasTrailerText trailer.counts) (λ (trailer : Trailer). trailer_text trailer.counts) line result (trailer_of counts)
    (λ v w fits_v fits_w same. ap trailer_of (trailer_text-injective v.counts w.counts fits_v fits_w same)) fits is read
