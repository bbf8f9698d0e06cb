-- The texts of stamps and of CNO numbers that a lenient reader takes: each tells its value.
use Rattle.std.proofs.Common.{◌≡◌, ◌≢◌, ◌↔◌, ◌⊎◌, inl, inr, IsTrue, ℕ, List, ◌∷◌, length, drop, refl, sym, ap, ◌∙◌, subst, arith, ℤ, pos, negsuc, unsigned_abs}
use Rattle.std.specs.Prelude.{Bool, true, false, codes}
use Rattle.std.proofs.lemmas.List.{length-replicate}
use Rattle.rep_fields.specs.Digits.{digits, numeral}
use Rattle.rep_fields.specs.Latin.{space, spaces}
use Rattle.rep_fields.specs.Moment.{Moment, Lenient, IsOffset, loose_offset_text, offset_text, hours_text}
use Rattle.rep_fields.proofs.Numerals.{length-numeral, numeral-injective, no_numeral}
use Rattle.rep_fields.proofs.StampTexts.{lenient_parts, local_text-injective, offset_text-injective, moment_of_parts}
use Rattle.rep_fields.proofs.TimeTexts.{hours_text-injective}
use Rattle.afd_records.specs.Record.{IsCno}
use Rattle.afd_records.specs.Lenient.{IsStampText, IsCnoText}

abbrev lenient_of : Moment → Bool → Lenient
lenient_of moment odd = record { moment = moment; odd = odd }

pub length-stamp : (moment : Moment) (odd : Bool) (text : List ℕ) → IsStampText moment odd text → length text ≡ 24
length-stamp moment odd text is = (lenient_parts text (lenient_of moment odd) is.0 is.1 is.2).size

no_minutes : hours_text 0 ≡ codes "0000"
unfolding digits
no_minutes = refl

first_byte : (a b : ℕ) (s t : List ℕ) → a ∷ s ≡ b ∷ t → a ≡ b
first_byte a b s t is = cc is

-- no offset is written `-0000` by the strict rule
no_minus_zero : (offset : ℤ) → IsOffset offset → offset_text offset ≡ codes "-0000" → ⊥
no_minus_zero (pos minutes) in_range is = omega (arith, first_byte 43 45 _ _ is)
no_minus_zero (negsuc less) in_range is =
    let tails : hours_text (unsigned_abs (negsuc less)) ≡ hours_text 0 = ap (drop 1) is ∙ sym no_minutes in
    let none = hours_text-injective (unsigned_abs (negsuc less)) 0 (omega arith) (omega arith) tails in
    omega arith

-- what two texts of offsets that are one tell
record IsSameOffset (a b : ℤ) (minus_a minus_b : Bool) : Type 0 where
  offset : a ≡ b
  minus : minus_a ≡ minus_b

same_offset : (a b : ℤ) (minus_a minus_b : Bool) → IsOffset a → IsOffset b → (IsTrue minus_a → a ≡ pos 0)
    → (IsTrue minus_b → b ≡ pos 0) → loose_offset_text a minus_a ≡ loose_offset_text b minus_b
    → IsSameOffset a b minus_a minus_b
same_offset a b true true in_a in_b zero_a zero_b is = record { offset = zero_a refl ∙ sym (zero_b refl); minus = refl }
same_offset a b true false in_a in_b zero_a zero_b is = absurd (no_minus_zero b in_b (sym is))
same_offset a b false true in_a in_b zero_a zero_b is = absurd (no_minus_zero a in_a is)
same_offset a b false false in_a in_b zero_a zero_b is =
    record { offset = offset_text-injective a b in_a in_b is; minus = refl }

-- a flag that a fact decides
pub same_flag : (a b : Bool) (P Q : Type 0) → (IsTrue a ↔ P) → (IsTrue b ↔ Q) → (P → Q) → (Q → P) → a ≡ b
same_flag true true P Q is_a is_b there back = refl
same_flag true false P Q is_a is_b there back = sym (is_b.1 (there (is_a.0 refl)))
same_flag false true P Q is_a is_b there back = is_a.1 (back (is_b.0 refl))
same_flag false false P Q is_a is_b there back = refl

-- what a stamp's text tells
pub record IsSameStamp (a b : Moment) (odd_a odd_b : Bool) : Type 0 where
  pub moment : a ≡ b
  pub odd : odd_a ≡ odd_b

moment_from_parts : (a b : Moment) → a.local ≡ b.local → a.offset ≡ b.offset → a ≡ b
moment_from_parts a b local offset =
    ap (λ (l : ℕ). moment_of_parts l a.offset) local ∙ ap (λ (o : ℤ). moment_of_parts b.local o) offset

pub same_stamp : (a b : Moment) (odd_a odd_b : Bool) (text : List ℕ) → IsStampText a odd_a text → IsStampText b odd_b text
    → IsSameStamp a b odd_a odd_b
same_stamp a b odd_a odd_b text is_a is_b =
    let parts_a = lenient_parts text (lenient_of a odd_a) is_a.0 is_a.1 is_a.2 in
    let parts_b = lenient_parts text (lenient_of b odd_b) is_b.0 is_b.1 is_b.2 in
    let in_a = is_a.2.in_range in
    let in_b = is_b.2.in_range in
    let second_a = is_a.2.in_minute in
    let second_b = is_b.2.in_minute in
    let times = local_text-injective a.local is_a.0 b.local is_b.0 in_a.local in_b.local (omega (arith, second_a))
    (omega (arith, second_b)) (sym parts_a.local_is ∙ parts_b.local_is) in
    let offsets = same_offset a.offset b.offset is_a.1 is_b.1 in_a.offset in_b.offset is_a.2.at_zero is_b.2.at_zero
    (sym parts_a.offset_is ∙ parts_b.offset_is) in
    record {
      moment = moment_from_parts a b times.local_is offsets.offset;
      odd = same_flag odd_a odd_b _ _ is_a.2.told_odd is_b.2.told_odd
          (subst (λ (n : ℕ). ((n ≢ 0) ⊎ IsTrue is_a.1) → ((is_b.0 ≢ 0) ⊎ IsTrue is_b.1)) (sym times.second_is)
          (subst (λ (m : Bool). ((is_b.0 ≢ 0) ⊎ IsTrue m) → ((is_b.0 ≢ 0) ⊎ IsTrue is_b.1)) (sym offsets.minus) (λ h. h)))
          (subst (λ (n : ℕ). ((is_b.0 ≢ 0) ⊎ IsTrue is_b.1) → ((n ≢ 0) ⊎ IsTrue is_a.1)) (sym times.second_is)
          (subst (λ (m : Bool). ((is_b.0 ≢ 0) ⊎ IsTrue is_b.1) → ((is_b.0 ≢ 0) ⊎ IsTrue m)) (sym offsets.minus) (λ h. h)));
    }

pub length-cno : (cno : ℕ) (text : List ℕ) → IsCnoText cno text → length text ≡ 14
length-cno cno text (inl is) = ap length is ∙ length-numeral 14 cno
length-cno cno text (inr is) = ap length is.1 ∙ length-replicate 14 space

no_blank_number : (n : ℕ) → spaces 14 ≡ numeral 14 n → ⊥
no_blank_number n is = no_numeral (spaces 14) 0 14 n (omega arith) (λ digit. omega (arith, digit.0)) is

pub same_cno : (m n : ℕ) (text : List ℕ) → IsCno m → IsCno n → IsCnoText m text → IsCnoText n text → m ≡ n
same_cno m n text in_m in_n (inl is_m) (inl is_n) = numeral-injective 14 m n in_m in_n (sym is_m ∙ is_n)
same_cno m n text in_m in_n (inl is_m) (inr is_n) = absurd (no_blank_number m (sym is_n.1 ∙ is_m))
same_cno m n text in_m in_n (inr is_m) (inl is_n) = absurd (no_blank_number n (sym is_m.1 ∙ is_n))
same_cno m n text in_m in_n (inr is_m) (inr is_n) = is_m.0 ∙ sym is_n.0
