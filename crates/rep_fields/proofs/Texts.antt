-- Laws of texts and of the fields that they fill.
use Rattle.std.proofs.Common.{◌≡◌, ◌≤◌, ◌<◌, ◌↔◌, ℕ, ◌+◌, ◌-◌, List, [], ◌∷◌, ◌++◌, length, get_or, take, All, Bool, true, ◌&&◌, inl, inr, refl, sym, ap, ◌∙◌, subst, arith}
use Rattle.std.proofs.lemmas.List.{length-append, length-replicate, append_assoc, append_cancel_right, replicate_more, replicate-append-replicate, take_all, take-take, get_or-take, length-take-le}
use Rattle.std.proofs.lemmas.List.Elements.{All-more, All-take, All-same}
use Rattle.std.proofs.lemmas.Bool.{and_parts, and_from, cases_order}
use Rattle.rep_fields.specs.Latin.{IsText, IsFilled, EndsInNoSpace, padded, space, spaces}

-- one byte more of a test of each byte
pub All-more_test : (P : ℕ → Type 0) (bytes : List ℕ) (at : ℕ) (all one : Bool) → at < length bytes
    → ((all ≡ true) ↔ All P (take at bytes)) → ((one ≡ true) ↔ P (get_or bytes at 0))
    → (((all && one) ≡ true) ↔ All P (take (at + 1) bytes))
All-more_test P bytes at all one within front here = (
  λ both. let parts = and_parts all one both in
      All-more P bytes at 0 within (front.0 parts.0) (here.0 parts.1),
  λ each. and_from all one
      (front.1 (All-same P _ _ (sym (take-take at (at + 1) bytes (omega arith))) (All-take P at (take (at + 1) bytes) each)))
      (here.1 (subst P (get_or-take (at + 1) bytes at 0 (omega arith))
      (each at 0 (omega (arith, length-take-le (at + 1) bytes (omega arith)))))),
)

-- the test of each byte at its end
pub All-all_test : (P : ℕ → Type 0) (bytes : List ℕ) (at : ℕ) (all : Bool) → length bytes ≤ at
    → ((all ≡ true) ↔ All P (take at bytes)) → ((all ≡ true) ↔ All P bytes)
All-all_test P bytes at all done front =
    subst (λ (xs : List ℕ). (all ≡ true) ↔ All P xs) (take_all at bytes done) front

-- only one text fills a field so
pub IsFilled-unique : (s t field : List ℕ) → EndsInNoSpace s → EndsInNoSpace t → IsFilled s field → IsFilled t field → s ≡ t
IsFilled-unique s t field s_trimmed t_trimmed s_fills t_fills =
    let same : s ++ spaces s_fills.0 ≡ t ++ spaces t_fills.0 = sym s_fills.1 ∙ t_fills.1 in
    elim (cases_order s_fills.0 t_fills.0) [
      | inl e ↦ append_cancel_right s t (spaces t_fills.0) (ap (λ n. s ++ spaces n) (sym e) ∙ same)
      | inr order ↦ elim order [
        | inl less ↦ absurd (more_spaces s t s_fills.0 t_fills.0 less s_trimmed same)
        | inr more ↦ absurd (more_spaces t s t_fills.0 s_fills.0 more t_trimmed (sym same))
      ]
    ]
  where
    more_spaces : (x y : List ℕ) (m n : ℕ) → m < n → EndsInNoSpace x → x ++ spaces m ≡ y ++ spaces n → ⊥
    more_spaces x y m n less trimmed is =
        let count : n ≡ (n - m - 1) + 1 + m = omega arith in
        let parts : spaces n ≡ spaces (n - m - 1) ++ space ∷ [] ++ spaces m =
        ap spaces count ∙ sym (replicate-append-replicate ((n - m - 1) + 1) m space)
        ∙ ap (λ xs. xs ++ spaces m) (sym (replicate_more (n - m - 1) space)) in
        let front : y ++ spaces n ≡ y ++ spaces (n - m - 1) ++ space ∷ [] ++ spaces m =
        ap (λ xs. y ++ xs) parts ∙ sym (append_assoc y (spaces (n - m - 1) ++ space ∷ []) (spaces m))
        ∙ ap (λ xs. xs ++ spaces m) (sym (append_assoc y (spaces (n - m - 1)) (space ∷ []))) in
        trimmed (y ++ spaces (n - m - 1)) (append_cancel_right x (y ++ spaces (n - m - 1) ++ space ∷ []) (spaces m) (is ∙ front))

pub IsFilled-padded : (width : ℕ) (text : List ℕ) → IsFilled text (padded width text)
IsFilled-padded width text = (width - length text, refl)

pub length-padded : (width : ℕ) (text : List ℕ) → length text ≤ width → length (padded width text) ≡ width
length-padded width text fits =
    length-append text (spaces (width - length text)) ∙ omega (arith, length-replicate (width - length text) space)

-- a text that fills a field isn't longer than it
pub short-filled : (text field : List ℕ) → IsFilled text field → length text ≤ length field
short-filled text field fills =
    omega (arith, ap length fills.1, length-append text (spaces fills.0))

-- the same of two texts
pub IsText-unique : (most other_most : ℕ) (text other field : List ℕ) → IsText most text → IsText other_most other
    → IsFilled text field → IsFilled other field → text ≡ other
IsText-unique most other_most text other field is_text is_other fills other_fills =
    IsFilled-unique text other field is_text.trimmed is_other.trimmed fills other_fills

pub padded-injective : (width : ℕ) (s t : List ℕ) → IsText width s → IsText width t → padded width s ≡ padded width t → s ≡ t
padded-injective width s t is_s is_t same =
    IsText-unique width width s t (padded width s) is_s is_t (IsFilled-padded width s) (width - length t, same)
