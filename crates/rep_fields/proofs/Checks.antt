-- Laws of check digits.
use Rattle.std.proofs.Common.{Bool, eqb, add-zero, true, not, ◌&&◌, inl, inr, ◌≡◌, ◌≤◌, ◌<◌, ◌↔◌, ℕ, ◌+◌, ◌-◌, ◌*◌, List, [], ◌∷◌, ◌++◌, length, get_or, take, drop, replicate, All, sym, ap, ◌∙◌, subst, arith}
use Rattle.std.proofs.lemmas.List.{length-map, take-map, ext_get_or, get_or-drop, get_or-replicate, length-replicate, get_or-map, drop_more, drop_all, take_more, take_all, get_or_push, length-take-le}
use Rattle.std.proofs.Math.Nat.{mul-le-mul}
use Rattle.std.proofs.lemmas.Bool.{and_parts, and_from, both_ways, not-true, cases_Bool, eqb-true, eq-eqb}
use Rattle.std.proofs.lemmas.List.Elements.{All-from_get_or}
use Rattle.rep_fields.specs.Digits.{digits_in, IsDigitByte}
use Rattle.rep_fields.specs.Identity.{weighted_sum, check_digit, IsChecked, HasCpfChecks, HasCnpjChecks, cpf_first_weights, cpf_second_weights, cnpj_first_weights, cnpj_second_weights}

pub length-digits_in : (text : List ℕ) → length (digits_in text) ≡ length text
length-digits_in text = length-map text (λ byte. byte - 48)

-- one product of a weighted sum
pub weighted_sum-more : (weights text : List ℕ) (at : ℕ) → at < length weights → at < length text
    → weighted_sum (drop at weights) (drop at (digits_in text))
    ≡ get_or weights at 0 * (get_or text at 0 - 48) + weighted_sum (drop (at + 1) weights) (drop (at + 1) (digits_in text))
weighted_sum-more weights text at in_weights in_text =
    let digit : get_or (digits_in text) at 0 ≡ get_or text at 0 - 48 = get_or-map (λ byte. byte - 48) text at 0 0 in_text in
    rw (drop_more weights at 0 in_weights, drop_more (digits_in text) at 0 (omega (arith, length-digits_in text)), digit)

pub weighted_sum-none : (weights ds : List ℕ) (at : ℕ) → length weights ≤ at → weighted_sum (drop at weights) ds ≡ 0
weighted_sum-none weights ds at all = rw (drop_all at weights all)

-- a step of the loop that adds the products up
pub weighted_sum-step : (weights text : List ℕ) (at sum weight digit whole : ℕ) → at < length weights → at < length text
    → weight ≡ get_or weights at 0 → digit ≡ get_or text at 0 - 48 → weight ≤ 255 → digit ≤ 9 → sum ≤ 2295 * at
    → sum + weighted_sum (drop at weights) (drop at (digits_in text)) ≡ whole
    → (sum + weight * digit ≤ 2295 * (at + 1))
    × (sum + weight * digit + weighted_sum (drop (at + 1) weights) (drop (at + 1) (digits_in text)) ≡ whole)
weighted_sum-step weights text at sum weight digit whole in_weights in_text weight_is digit_is weight_small digit_small small is =
    let product : weight * digit ≤ 255 * 9 = mul-le-mul weight_small digit_small in
    let here : weight * digit ≡ get_or weights at 0 * (get_or text at 0 - 48) = cc in
    let more = weighted_sum-more weights text at in_weights in_text in
    (omega arith, omega (arith, here, more, is))

-- what a list ends in
pub last_is : (ds : List ℕ) (n digit : ℕ) → length ds ≡ n + 1 → ((get_or ds n 0 ≡ digit) ↔ (ds ≡ take n ds ++ digit ∷ []))
last_is ds n digit long = (
  λ last. sym (take_all (n + 1) ds (omega arith)) ∙ take_more ds n 0 (omega arith) ∙ ap (λ d. take n ds ++ d ∷ []) last,
  λ is. ap (λ xs. get_or xs n 0) is ∙ get_or_push (take n ds) digit 0 n (length-take-le n ds (omega arith)),
)

-- the last digit of a text is the check digit exactly where the text is checked
pub IsChecked-last : (weights text : List ℕ) → length text ≡ length weights + 1
    → ((get_or text (length weights) 0 - 48 ≡ check_digit weights (digits_in (take (length weights) text)))
    ↔ IsChecked weights (digits_in text))
IsChecked-last weights text long =
    let n = length weights in
    let digit : get_or (digits_in text) n 0 ≡ get_or text n 0 - 48 = get_or-map (λ byte. byte - 48) text n 0 0 (omega arith) in
    let front : take n (digits_in text) ≡ digits_in (take n text) = take-map (λ byte. byte - 48) n text in
    let is = last_is (digits_in text) n (check_digit weights (take n (digits_in text))) (length-digits_in text ∙ long) in (
      λ last. is.0 (digit ∙ last ∙ ap (check_digit weights) (sym front)),
      λ checked. sym digit ∙ is.1 checked ∙ ap (check_digit weights) front,
    )

-- what the comparison of the last digit answers
pub IsChecked-test : (weights text front back : List ℕ) (last digit : ℕ) → length text ≡ length weights + 1
    → front ≡ take (length weights) text → back ≡ drop (length weights) text → last ≡ get_or back 0 0 - 48
    → digit ≡ check_digit weights (digits_in front) → ((eqb last digit ≡ true) ↔ IsChecked weights (digits_in text))
IsChecked-test weights text front back last digit long front_is back_is last_is digit_is =
    let n = length weights in
    let last_byte : last ≡ get_or text n 0 - 48 =
    last_is ∙ ap (λ xs. get_or xs 0 0 - 48) back_is ∙ ap (λ byte. byte - 48) (get_or-drop n text 0 0 ∙ ap (λ at. get_or text at 0) (add-zero n)) in
    let checks : digit ≡ check_digit weights (digits_in (take n text)) =
    digit_is ∙ ap (λ xs. check_digit weights (digits_in xs)) front_is in
    let both = IsChecked-last weights text long in (
      λ test. both.0 (sym last_byte ∙ eqb-true last digit test ∙ checks),
      λ checked. eq-eqb last digit (last_byte ∙ both.1 checked ∙ sym checks),
    )

-- a text whose digits are all one digit has one byte alone
pub All-same_digit : (text : List ℕ) (digit : ℕ) → 0 < length text → All IsDigitByte text
    → digits_in text ≡ replicate (length text) digit → All (λ byte. byte ≡ get_or text 0 0) text
All-same_digit text digit some all_digits same =
    All-from_get_or (λ byte. byte ≡ get_or text 0 0) text 0
    (λ at within. omega (arith, byte_at at within, byte_at 0 some))
  where
    byte_at : (at : ℕ) → at < length text → get_or text at 0 ≡ digit + 48
    byte_at at within =
        let shown : get_or (digits_in text) at 0 ≡ get_or text at 0 - 48 = get_or-map (λ byte. byte - 48) text at 0 0 within in
        let is : get_or (digits_in text) at 0 ≡ digit =
        ap (λ xs. get_or xs at 0) same ∙ get_or-replicate (length text) at digit 0 within in
        omega (arith, shown, is, (all_digits at 0 within).0)

-- a text of one byte alone has all digits equal
pub same_digit-All : (text : List ℕ) → All (λ byte. byte ≡ get_or text 0 0) text
    → digits_in text ≡ replicate (length text) (get_or text 0 0 - 48)
same_digit-All text all =
    ext_get_or 0 (digits_in text) (replicate (length text) (get_or text 0 0 - 48))
    (length-digits_in text ∙ sym (length-replicate (length text) (get_or text 0 0 - 48)))
    (λ at within.
    let inside : at < length text = omega (arith, length-digits_in text) in
    get_or-map (λ byte. byte - 48) text at 0 0 inside ∙ ap (λ byte. byte - 48) (all at 0 inside)
    ∙ sym (get_or-replicate (length text) at (get_or text 0 0 - 48) 0 inside))

pub HasCpfChecks-parts : (text : List ℕ) (first second equal : Bool) → length text ≡ 11 → All IsDigitByte text
    → ((first ≡ true) ↔ IsChecked cpf_first_weights (digits_in (take 10 text)))
    → ((second ≡ true) ↔ IsChecked cpf_second_weights (digits_in text))
    → ((equal ≡ true) ↔ All (λ byte. byte ≡ get_or text 0 0) text)
    → (((first && second && not equal) ≡ true) ↔ HasCpfChecks (digits_in text))
HasCpfChecks-parts text first second equal long all_digits first_is second_is equal_is =
    let front : take 10 (digits_in text) ≡ digits_in (take 10 text) = take-map (λ byte. byte - 48) 10 text in (
      λ both.
          let outer = and_parts (first && second) (not equal) both in
          let inner = and_parts first second outer.0 in
          record {
            first = subst (IsChecked cpf_first_weights) (sym front) (first_is.0 inner.0);
            second = second_is.0 inner.1;
            mixed = λ digit same. both_ways equal (not-true equal outer.1) (equal_is.1
                (All-same_digit text digit (omega arith) all_digits (same ∙ ap (λ n. replicate n digit) (sym long))));
          },
      λ checks.
          and_from (first && second) (not equal)
          (and_from first second (first_is.1 (subst (IsChecked cpf_first_weights) front checks.first)) (second_is.1 checks.second))
          (elim (cases_Bool equal) [
            | inl same ↦ absurd (checks.mixed (get_or text 0 0 - 48)
                (same_digit-All text (equal_is.0 same) ∙ ap (λ n. replicate n (get_or text 0 0 - 48)) long))
            | inr other ↦ ap not other
          ]),
    )

pub HasCnpjChecks-parts : (text : List ℕ) (first second : Bool)
    → ((first ≡ true) ↔ IsChecked cnpj_first_weights (digits_in (take 13 text)))
    → ((second ≡ true) ↔ IsChecked cnpj_second_weights (digits_in text))
    → (((first && second) ≡ true) ↔ HasCnpjChecks (digits_in text))
HasCnpjChecks-parts text first second first_is second_is =
    let front : take 13 (digits_in text) ≡ digits_in (take 13 text) = take-map (λ byte. byte - 48) 13 text in (
      λ both.
          let parts = and_parts first second both in
          record {
            first = subst (IsChecked cnpj_first_weights) (sym front) (first_is.0 parts.0);
            second = second_is.0 parts.1;
          },
      λ checks.
          and_from first second (first_is.1 (subst (IsChecked cnpj_first_weights) front checks.first)) (second_is.1 checks.second),
    )
