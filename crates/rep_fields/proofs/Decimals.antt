-- Laws of numbers without zeros in front.
use Rattle.std.proofs.Common.{◌≡◌, ◌≤◌, ◌<◌, ℕ, zero, suc, ◌+◌, ◌*◌, ◌%◌, ◌^◌, List, [], ◌∷◌, length, get_or, take, map, decimal, refl, sym, ap, ◌∙◌, arith}
use Rattle.std.specs.Fmt.{digits as glyphs}
use Rattle.std.specs.Int.Digits.{number_from_digits, AllBelowBase, digits_of}
use Rattle.std.proofs.lemmas.Fmt.{decimal-digits_of}
use Rattle.std.proofs.lemmas.Int.Digits.{number_more, number_digits_of, all_below_base_digits_of}
use Rattle.std.proofs.lemmas.List.{get_or-map, length-map, take_all}

-- the last byte of what a byte is above `0`
abbrev pub above_zero : ℕ → ℕ
above_zero byte = (byte + 208) % 256

-- what the bytes so far show, whatever they are
abbrev pub shown : List ℕ → ℕ → ℕ
shown text at = number_from_digits 10 (take at (map above_zero text))

pub shown-more : (text : List ℕ) (at value byte : ℕ) → at < length text → byte ≡ above_zero (get_or text at 0)
    → value ≡ shown text at % 18446744073709551616
    → (value * 10 % 18446744073709551616 + byte) % 18446744073709551616 ≡ shown text (at + 1) % 18446744073709551616
shown-more text at value byte within byte_is is =
    let more : shown text (at + 1) ≡ shown text at * 10 + get_or (map above_zero text) at 0 =
    number_more 10 (map above_zero text) at (omega (arith, length-map text above_zero)) in
    let here : get_or (map above_zero text) at 0 ≡ byte = get_or-map above_zero text at 0 0 within ∙ sym byte_is in
    omega (arith, more, here, is)

digits_back : (ds : List ℕ) → AllBelowBase 10 ds → map above_zero (map (λ d. 48 + d) ds) ≡ ds
digits_back [] below = refl
digits_back (d ∷ ds) below =
    let small = below.0 in
    let first : above_zero (48 + d) ≡ d = omega arith in
    ap (λ x. x ∷ map above_zero (map (λ e. 48 + e) ds)) first ∙ ap (λ rest. d ∷ rest) (digits_back ds below.1)

-- a number is what its own decimal shows
pub shown-decimal : (n : ℕ) → n < 2 ^ 64 → number_from_digits 10 (map above_zero (decimal n)) ≡ n
unfolding glyphs
shown-decimal zero small = refl
shown-decimal (suc n) small =
    ap (λ text. number_from_digits 10 (map above_zero text)) (decimal-digits_of (suc n) (omega arith) small)
    ∙ ap (number_from_digits 10) (digits_back (digits_of 10 (suc n)) (all_below_base_digits_of 10 (suc n) (omega arith)))
    ∙ number_digits_of 10 (suc n) (omega arith)

-- what was read is the number of the text, where it has one
pub value-decimal : (text : List ℕ) (at value n : ℕ) → length text ≤ at → value ≡ shown text at % 18446744073709551616
    → n < 2 ^ 64 → text ≡ decimal n → value ≡ n
value-decimal text at value n done is small written =
    let all : take at (map above_zero text) ≡ map above_zero text =
    take_all at (map above_zero text) (omega (arith, length-map text above_zero)) in
    let same : shown text at ≡ n =
    ap (number_from_digits 10) (all ∙ ap (map above_zero) written) ∙ shown-decimal n small in
    omega (arith, same, is)

pub decimal-injective : (m n : ℕ) → m < 2 ^ 64 → n < 2 ^ 64 → decimal m ≡ decimal n → m ≡ n
decimal-injective m n small_m small_n same =
    sym (shown-decimal m small_m) ∙ ap (λ text. number_from_digits 10 (map above_zero text)) same ∙ shown-decimal n small_n
