-- Laws of numbers of a fixed width.
use Rattle.std.proofs.Common.{◌≡◌, ◌≢◌, ◌≤◌, ◌<◌, ℕ, zero, suc, ◌+◌, ◌-◌, ◌*◌, ◌/◌, ◌%◌, ◌^◌, List, [], ◌∷◌, ◌++◌, length, get_or, set, take, drop, All, Bool, true, false, ◌&&◌, ltb, refl, sym, ap, ◌∙◌, ⊎_elim, arith, add-one}
use Rattle.std.proofs.Math.Nat.{pow-le-pow_right}
use Rattle.std.proofs.lemmas.Bool.{true≢false, ltb-true, ltb-false, and_parts, and_cases}
use Rattle.std.proofs.lemmas.Grind.{pow_more}
use Rattle.std.proofs.lemmas.List.{length-map, map_push, length_push, same_from_push, take_more, append_assoc, drop-set}
use Rattle.std.proofs.lemmas.List.Elements.{All-push, All-nil}
use Rattle.rep_fields.specs.Digits.{digits, digit_byte, numeral, FitsDigits, IsDigitByte}

pub length-digits : (width n : ℕ) → length (digits width n) ≡ width
unfolding digits
length-digits zero n = refl
length-digits (suc width) n =
    length_push (digits width (n / 10)) (n % 10) ∙ omega (arith, length-digits width (n / 10))

pub length-numeral : (width n : ℕ) → length (numeral width n) ≡ width
length-numeral width n = length-map (digits width n) digit_byte ∙ length-digits width n

-- the last digit of a number stands behind the digits of its tenth
pub numeral_more : (width n : ℕ) → numeral (width + 1) n ≡ numeral width (n / 10) ++ (48 + n % 10) ∷ []
unfolding digits
numeral_more width n = rw add-one (map_push digit_byte (digits width (n / 10)) (n % 10))

pub numeral-none : (n : ℕ) → numeral 0 n ≡ []
unfolding digits
numeral-none n = refl

-- a digit put behind a number
pub numeral_push : (width n digit : ℕ) → digit < 10
    → numeral (width + 1) (n * 10 + digit) ≡ numeral width n ++ (48 + digit) ∷ []
numeral_push width n digit small =
    let front : (n * 10 + digit) / 10 ≡ n = omega arith in
    let last : (n * 10 + digit) % 10 ≡ digit = omega arith in
    rw (numeral_more width (n * 10 + digit), front, last)

pub IsDigitByte-numeral : (width n : ℕ) → All IsDigitByte (numeral width n)
unfolding digits
IsDigitByte-numeral zero n = All-nil IsDigitByte
IsDigitByte-numeral (suc width) n =
    rw (map_push digit_byte (digits width (n / 10)) (n % 10))
    (All-push IsDigitByte (numeral width (n / 10)) (48 + n % 10) (IsDigitByte-numeral width (n / 10)) (omega arith, omega arith))

-- a number in the range is told from its digits
pub numeral-injective : (width m n : ℕ) → FitsDigits width m → FitsDigits width n → numeral width m ≡ numeral width n → m ≡ n
unfolding digits
numeral-injective zero m n fits_m fits_n same = omega arith
numeral-injective (suc width) m n fits_m fits_n same =
    let e : numeral width (m / 10) ++ (48 + m % 10) ∷ [] ≡ numeral width (n / 10) ++ (48 + n % 10) ∷ [] =
    sym (map_push digit_byte (digits width (m / 10)) (m % 10)) ∙ same ∙ map_push digit_byte (digits width (n / 10)) (n % 10) in
    let parts = same_from_push (numeral width (m / 10)) (numeral width (n / 10)) (48 + m % 10) (48 + n % 10) e in
    let fronts : m / 10 ≡ n / 10 = numeral-injective width (m / 10) (n / 10) (omega arith) (omega arith) parts.0 in
    omega (arith, parts.1)

-- a field with another byte is no number
pub no_numeral : (field : List ℕ) (at width n : ℕ) → at < length field → (IsDigitByte (get_or field at 0) → ⊥)
    → field ≢ numeral width n
no_numeral field at width n within other is =
    other (rw is (IsDigitByte-numeral width n at 0 (omega (arith, ap length is))))

-- what is known after so many bytes of a field: they are the digits of the value, or the field is no number
pub record IsRead (field : List ℕ) (at value : ℕ) (all_digits : Bool) : Type 0 where
  pub below : all_digits ≡ true → value < 10 ^ at
  pub same : all_digits ≡ true → numeral at value ≡ take at field
  pub none : all_digits ≡ false → (width n : ℕ) → field ≢ numeral width n

pub IsRead-nothing : (field : List ℕ) → IsRead field 0 0 true
IsRead-nothing field = record {
  below = λ _. omega arith;
  same = λ _. numeral-none 0;
  none = λ wrong. absurd (true≢false wrong);
}

-- a field that has a number goes on by one digit, within 19 of them
pub digit_read : (field : List ℕ) (at value byte next : ℕ) → at < length field → at < 19 → byte ≡ get_or field at 0
    → IsDigitByte byte → value < 10 ^ at → numeral at value ≡ take at field
    → next ≡ (value * 10 % 18446744073709551616 + (byte + 208) % 256) % 18446744073709551616
    → (next < 10 ^ (at + 1)) × (numeral (at + 1) next ≡ take (at + 1) field)
digit_read field at value byte next within few byte_is digit below same next_is =
    let most : 10 ^ at ≤ 10 ^ 18 = pow-le-pow_right {n = 10} (omega arith) {i = at} {j = 18} (omega arith) in
    let small : value < 1000000000000000000 = omega arith in
    let plain : next ≡ value * 10 + (byte - 48) = omega arith in
    let power : 10 ^ (at + 1) ≡ 10 ^ at * 10 = pow_more 10 at in
    let shown : 48 + (byte - 48) ≡ get_or field at 0 = omega arith in
    (omega arith, rw (plain, numeral_push at value (byte - 48) (omega arith), same, shown, take_more field at 0))

pub IsRead-more : (field : List ℕ) (at value next : ℕ) (all_digits : Bool) → at < length field → at < 19
    → get_or field at 0 < 256
    → next ≡ (value * 10 % 18446744073709551616 + (get_or field at 0 + 208) % 256) % 18446744073709551616
    → IsRead field at value all_digits
    → IsRead field (at + 1) next (all_digits && ltb ((get_or field at 0 + 208) % 256) 10)
IsRead-more field at value next all_digits within few byte next_is read =
    let step : all_digits ≡ true → ltb ((get_or field at 0 + 208) % 256) 10 ≡ true
    → (next < 10 ^ (at + 1)) × (numeral (at + 1) next ≡ take (at + 1) field) =
    λ fine digit.
    let small = ltb-true ((get_or field at 0 + 208) % 256) 10 digit in
    digit_read field at value (get_or field at 0) next within few refl (omega arith, omega arith) (read.below fine)
    (read.same fine) next_is in
    record {
      below = λ both. let parts = and_parts _ _ both in (step parts.0 parts.1).0;
      same = λ both. let parts = and_parts _ _ both in (step parts.0 parts.1).1;
      none = λ not_both width n. ⊎_elim (λ bad. read.none bad width n)
          (λ other. no_numeral field at width n within
          (λ digit. let big = ltb-false ((get_or field at 0 + 208) % 256) 10 other in absurd (omega (arith, digit.0, digit.1))))
          (and_cases _ _ not_both);
    }

-- one more digit of a field that is filled from its right end
pub filled_from_right : (field : List ℕ) (place rest : ℕ) → 0 < place → place ≤ length field
    → numeral place rest ++ drop place field
    ≡ numeral (place - 1) (rest / 10) ++ drop (place - 1) (set field (place - 1) (48 + rest % 10))
filled_from_right field place rest some within =
    let at : place ≡ (place - 1) + 1 = omega arith in
    let inside : place - 1 < length field = omega arith in
    let digits_part : numeral place rest ≡ numeral (place - 1) (rest / 10) ++ (48 + rest % 10) ∷ [] =
    ap (λ width. numeral width rest) at ∙ numeral_more (place - 1) rest in
    let behind : drop (place - 1) (set field (place - 1) (48 + rest % 10)) ≡ (48 + rest % 10) ∷ drop place field =
    drop-set field (place - 1) (48 + rest % 10) inside
    ∙ ap (λ from. (48 + rest % 10) ∷ drop from field) (sym at) in
    rw (digits_part, behind, append_assoc)

pub filled-all : (field digits_there : List ℕ) (place rest : ℕ) → place ≤ 0
    → digits_there ≡ numeral place rest ++ drop place field → field ≡ digits_there
filled-all field digits_there place rest done is =
    let at : place ≡ 0 = omega arith in
    let ended = ap (λ width. numeral width rest ++ drop width field) at ∙ ap (λ front. front ++ field) (numeral-none rest) in
    sym (is ∙ ended)
