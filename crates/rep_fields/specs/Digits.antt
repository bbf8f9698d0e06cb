-- Numbers of a fixed width: the fields of kind N of Portaria MTP 671/2021, annex V, right-aligned and filled with
-- zeros.
use Rattle.std.specs.Prelude.{ℕ, zero, suc, ◌+◌, ◌-◌, ◌/◌, ◌%◌, ◌^◌, ◌<◌, ◌≤◌, List, [], ◌∷◌, ◌++◌, map}

-- the last digits of a number, so many of them, the highest first
unfoldable pub digits : ℕ → ℕ → List ℕ
digits zero n = []
digits (suc width) n = digits width (n / 10) ++ (n % 10) ∷ []

-- the character of a digit
abbrev pub digit_byte : ℕ → ℕ
digit_byte digit = 48 + digit

-- a number in so many decimal digits
abbrev pub numeral : ℕ → ℕ → List ℕ
numeral width n = map digit_byte (digits width n)

-- the digits that a text of them shows
abbrev pub digits_in : List ℕ → List ℕ
digits_in text = map (λ byte. byte - 48) text

-- the number has at most so many digits
abbrev pub FitsDigits : ℕ → ℕ → Type 0
FitsDigits width n = n < 10 ^ width

abbrev pub IsDigitByte : ℕ → Type 0
IsDigitByte byte = (48 ≤ byte) × (byte ≤ 57)

-- a field of numbers has this many characters
abbrev pub IsDigitCount : ℕ → Type 0
IsDigitCount width = (1 ≤ width) × (width ≤ 19)
