-- Texts: the printable characters of ISO 8859-1, and the fields of kind A of Portaria MTP 671/2021, annex V,
-- left-aligned and filled with spaces.
use Rattle.std.specs.Prelude.{◌≡◌, ◌≢◌, ℕ, ◌-◌, ◌≤◌, ◌⊎◌, List, [], ◌∷◌, ◌++◌, length, replicate, All}

-- the code of a space
abbrev pub space : ℕ
space = 32

-- a printable character of ISO 8859-1
abbrev pub IsLatin : ℕ → Type 0
IsLatin byte = ((32 ≤ byte) × (byte ≤ 126)) ⊎ ((160 ≤ byte) × (byte ≤ 255))

abbrev pub spaces : ℕ → List ℕ
spaces count = replicate count space

-- the list isn't another one with a space behind it
abbrev pub EndsInNoSpace : List ℕ → Type 0
EndsInNoSpace bytes = (front : List ℕ) → bytes ≢ front ++ space ∷ []

-- a text of at most so many characters, without spaces at its end
pub record IsText (most : ℕ) (bytes : List ℕ) : Type 0 where
  pub short : length bytes ≤ most
  pub latin : All IsLatin bytes
  pub trimmed : EndsInNoSpace bytes

-- the bytes are the text and then spaces
abbrev pub IsFilled : List ℕ → List ℕ → Type 0
IsFilled text bytes = (count : ℕ) × (bytes ≡ text ++ spaces count)

-- a text in a field of so many characters
abbrev pub padded : ℕ → List ℕ → List ℕ
padded width text = text ++ spaces (width - length text)
