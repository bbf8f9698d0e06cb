-- Texts of TOML, which are UTF-8, as texts of ISO 8859-1. The code of a character of ISO 8859-1 is that of the same
-- character of Unicode (its blocks Basic Latin and Latin-1 Supplement). The codes 0x7F to 0x9F are of no text.
use Rattle.std.specs.Prelude.{◌≡◌, ℕ, List, ◌++◌, encode_utf8_all}
use Rattle.rep_fields.specs.Latin.{spaces}

-- the characters of the text, and spaces behind them that don't count
abbrev pub IsSpelled : List ℕ → List ℕ → Type 0
IsSpelled text utf8 = (count : ℕ) × (utf8 ≡ encode_utf8_all (text ++ spaces count))
