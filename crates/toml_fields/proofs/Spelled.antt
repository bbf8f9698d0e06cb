-- Laws of texts of ISO 8859-1 that TOML spells.
use Rattle.std.proofs.Common.{◌≡◌, ℕ, ◌+◌, ◌-◌, ◌<◌, ◌≤◌, List, [], ◌∷◌, ◌++◌, length, get_or, take, All, Option, Some, None, inl, inr, refl, sym, ap, ◌∙◌, subst, arith}
use Rattle.std.proofs.lemmas.Bool.{cases_lt}
use Rattle.std.proofs.lemmas.List.{length-append, length-replicate, append_assoc, append-nil, replicate-append-replicate, replicate_more, take_at, length_push, get_or-replicate, get_or-append_right, take-replicate}
use Rattle.std.proofs.lemmas.List.Elements.{All-append, All-push, All-replicate, All-nil, All-get_or}
use Rattle.std.proofs.Math.Seq.{take-append-add}
use Rattle.std.proofs.lemmas.Str.{chars_from_encodes, encodes-chars}
use Rattle.std.specs.Str.{IsUtf8, chars, encode_utf8_all}
use Rattle.rep_fields.specs.Decoding.{DecodesBy}
use Rattle.rep_fields.specs.Latin.{IsLatin, IsText, IsFilled, space, spaces}
use Rattle.toml_fields.specs.Spelling.{IsSpelled}

-- the characters are those of the front, and then spaces, which begin where the front has no more room
pub record IsFrontOf (room : ℕ) (front characters : List ℕ) : Type 0 where
  pub count : ℕ
  pub whole : characters ≡ front ++ spaces count
  pub latin : All IsLatin front
  pub within : length front ≤ room
  pub full : length front < room → count ≡ 0

-- the characters of the text that it spells
pub chars-spelled : (text utf8 : List ℕ) → IsUtf8 utf8 → (spelled : IsSpelled text utf8) → text ++ spaces spelled.0 ≡ chars utf8
chars-spelled text utf8 is_utf8 (count, is) = chars_from_encodes (text ++ spaces count) utf8 is_utf8 (sym is)

all_latin : (text : List ℕ) (count : ℕ) → All IsLatin text → All IsLatin (text ++ spaces count)
all_latin text count latin =
    All-append IsLatin text (spaces count) latin (All-replicate IsLatin count space (inl (omega arith, omega arith)))

-- a character of a spelled text is printable
pub spelled_latin : (most : ℕ) (text utf8 : List ℕ) (at character : ℕ) → IsUtf8 utf8 → IsText most text → IsSpelled text utf8
    → at < length (chars utf8) → character ≡ get_or (chars utf8) at character → IsLatin character
spelled_latin most text utf8 at character is_utf8 is_text spelled within is =
    let same = chars-spelled text utf8 is_utf8 spelled in
    subst IsLatin (sym is)
    (All-get_or IsLatin (chars utf8) at character within (subst (All IsLatin) same (all_latin text spelled.0 is_text.latin)))

-- and behind as many as it may have there are spaces
pub spelled_space : (most : ℕ) (text utf8 : List ℕ) (at character : ℕ) → IsUtf8 utf8 → IsText most text → IsSpelled text utf8
    → most ≤ at → at < length (chars utf8) → character ≡ get_or (chars utf8) at character → character ≡ space
spelled_space most text utf8 at character is_utf8 is_text spelled behind within is =
    let same = chars-spelled text utf8 is_utf8 spelled in
    let long = ap length same in
    let sum = length-append text (spaces spelled.0) in
    let count = length-replicate spelled.0 space in
    let short = is_text.short in
    is ∙ ap (λ cs. get_or cs at character) (sym same)
    ∙ get_or-append_right text (spaces spelled.0) (length text) at character refl (omega arith)
    ∙ get_or-replicate spelled.0 (at - length text) space character (omega arith)

pub IsFrontOf-nil : (room : ℕ) → IsFrontOf room [] []
IsFrontOf-nil room = record { count = 0; whole = refl; latin = All-nil IsLatin; within = omega arith; full = λ _. refl }

-- one printable character more
pub IsFrontOf-more : (room : ℕ) (front characters : List ℕ) (character : ℕ) → IsFrontOf room front characters → length front < room
    → IsLatin character → IsFrontOf room (front ++ character ∷ []) (characters ++ character ∷ [])
IsFrontOf-more room front characters character is some latin =
    let whole : characters ≡ front = is.whole ∙ ap (λ (n : ℕ). front ++ spaces n) (is.full some) ∙ append-nil front in
    record {
      count = 0;
      whole = ap (λ cs. cs ++ character ∷ []) whole ∙ sym (append-nil (front ++ character ∷ []));
      latin = All-push IsLatin front character is.latin latin;
      within = omega (arith, length_push front character);
      full = λ _. refl;
    }

-- one space more, behind a front that has no more room
pub IsFrontOf-space : (room : ℕ) (front characters : List ℕ) → IsFrontOf room front characters → room ≤ length front
    → IsFrontOf room front (characters ++ space ∷ [])
IsFrontOf-space room front characters is full = record {
  count = is.count + 1;
  whole = ap (λ cs. cs ++ space ∷ []) is.whole ∙ append_assoc front (spaces is.count) (space ∷ [])
      ∙ ap (λ cs. front ++ cs) (replicate_more is.count space);
  latin = is.latin;
  within = is.within;
  full = λ less. absurd (omega arith);
}

-- a text that is spelled by all the characters fills the front
filled : (most : ℕ) (front characters text : List ℕ) (count : ℕ) → IsFrontOf most front characters → length text ≤ most
    → text ++ spaces count ≡ characters → IsFilled text front
filled most front characters text count is short same =
    elim (cases_lt (length front) most) [
      | inl some ↦ (count, sym (is.whole ∙ ap (λ (n : ℕ). front ++ spaces n) (is.full some) ∙ append-nil front) ∙ sym same)
      | inr full ↦
          let long = ap length (same ∙ is.whole) in
          let sum = length-append text (spaces count) in
          let front_sum = length-append front (spaces is.count) in
          let spaced = length-replicate count space in
          let front_spaced = length-replicate is.count space in (
            length front - length text,
            sym (take_at front (spaces is.count) (length front) refl) ∙ ap (λ cs. take (length front) cs) (sym (same ∙ is.whole))
                ∙ ap (λ (n : ℕ). take n (text ++ spaces count)) (omega arith)
                ∙ take-append-add text (spaces count) (length front - length text)
                ∙ ap (λ cs. text ++ cs) (take-replicate (length front - length text) count space (omega arith)),
          )
    ]

-- the text that the front holds is spelled by all the characters
pub spelled_from_front : (most : ℕ) (front utf8 : List ℕ) (result : Option (List ℕ)) → IsUtf8 utf8 → IsFrontOf most front (chars utf8)
    → DecodesBy (IsText most) IsFilled front result → DecodesBy (IsText most) IsSpelled utf8 result
spelled_from_front most front utf8 (Some text) is_utf8 is read = (
  read.0,
  (
    read.1.0 + is.count,
    sym (encodes-chars utf8 is_utf8)
        ∙ ap encode_utf8_all (is.whole ∙ ap (λ cs. cs ++ spaces is.count) read.1.1 ∙ append_assoc text (spaces read.1.0) (spaces is.count)
        ∙ ap (λ cs. text ++ cs) (replicate-append-replicate read.1.0 is.count space)),
  ),
)
spelled_from_front most front utf8 None is_utf8 is none = λ text is_text spelled.
    none text is_text (filled most front (chars utf8) text spelled.0 is is_text.short (chars-spelled text utf8 is_utf8 spelled))
