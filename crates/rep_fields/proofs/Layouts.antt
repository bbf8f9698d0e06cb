-- A text of parts of fixed widths, and its parts.
use Rattle.std.proofs.Common.{◌≡◌, ℕ, zero, suc, ◌+◌, ◌<◌, List, [], ◌∷◌, ◌++◌, length, get_or, take, drop, refl, sym, ap, ◌∙◌, arith, length-append}
use Rattle.std.proofs.lemmas.List.{append_assoc, drop-drop, drop_all, drop_at, take_at, take-append-drop, drop_more}
use Rattle.std.specs.List.{concat}

-- the parts of a text from a place on, by their widths
abbrev pub cuts : ℕ → List ℕ → List ℕ → List (List ℕ)
cuts at [] text = []
cuts at (width ∷ widths) text = take width (drop at text) ∷ cuts (at + width) widths text

abbrev pub widths_of : List (List ℕ) → List ℕ
widths_of [] = []
widths_of (part ∷ parts) = length part ∷ widths_of parts

abbrev pub total : List ℕ → ℕ
total [] = 0
total (width ∷ widths) = width + total widths

pub concat-cuts : (widths : List ℕ) (at : ℕ) (text : List ℕ) → at + total widths ≡ length text → concat (cuts at widths text) ≡ drop at text
concat-cuts [] at text e = sym (drop_all at text (omega arith))
concat-cuts (width ∷ widths) at text e =
    ap (λ (rest : List ℕ). take width (drop at text) ++ rest) (concat-cuts widths (at + width) text (omega arith) ∙ sym (drop-drop width at text))
    ∙ take-append-drop width (drop at text)

pub cuts-concat : (parts : List (List ℕ)) (at : ℕ) (front : List ℕ) → length front ≡ at → cuts at (widths_of parts) (front ++ concat parts) ≡ parts
cuts-concat [] at front e = refl
cuts-concat (part ∷ parts) at front e =
    let here : drop at (front ++ (part ++ concat parts)) ≡ part ++ concat parts = drop_at front (part ++ concat parts) at e in
    let again = cuts-concat parts (at + length part) (front ++ part) (omega (arith, length-append front part)) in
    rw (here, take_at part (concat parts) (length part) refl)
    (ap (λ (rest : List (List ℕ)). part ∷ rest) (ap (cuts (at + length part) (widths_of parts)) (sym (append_assoc front part (concat parts))) ∙ again))

-- a text that is made of parts has them at their places
pub parts_of_text : (parts : List (List ℕ)) (text : List ℕ) → text ≡ concat parts → cuts 0 (widths_of parts) text ≡ parts
parts_of_text parts text e = ap (cuts 0 (widths_of parts)) e ∙ cuts-concat parts 0 [] refl

pub length-concat : (parts : List (List ℕ)) → length (concat parts) ≡ total (widths_of parts)
length-concat [] = refl
length-concat (part ∷ parts) = omega (arith, length-append part (concat parts), length-concat parts)

-- and is made of what stands at those places
pub text_of_parts : (widths : List ℕ) (parts : List (List ℕ)) (text : List ℕ) → total widths ≡ length text → cuts 0 widths text ≡ parts → text ≡ concat parts
text_of_parts widths parts text e same = sym (concat-cuts widths 0 text (omega arith)) ∙ ap concat same

-- the part of one byte
pub one_byte : (text : List ℕ) (at byte : ℕ) → at < length text → get_or text at 0 ≡ byte → take 1 (drop at text) ≡ byte ∷ []
one_byte text at byte h e = rw (drop_more text at 0 h, e) refl

pub byte_of_part : (text : List ℕ) (at byte : ℕ) → at < length text → take 1 (drop at text) ≡ byte ∷ [] → get_or text at 0 ≡ byte
byte_of_part text at byte h e =
    let shown : get_or text at 0 ∷ [] ≡ byte ∷ [] = sym (one_byte text at (get_or text at 0) h refl) ∙ e in cc

-- a text, byte by byte
abbrev pub listed : ℕ → ℕ → List ℕ → List ℕ
listed at zero text = []
listed at (suc count) text = get_or text at 0 ∷ listed (at + 1) count text

pub listed_is : (at count : ℕ) (text : List ℕ) → at + count ≡ length text → listed at count text ≡ drop at text
listed_is at zero text e = sym (drop_all at text (omega arith))
listed_is at (suc count) text e =
    ap (λ (rest : List ℕ). get_or text at 0 ∷ rest) (listed_is (at + 1) count text (omega arith)) ∙ sym (drop_more text at 0 (omega arith))
