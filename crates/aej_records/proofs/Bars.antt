-- Texts without bars, and the fields that a line of them has.
use Rattle.std.proofs.Common.{◌≡◌, ◌≢◌, ℕ, zero, suc, ◌==◌, List, [], ◌∷◌, ◌++◌, length, get_or, take, All, false, refl, ap, ◌∙◌, subst, inl, inr, arith, append-nil}
use Rattle.std.specs.List.{onto_first}
use Rattle.std.proofs.lemmas.Bool.{cases_Bool, eqb-false, ne_eqb}
use Rattle.std.proofs.lemmas.List.{take_all, take-append-le}
use Rattle.std.proofs.lemmas.List.Elements.{All-nil, All-cons, All-take}
use Rattle.std.proofs.lemmas.List.Splits.{slice_split-cons_no, slice_split-cons_yes, slice_split_at, slice_split_none}
use Rattle.rep_fields.specs.Identity.{bar}
use Rattle.rep_fields.specs.Latin.{IsFilled, spaces}
use Rattle.aej_records.specs.Fields.{fields_of, field_at}
use Rattle.aej_records.specs.Text.{behind_bars}

-- a text that can stand between two bars
abbrev pub HasNoBar : List ℕ → Type 0
HasNoBar text = All (λ byte. byte ≢ bar) text

-- each byte of the fields is so
abbrev pub EachHas : (ℕ → Type 0) → List (List ℕ) → Type 0
EachHas IsSo [] = Unit {0}
EachHas IsSo (field ∷ fields) = All IsSo field × EachHas IsSo fields

-- no field has a bar
abbrev pub EachHasNoBar : List (List ℕ) → Type 0
EachHasNoBar fields = EachHas (λ byte. byte ≢ bar) fields

EachHasNoBar-onto : (byte : ℕ) (fields : List (List ℕ)) → byte ≢ bar → EachHasNoBar fields → EachHasNoBar (onto_first byte fields)
EachHasNoBar-onto byte [] other each = (All-cons (λ b. b ≢ bar) byte [] other (All-nil (λ b. b ≢ bar)), tt)
EachHasNoBar-onto byte (field ∷ fields) other each = (All-cons (λ b. b ≢ bar) byte field other each.0, each.1)

EachHasNoBar-fields : (text : List ℕ) → EachHasNoBar (fields_of text)
EachHasNoBar-fields [] = (All-nil (λ b. b ≢ bar), tt)
EachHasNoBar-fields (byte ∷ text) =
    elim (cases_Bool (byte == bar)) [
      | inl is_bar ↦ rw (slice_split-cons_yes (λ b. b == bar) byte text is_bar)
          (All-nil (λ b. b ≢ bar), EachHasNoBar-fields text)
      | inr other ↦ rw (slice_split-cons_no (λ b. b == bar) byte text other)
          (EachHasNoBar-onto byte (fields_of text) (eqb-false byte bar other) (EachHasNoBar-fields text))
    ]

EachHasNoBar-at : (place : ℕ) (fields : List (List ℕ)) → EachHasNoBar fields → HasNoBar (get_or fields place [])
EachHasNoBar-at place [] each = All-nil (λ b. b ≢ bar)
EachHasNoBar-at zero (field ∷ fields) each = each.0
EachHasNoBar-at (suc place) (field ∷ fields) each = EachHasNoBar-at place fields each.1

-- a field of a line has no bar
pub HasNoBar-field_at : (number : ℕ) (text : List ℕ) → HasNoBar (field_at number (fields_of text))
HasNoBar-field_at number text = EachHasNoBar-at _ (fields_of text) (EachHasNoBar-fields text)

All-front : (P : ℕ → Type 0) (xs ys : List ℕ) → All P (xs ++ ys) → All P xs
All-front P xs ys all =
    let front : take (length xs) (xs ++ ys) ≡ xs =
    take-append-le (length xs) xs ys (omega arith) ∙ take_all (length xs) xs (omega arith) in
    subst (λ (zs : List ℕ). All P zs) front (All-take P (length xs) (xs ++ ys) all)

-- nor has the text that fills one
pub HasNoBar-filled : (text field : List ℕ) → IsFilled text field → HasNoBar field → HasNoBar text
HasNoBar-filled text field fills whole = All-front (λ b. b ≢ bar) text (spaces fills.0) (rw fills.1 at whole)

-- a byte that isn't a bar doesn't cut
IsNotCut : (text : List ℕ) → HasNoBar text → All (λ byte. (byte == bar) ≡ false) text
IsNotCut text no_bar = λ k d within. ne_eqb (get_or text k d) bar (no_bar k d within)

-- the fields that were written behind bars
pub fields_of-behind_bars : (first : List ℕ) (fields : List (List ℕ)) → HasNoBar first → EachHasNoBar fields
    → fields_of (first ++ behind_bars fields) ≡ first ∷ fields
fields_of-behind_bars first [] no_bar each =
    ap fields_of (append-nil first) ∙ slice_split_none (λ byte. byte == bar) first (IsNotCut first no_bar)
fields_of-behind_bars first (field ∷ fields) no_bar each =
    slice_split_at (λ byte. byte == bar) first bar (field ++ behind_bars fields) (IsNotCut first no_bar) refl
    ∙ ap (λ behind. first ∷ behind) (fields_of-behind_bars field fields each.0 each.1)
