-- Laws of the fields of a line.
use Rattle.std.proofs.Common.{◌≡◌, ◌≢◌, ℕ, ◌+◌, ◌-◌, ◌<◌, ◌==◌, List, [], ◌∷◌, ◌++◌, length, get_or, take, drop, Bool, true, false, cond, not, Option, Some, None, position, All, refl, sym, ap, ◌∙◌, subst, inl, inr, arith, length-drop}
use Rattle.std.specs.List.{slice_split, onto_first, position_or_len}
use Rattle.std.proofs.lemmas.Bool.{cases_lt, lt-ltb, le-ltb, cases_Bool, eqb-false}
use Rattle.std.proofs.lemmas.List.{take_all, take-append-le}
use Rattle.std.proofs.lemmas.List.Elements.{All-nil, All-cons, All-take}
use Rattle.std.proofs.lemmas.List.Splits.{slice_split_first, slice_split_none, slice_split-cons_no, slice_split-cons_yes, length-slice_split}
use Rattle.std.proofs.lemmas.List.Sums.{prefix_len_passes}
use Rattle.rep_fields.specs.Identity.{bar}
use Rattle.rep_fields.specs.Latin.{IsFilled, spaces}
use Rattle.rep_wire.specs.Fields.{fields_of, fields_behind}
use Rattle.rep_wire.specs.Request.{HasNoBar}

-- where an element passes, the list is cut there
pub cut-some : (p : ℕ → Bool) (xs : List ℕ) (at : ℕ) → Some at ≡ position p xs
    → slice_split p xs ≡ take at xs ∷ slice_split p (take (length xs - (at + 1)) (drop (at + 1) xs))
cut-some p xs at is =
    elim (cases_lt (position_or_len p xs) (length xs)) [
      | inl inside ↦
          let found : Some at ≡ Some (position_or_len p xs) =
          is ∙ ap (λ b. cond b (Some (position_or_len p xs)) None) (lt-ltb (position_or_len p xs) (length xs) inside) in
          let place : position_or_len p xs ≡ at = cc in
          let whole : take (length xs - (at + 1)) (drop (at + 1) xs) ≡ drop (at + 1) xs =
          take_all (length xs - (at + 1)) (drop (at + 1) xs) (omega (arith, length-drop (at + 1) xs)) in
          rw (whole, ← place) (slice_split_first p xs 0 inside)
      | inr past ↦
          let none : Some at ≡ None =
          is ∙ ap (λ b. cond b (Some (position_or_len p xs)) None) (le-ltb (position_or_len p xs) (length xs) past) in
          absurd (cc)
    ]

-- and where none does, it is one piece
pub cut-none : (p : ℕ → Bool) (xs : List ℕ) → None ≡ position p xs → slice_split p xs ≡ xs ∷ []
cut-none p xs is =
    elim (cases_lt (position_or_len p xs) (length xs)) [
      | inl inside ↦
          let found : None ≡ Some (position_or_len p xs) =
          is ∙ ap (λ b. cond b (Some (position_or_len p xs)) None) (lt-ltb (position_or_len p xs) (length xs) inside) in
          absurd (cc)
      | inr past ↦
          slice_split_none p xs (λ k d within. false_from_not (p (get_or xs k d))
          (prefix_len_passes (λ x. not (p x)) xs k d (omega arith)))
    ]
  where
    false_from_not : (b : Bool) → not b ≡ true → b ≡ false
    false_from_not true h = sym h
    false_from_not false h = refl

pub fields_of-some : (text : List ℕ) → 0 < length (fields_of text)
fields_of-some text = omega (arith, length-slice_split (λ byte. byte == bar) text)

-- no field has a bar
abbrev pub EachHasNoBar : List (List ℕ) → Type 0
EachHasNoBar [] = Unit {0}
EachHasNoBar (field ∷ fields) = HasNoBar field × EachHasNoBar fields

EachHasNoBar-onto : (byte : ℕ) (fields : List (List ℕ)) → byte ≢ bar → EachHasNoBar fields → EachHasNoBar (onto_first byte fields)
EachHasNoBar-onto byte [] other each = (All-cons (λ b. b ≢ bar) byte [] other (All-nil (λ b. b ≢ bar)), tt)
EachHasNoBar-onto byte (field ∷ fields) other each = (All-cons (λ b. b ≢ bar) byte field other each.0, each.1)

pub EachHasNoBar-fields : (text : List ℕ) → EachHasNoBar (fields_of text)
EachHasNoBar-fields [] = (All-nil (λ b. b ≢ bar), tt)
EachHasNoBar-fields (byte ∷ text) =
    elim (cases_Bool (byte == bar)) [
      | inl is_bar ↦ rw (slice_split-cons_yes (λ b. b == bar) byte text is_bar)
          (All-nil (λ b. b ≢ bar), EachHasNoBar-fields text)
      | inr other ↦ rw (slice_split-cons_no (λ b. b == bar) byte text other)
          (EachHasNoBar-onto byte (fields_of text) (eqb-false byte bar other) (EachHasNoBar-fields text))
    ]

pub EachHasNoBar-behind : (text : Option (List ℕ)) → EachHasNoBar (fields_behind text)
EachHasNoBar-behind None = tt
EachHasNoBar-behind (Some text) = EachHasNoBar-fields text

All-front : (P : ℕ → Type 0) (xs ys : List ℕ) → All P (xs ++ ys) → All P xs
All-front P xs ys all =
    let front : take (length xs) (xs ++ ys) ≡ xs =
    take-append-le (length xs) xs ys (omega arith) ∙ take_all (length xs) xs (omega arith) in
    subst (λ (zs : List ℕ). All P zs) front (All-take P (length xs) (xs ++ ys) all)

-- nor has the text that fills one
pub HasNoBar-filled : (text field : List ℕ) → IsFilled text field → HasNoBar field → HasNoBar text
HasNoBar-filled text field fills whole = All-front (λ b. b ≢ bar) text (spaces fills.0) (rw fills.1 at whole)
