-- Laws of the fields of a line.
use Rattle.std.proofs.Common.{◌≡◌, ℕ, ◌+◌, ◌-◌, ◌<◌, ◌≤◌, List, [], ◌∷◌, ◌++◌, length, get_or, set, map, take, drop, Bool, true, false, cond, not, Some, None, position, refl, sym, ap, ◌∙◌, inl, inr, arith, length-drop, length-take, append-nil, append_assoc}
use Rattle.std.specs.List.{slice_split, position_or_len}
use Rattle.std.proofs.lemmas.Bool.{cases_lt, lt-ltb, le-ltb}
use Rattle.std.proofs.lemmas.List.{take_all, take_at, take_more_set, map-set, length-map}
use Rattle.std.proofs.lemmas.List.Splits.{slice_split_first, slice_split_none}
use Rattle.std.proofs.lemmas.List.Sums.{prefix_len_passes}

-- where an element passes, the list is cut there
pub cut-some : (p : ℕ → Bool) (xs : List ℕ) (at : ℕ) → Some at ≡ position p xs
    → slice_split p xs ≡ take at xs ∷ slice_split p (take (length xs - (at + 1)) (drop (at + 1) xs))
cut-some p xs at is =
    elim (cases_lt (position_or_len p xs) (length xs)) [
      | inl inside ↦
          let found : Some at ≡ Some (position_or_len p xs) =
          is ∙ ap (λ b. cond b (Some (position_or_len p xs)) None) (lt-ltb (position_or_len p xs) (length xs) inside) in
          let place : position_or_len p xs ≡ at = cc in
          let whole : take (length xs - (at + 1)) (drop (at + 1) xs) ≡ drop (at + 1) xs =
          take_all (length xs - (at + 1)) (drop (at + 1) xs) (omega (arith, length-drop (at + 1) xs)) in
          rw (whole, ← place) (slice_split_first p xs 0 inside)
      | inr past ↦
          let none : Some at ≡ None =
          is ∙ ap (λ b. cond b (Some (position_or_len p xs)) None) (le-ltb (position_or_len p xs) (length xs) past) in
          absurd (cc)
    ]

-- and where none does, it is one piece
pub cut-none : (p : ℕ → Bool) (xs : List ℕ) → None ≡ position p xs → slice_split p xs ≡ xs ∷ []
cut-none p xs is =
    elim (cases_lt (position_or_len p xs) (length xs)) [
      | inl inside ↦
          let found : None ≡ Some (position_or_len p xs) =
          is ∙ ap (λ b. cond b (Some (position_or_len p xs)) None) (lt-ltb (position_or_len p xs) (length xs) inside) in
          absurd (cc)
      | inr past ↦
          slice_split_none p xs (λ k d within. false_from_not (p (get_or xs k d))
          (prefix_len_passes (λ x. not (p x)) xs k d (omega arith)))
    ]
  where
    false_from_not : (b : Bool) → not b ≡ true → b ≡ false
    false_from_not true h = sym h
    false_from_not false h = refl

-- one field more of those that were cut off
pub cut_more : {R : Type 0} (shown : R → List ℕ) (texts : List R) (count : ℕ) (new : R)
    (whole rest behind : List (List ℕ)) → count < length texts → whole ≡ take count (map shown texts) ++ rest
    → rest ≡ shown new ∷ behind → whole ≡ take (count + 1) (map shown (set texts count new)) ++ behind
cut_more shown texts count new whole rest behind within is more =
    let inside : count < length (map shown texts) = omega (arith, length-map texts shown) in
    rw (map-set shown texts count new, take_more_set (map shown texts) count (shown new) inside, append_assoc)
    (is ∙ ap (λ fields. take count (map shown texts) ++ fields) more)

length-front : {R : Type 0} (shown : R → List ℕ) (texts : List R) (count : ℕ) → count ≤ length texts
    → length (take count (map shown texts)) ≡ count
length-front shown texts count within = omega (arith, length-take count (map shown texts), length-map texts shown)

-- the cells are full
pub cut_full : {R : Type 0} (shown : R → List ℕ) (texts : List R) (count : ℕ) (whole rest : List (List ℕ))
    → length texts ≡ 24 → count ≡ 24 → whole ≡ take count (map shown texts) ++ rest
    → take count (map shown texts) ≡ take 24 whole
cut_full shown texts count whole rest cells full is =
    let front = take count (map shown texts) in
    let size : length front ≡ 24 = omega (arith, length-front shown texts count (omega arith)) in
    sym (ap (take 24) is ∙ take_at front rest 24 size)

-- there is no field left
pub cut_all : {R : Type 0} (shown : R → List ℕ) (texts : List R) (count : ℕ) (whole rest : List (List ℕ))
    → length texts ≡ 24 → count ≤ 24 → rest ≡ [] → whole ≡ take count (map shown texts) ++ rest
    → take count (map shown texts) ≡ take 24 whole
cut_all shown texts count whole rest cells within none is =
    let front = take count (map shown texts) in
    let same : whole ≡ front = is ∙ ap (λ fields. front ++ fields) none ∙ append-nil front in
    let short : length whole ≤ 24 = omega (arith, ap length same, length-front shown texts count (omega arith)) in
    sym (take_all 24 whole short ∙ same)
