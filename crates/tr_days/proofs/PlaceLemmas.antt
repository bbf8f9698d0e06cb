-- The first place at which a test passes.
use Rattle.std.proofs.Common.{◌≡◌, ℕ, ◌<◌, Bool, true, false, cond, ltb, List, [], ◌∷◌, length, get_or, Some, None, inl, inr, refl, sym, ap, ◌∙◌, arith}
use Rattle.std.specs.Prelude.{position, find}
use Rattle.std.specs.List.{position_or_len}
use Rattle.std.specs.List.{slice_get}
use Rattle.std.proofs.lemmas.Bool.{lt-ltb, le-ltb, ltb-false, cases_Bool}
use Rattle.std.proofs.lemmas.List.Folds.{find_at}
use Rattle.std.proofs.lemmas.Option.{none-some, same_Some, slice_get-get_or, slice_get_past}
use Rattle.std.proofs.lemmas.List.Sums.{position_or_len_is}

-- some element of a list that has one
pub some_of : {X : Type 0} (xs : List X) (i : ℕ) → i < length xs → X
some_of [] i within = absurd (omega arith)
some_of (x ∷ xs) i within = x

module _ {X : Type 0} (p : X → Bool) where
  pub position_at : (xs : List X) (i : ℕ) (d : X) → i < length xs → p (get_or xs i d) ≡ true
      → ((k : ℕ) → k < i → p (get_or xs k d) ≡ false) → position p xs ≡ Some i
  position_at xs i d within passes before =
      let first : position_or_len p xs ≡ i = position_or_len_is p xs i d (omega arith) before (λ _. passes) in
      rw first (ap (λ b. cond b (Some i) None) (lt-ltb i (length xs) within))

  pub position_none : (xs : List X) → ((k : ℕ) (d : X) → k < length xs → p (get_or xs k d) ≡ false) → position p xs ≡ None
  position_none [] fails = refl
  position_none (x ∷ xs) fails =
      let first : position_or_len p (x ∷ xs) ≡ length (x ∷ xs) =
      position_or_len_is p (x ∷ xs) (length (x ∷ xs)) x (omega arith) (λ k less. fails k x less) (λ less. absurd (omega arith)) in
      ap (λ n. cond (ltb n (length (x ∷ xs))) (Some n) None) first ∙ ap (λ b. cond b (Some (length (x ∷ xs))) None) (le-ltb (length (x ∷ xs)) (length (x ∷ xs)) (omega arith))

  -- what is found there
  pub find_from_position : (xs : List X) (i : ℕ) (d : X) → position p xs ≡ Some i → i < length xs → find p xs ≡ Some (get_or xs i d)
  find_from_position xs i d is within = elim (cases_Bool (ltb (position_or_len p xs) (length xs))) [
    | inl less ↦
        let first : position_or_len p xs ≡ i = same_Some (position_or_len p xs) i (sym (ap (λ b. cond b (Some (position_or_len p xs)) None) less) ∙ is) in
        find_at p xs ∙ ap (slice_get xs) first ∙ slice_get-get_or xs i d within
    | inr past ↦ absurd (none-some i (sym (ap (λ b. cond b (Some (position_or_len p xs)) None) past) ∙ is))
  ]

  pub find_from_none : (xs : List X) → position p xs ≡ None → find p xs ≡ None
  find_from_none xs is = elim (cases_Bool (ltb (position_or_len p xs) (length xs))) [
    | inl less ↦ absurd (none-some (position_or_len p xs) (sym is ∙ ap (λ b. cond b (Some (position_or_len p xs)) None) less))
    | inr past ↦ find_at p xs ∙ slice_get_past xs (position_or_len p xs) (ltb-false (position_or_len p xs) (length xs) past)
  ]
