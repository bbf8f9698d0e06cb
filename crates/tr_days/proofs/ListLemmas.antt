-- What a test keeps of a list.
use Rattle.std.proofs.Common.{◌≡◌, ℕ, ◌+◌, ◌<◌, Bool, true, false, cond, List, [], ◌∷◌, ◌++◌, length, get_or, take, All, Option, None, inl, inr, refl, sym, ap, ◌∙◌, append_assoc, arith}
use Rattle.std.specs.Prelude.{filter, filter_map}
use Rattle.std.specs.List.{cons_option, enumerate_from}
use Rattle.std.proofs.lemmas.Bool.{cases_Bool}
use Rattle.std.proofs.lemmas.List.{take_more}
use Rattle.std.proofs.lemmas.List.FromFn.{get_or-enumerate_from}
use Rattle.std.proofs.lemmas.List.Elements.{All-head, All-tail, filter-append, filter_map-append}

module _ {X : Type 0} (p : X → Bool) where
  pub filter_all : (xs : List X) → All (λ x. p x ≡ true) xs → filter p xs ≡ xs
  filter_all [] all = refl
  filter_all (x ∷ xs) all =
      ap (λ b. cond b (x ∷ filter p xs) (filter p xs)) (All-head (λ y. p y ≡ true) x xs all)
      ∙ ap (λ (ys : List X). x ∷ ys) (filter_all xs (All-tail (λ y. p y ≡ true) x xs all))

  pub filter_none : (xs : List X) → All (λ x. p x ≡ false) xs → filter p xs ≡ []
  filter_none [] none = refl
  filter_none (x ∷ xs) none =
      ap (λ b. cond b (x ∷ filter p xs) (filter p xs)) (All-head (λ y. p y ≡ false) x xs none)
      ∙ filter_none xs (All-tail (λ y. p y ≡ false) x xs none)

  -- what gives nothing needn't be kept
  pub filter_map_kept : {Y : Type 0} (h : X → Option Y) → ((x : X) → p x ≡ false → h x ≡ None) → (xs : List X)
      → filter_map h (filter p xs) ≡ filter_map h xs
  filter_map_kept h none [] = refl
  filter_map_kept h none (x ∷ xs) = elim (cases_Bool (p x)) [
    | inl kept ↦
        ap (λ b. filter_map h (cond b (x ∷ filter p xs) (filter p xs))) kept ∙ ap (cons_option (h x)) (filter_map_kept h none xs)
    | inr left ↦
        ap (λ b. filter_map h (cond b (x ∷ filter p xs) (filter p xs))) left ∙ filter_map_kept h none xs
        ∙ sym (ap (λ o. cons_option o (filter_map h xs)) (none x left))
  ]

-- a loop that puts behind a list what a filter keeps of what each element gives
pub kept_more : {X Y : Type 0} (h : X → Option Y) (p : Y → Bool) (front new : List Y) (xs : List X) (i : ℕ) (d : X) → i < length xs
    → new ≡ (front ++ filter p (filter_map h (take i xs))) ++ filter p (cons_option (h (get_or xs i d)) [])
    → new ≡ front ++ filter p (filter_map h (take (i + 1) xs))
kept_more h p front new xs i d within is =
    is ∙ append_assoc front (filter p (filter_map h (take i xs))) (filter p (cons_option (h (get_or xs i d)) [])) ∙ ap (λ ys. front ++ ys)
    (sym (ap (λ ys. filter p (filter_map h ys)) (take_more xs i d within)
    ∙ ap (filter p) (filter_map-append h (take i xs) (get_or xs i d ∷ []))
    ∙ filter-append p (filter_map h (take i xs)) (cons_option (h (get_or xs i d)) [])))

pub kept_step : {X Y : Type 0} (h : X → Option Y) (p : Y → Bool) (front middle new : List Y) (xs : List X) (i : ℕ) (d : X) (o : Option Y) → i < length xs
    → middle ≡ front ++ filter p (filter_map h (take i xs)) → o ≡ h (get_or xs i d) → new ≡ middle ++ filter p (cons_option o [])
    → new ≡ front ++ filter p (filter_map h (take (i + 1) xs))
kept_step h p front middle new xs i d o within so_far gives is =
    kept_more h p front new xs i d within
    (is ∙ ap (λ ys. ys ++ filter p (cons_option o [])) so_far ∙ ap (λ q. (front ++ filter p (filter_map h (take i xs))) ++ filter p (cons_option q [])) gives)

-- an element with its place stands there among those with their places
pub numbered_at : {X : Type 0} (xs : List X) (i : ℕ) (x : X) → i < length xs → x ≡ get_or xs i x → (i, x) ≡ get_or (enumerate_from 0 xs) i (0, x)
numbered_at xs i x within here =
    let same : i ≡ 0 + i = omega arith in
    ap (λ y. (i, y)) here ∙ ap (λ n. (n, get_or xs i x)) same ∙ sym (get_or-enumerate_from 0 xs i (0, x) within)

pub filter_same : {X : Type 0} (p q : X → Bool) → ((x : X) → p x ≡ q x) → (xs : List X) → filter p xs ≡ filter q xs
filter_same p q same [] = refl
filter_same p q same (x ∷ xs) =
    ap (λ b. cond b (x ∷ filter p xs) (filter p xs)) (same x) ∙ ap (λ (ys : List _). cond (q x) (x ∷ ys) ys) (filter_same p q same xs)
