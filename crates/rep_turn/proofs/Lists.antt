-- Sums over lists that change at one place, and how often a number stands in a list.
use Rattle.std.proofs.Common.{◌≡◌, ◌≢◌, ℕ, zero, suc, ◌+◌, ◌<◌, ◌≤◌, Bool, true, false, ltb, List, [], ◌∷◌, ◌++◌, length, set, subst, sym, refl, ap, arith, eq-eqb, ne_eqb, lt-ltb, le-ltb}
use mathlib.Core.Logic.{dite}
use native.Mathlib.Decide.{ℕ_discrete, dec_le}
use mathlib.Core.Option.{some, some-injective, some-ne-none}
use lib.ListN.{get_elem?}
use Rattle.rep_turn.specs.Views.{total, times, one_if}

pub length_none : {A : Type 0} (xs : List A) → length xs ≡ 0 → xs ≡ []
length_none [] h = refl
length_none (x ∷ xs) h = absurd (omega arith)

module _ {A : Type 0} (f : A → ℕ) where
  pub total-append : (l m : List A) → total f (l ++ m) ≡ total f l + total f m
  total-append [] m = omega arith
  total-append (x ∷ xs) m = omega (arith, total-append xs m)

  pub total-set : (l : List A) (j : ℕ) (v w : A) → get_elem? l j ≡ some v → total f (set l j w) + f v ≡ total f l + f w
  total-set [] j v w e = absurd (some-ne-none v (sym e))
  total-set (x ∷ xs) zero v w e = omega (arith, ap f (some-injective x v e))
  total-set (x ∷ xs) (suc j) v w e = omega (arith, total-set xs j v w e)

  pub term_le : (l : List A) (j : ℕ) (v : A) → get_elem? l j ≡ some v → f v ≤ total f l
  term_le [] j v e = absurd (some-ne-none v (sym e))
  term_le (x ∷ xs) zero v e = omega (arith, ap f (some-injective x v e))
  term_le (x ∷ xs) (suc j) v e = omega (arith, term_le xs j v e)

  pub terms_le : (l : List A) (j k : ℕ) (v u : A) → k ≢ j → get_elem? l j ≡ some v → get_elem? l k ≡ some u → f v + f u ≤ total f l
  terms_le [] j k v u n e d = absurd (some-ne-none v (sym e))
  terms_le (x ∷ xs) zero zero v u n e d = absurd (n refl)
  terms_le (x ∷ xs) zero (suc k) v u n e d = omega (arith, ap f (some-injective x v e), term_le xs k u d)
  terms_le (x ∷ xs) (suc j) zero v u n e d = omega (arith, ap f (some-injective x u d), term_le xs j v e)
  terms_le (x ∷ xs) (suc j) (suc k) v u n e d = omega (arith, terms_le xs j k v u (λ h. n (ap suc h)) e d)

  pub total_none : (l : List A) → ((i : ℕ) (v : A) → get_elem? l i ≡ some v → f v ≡ 0) → total f l ≡ 0
  total_none [] h = refl
  total_none (x ∷ xs) h = omega (arith, h 0 x refl, total_none xs (λ i v e. h (suc i) v e))

pub at_most_one : (b : Bool) → one_if b ≤ 1
at_most_one true = omega arith
at_most_one false = omega arith

pub below_of_one : (k n : ℕ) → 0 < one_if (ltb k n) → k < n
below_of_one k n h = dite (dec_le n k) (λ le. absurd (omega (arith, ap (λ b. one_if b) (le-ltb k n le)))) (λ lt. omega arith)

pub one_of_below : (k n : ℕ) → k < n → one_if (ltb k n) ≡ 1
one_of_below k n h = ap (λ b. one_if b) (lt-ltb k n h)

pub none_above : (k n : ℕ) → n ≤ k → one_if (ltb k n) ≡ 0
none_above k n h = ap (λ b. one_if b) (le-ltb k n h)

-- the bound at each number rises with the next one
pub below_rises : (k n m : ℕ) → n ≤ m → one_if (ltb k n) ≤ one_if (ltb k m)
below_rises k n m le = dite (dec_le n k) (λ a. omega (arith, none_above k n a)) (λ b. let lt : k < m = omega arith in omega (arith, at_most_one (ltb k n), one_of_below k m lt))

pub times_self : (k : ℕ) → times k (k ∷ []) ≡ 1
times_self k = ap (λ b. one_if b + 0) (eq-eqb k k refl)

pub times_other : (k j : ℕ) → k ≢ j → times k (j ∷ []) ≡ 0
times_other k j ne = ap (λ b. one_if b + 0) (ne_eqb j k (λ e. ne (sym e)))

pub times_only : (k j : ℕ) → 0 < times k (j ∷ []) → k ≡ j
times_only k j h = dite (ℕ_discrete k j) (λ e. e) (λ ne. absurd (omega (arith, times_other k j ne)))

pub times_one : (k j : ℕ) (ks : List ℕ) → ks ≡ j ∷ [] → 0 < times k ks → k ≡ j
times_one k j ks e h = times_only k j (subst (λ l. 0 < times k l) e h)

-- a number that is no less than all below which each stands once stands once too
pub drawn_once : (k n m : ℕ) (r : ℕ) → r ≤ one_if (ltb k n) → n ≤ m → r + times k (m ∷ []) ≤ one_if (ltb k (m + 1))
drawn_once k n m r le up =
    dite (ℕ_discrete k m)
    (λ e. omega (arith, none_above k n (omega arith), one_of_below k (m + 1) (omega arith), subst (λ j. times k (j ∷ []) ≡ 1) e (times_self k)))
    (λ ne. omega (arith, times_other k m ne, below_rises k n (m + 1) (omega arith)))
