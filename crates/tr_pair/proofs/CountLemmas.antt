-- How many elements in front of a place pass a test.
use Rattle.std.proofs.Common.{◌≡◌, ◌+◌, ◌<◌, ◌≤◌, ℕ, zero, suc, Bool, true, false, List, length, take, Some, sym, ap, subst, ◌∙◌, arith, add-one, ⊎_elim}
use Rattle.std.proofs.lemmas.Bool.{cases_Bool}
use Rattle.std.proofs.lemmas.List.{take-take}
use Rattle.std.proofs.lemmas.List.Sums.{count_by_more_yes, count_by_more_no, sum_by-take-le}
use Rattle.std.proofs.lemmas.Option.{get_or_from_slice_get, slice_get_within, slice_get_cases}
use Rattle.std.specs.Prelude.{slice_get, count_by, cond}

-- an element that passes, or doesn't, stands at the place
pub count_more_yes : {X : Type 0} (p : X → Bool) (xs : List X) (n : ℕ) (x : X) → slice_get xs n ≡ Some x → p x ≡ true
    → count_by p (take (n + 1) xs) ≡ count_by p (take n xs) + 1
count_more_yes p xs n x there passes =
    count_by_more_yes p xs n x (slice_get_within xs n x there) (ap p (get_or_from_slice_get xs n x x there) ∙ passes)

pub count_more_no : {X : Type 0} (p : X → Bool) (xs : List X) (n : ℕ) (x : X) → slice_get xs n ≡ Some x → p x ≡ false
    → count_by p (take (n + 1) xs) ≡ count_by p (take n xs)
count_more_no p xs n x there fails =
    count_by_more_no p xs n x (slice_get_within xs n x there) (ap p (get_or_from_slice_get xs n x x there) ∙ fails)

-- the count never falls
pub count_rises : {X : Type 0} (p : X → Bool) (xs : List X) (m n : ℕ) → m ≤ n → count_by p (take m xs) ≤ count_by p (take n xs)
count_rises p xs m n le =
    subst (λ l. count_by p l ≤ count_by p (take n xs)) (take-take m n xs le)
    (sum_by-take-le (λ x. cond (p x) 1 0) (take n xs) m)

-- an element that passes, with so many in front of it
pub record HasNumber {X : Type 0} (p : X → Bool) (xs : List X) (k e : ℕ) : Type 0 where
  pub element : X
  pub there : slice_get xs e ≡ Some element
  pub passes : p element ≡ true
  pub number : count_by p (take e xs) ≡ k

-- of n + 1 elements: the last one, where it passes, and else one of those before it
last_of : {X : Type 0} (p : X → Bool) (xs : List X) (n k : ℕ) (x : X) → slice_get xs n ≡ Some x
    → count_by p (take (n + 1) xs) ≡ k + 1 → (count_by p (take n xs) ≡ k + 1 → (e : ℕ) × (e < n) × HasNumber p xs k e)
    → (e : ℕ) × (e < suc n) × HasNumber p xs k e
last_of p xs n k x there counted before =
    ⊎_elim
    (λ passes. (
      n,
      omega arith,
      record { element = x; there = there; passes = passes; number = (let more = count_more_yes p xs n x there passes in omega (arith, more, counted)) },
    ))
    (λ fails.
    let first = before (sym (count_more_no p xs n x there fails) ∙ counted) in
    (first.0, (let below = first.1 in omega arith), first.2))
    (cases_Bool (p x))

-- of those that were counted the last one
pub last_counted : {X : Type 0} (p : X → Bool) (xs : List X) (n k : ℕ) → n ≤ length xs → count_by p (take n xs) ≡ k + 1
    → (e : ℕ) × (e < n) × HasNumber p xs k e
last_counted p xs zero k within counted = absurd (let none : 0 ≡ k + 1 = counted in omega arith)
last_counted p xs (suc n) k within counted =
    ⊎_elim
    (λ at. last_of p xs n k at.0 at.2 (ap (λ m. count_by p (take m xs)) (add-one n) ∙ counted) (λ before. last_counted p xs n k (omega arith) before))
    (λ past. absurd (let far = past.0 in omega arith))
    (slice_get_cases xs n).1

-- from an element that passes down to one with a smaller number
pub down_to : {X : Type 0} (p : X → Bool) (xs : List X) (k more n : ℕ) → HasNumber p xs (k + more) n → (e : ℕ) × (e ≤ n) × HasNumber p xs k e
down_to p xs k zero n here = (n, omega arith, subst (λ m. HasNumber p xs m n) (omega arith) here)
down_to p xs k (suc more) n here =
    let within = slice_get_within xs n here.element here.there in
    let before = last_counted p xs n (k + more) (omega arith) (here.number ∙ omega arith) in
    let first = down_to p xs k more before.0 before.2 in
    (first.0, (let below = before.1 in let least = first.1 in omega arith), first.2)
