-- What is found in a list of pairs of a key and a number, and what an edit of the list does to it.
use Rattle.std.proofs.Common.{◌≡◌, ℕ, zero, suc, ◌<◌, eqb, ◌≢◌, [], ◌∷◌, length, get_or, set, if◌then◌else◌, Some, None, refl, arith}
use Rattle.std.specs.List.{insert}
use Rattle.std.proofs.lemmas.Bool.Decides.{nat_tests}
use Rattle.rep_core.specs.Numbers.{Pairs, number_of, key_at, IsAt}

-- no pair before place i has the key
abbrev pub NoKeyBefore : Pairs → ℕ → ℕ → Type 0
NoKeyBefore l k i = (j : ℕ) → j < i → key_at l j ≢ k

-- the key k has the number v in new, and any other key the one that it has in old
abbrev pub FindsAfterSet : Pairs → Pairs → ℕ → ℕ → Type 0
FindsAfterSet old new k v = (q : ℕ) → number_of new q ≡ (if eqb k q then Some v else number_of old q)

-- no pair of the tail has the key either
no_key_before_tail : (x : ℕ × ℕ) (l : Pairs) (k i : ℕ) → NoKeyBefore (x ∷ l) k (suc i) → NoKeyBefore l k i
no_key_before_tail x l k i no_key j lt = no_key (suc j) (omega arith)

-- in the tail, a pair is one place lower
is_at_tail : (x : ℕ × ℕ) (l : Pairs) (k i : ℕ) → IsAt (x ∷ l) k (suc i) → IsAt l k i
is_at_tail x l k i is_at = record { in_range = omega (arith, is_at.in_range); has_key = is_at.has_key }

-- a key that no pair has has no number
pub number_absent : (l : Pairs) (k : ℕ) → NoKeyBefore l k (length l) → number_of l k ≡ None
number_absent [] k no_key = refl
number_absent (x ∷ l) k no_key = grind (arith, nat_tests, no_key 0 (omega arith), number_absent l k (no_key_before_tail x l k _ no_key))

-- the first pair that has the key gives the number
pub number_present : (l : Pairs) (k i : ℕ) → IsAt l k i → NoKeyBefore l k i → number_of l k ≡ Some (get_or l i (0, 0)).1
number_present [] k i is_at no_key = absurd (omega (arith, is_at.in_range))
number_present (x ∷ l) k zero is_at no_key = grind (arith, nat_tests, is_at.has_key)
number_present (x ∷ l) k (suc i) is_at no_key = grind (arith, nat_tests, no_key 0 (omega arith), number_present l k i (is_at_tail x l k i is_at) (no_key_before_tail x l k i no_key))

-- writing over the first pair that has the key sets its number
pub number_set : (l : Pairs) (k v i : ℕ) → IsAt l k i → NoKeyBefore l k i → FindsAfterSet l (set l i (k, v)) k v
number_set [] k v i is_at no_key q = absurd (omega (arith, is_at.in_range))
number_set (x ∷ l) k v zero is_at no_key q = grind (arith, nat_tests, is_at.has_key)
number_set (x ∷ l) k v (suc i) is_at no_key q = grind (arith, nat_tests, no_key 0 (omega arith), number_set l k v i (is_at_tail x l k i is_at) (no_key_before_tail x l k i no_key) q)

-- so does a new pair before any pair that has the key
pub number-insert : (l : Pairs) (k v i : ℕ) → NoKeyBefore l k i → FindsAfterSet l (insert l i (k, v)) k v
number-insert l k v zero no_key q = refl
number-insert [] k v (suc i) no_key q = refl
number-insert (x ∷ l) k v (suc i) no_key q = grind (arith, nat_tests, no_key 0 (omega arith), number-insert l k v i (no_key_before_tail x l k i no_key) q)
