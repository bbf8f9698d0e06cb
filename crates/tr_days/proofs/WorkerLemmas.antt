-- Laws of clockings by worker.
use Rattle.std.proofs.Common.{◌≡◌, ℕ, ◌+◌, ◌<◌, ◌≤◌, Bool, true, false, not, ◌&&◌, eqb, ltb, leb, List, ◌++◌, length, get_or, take, drop, All, inl, inr, refl, sym, ap, ◌∙◌, subst, arith}
use Rattle.std.specs.Prelude.{filter, pos}
use Rattle.std.specs.List.{AllWithin}
use Rattle.std.specs.List.Sorted.{IsStableByKey, ties}
use Rattle.std.specs.Ordering.{nat_cmp, is_lt}
use Rattle.std.proofs.lemmas.Bool.{cases_order, eq-eqb, ne_eqb, lt-ltb, le-ltb, ltb-true, ltb-false, leb-true, leb-false}
use Rattle.std.proofs.lemmas.List.{append-nil, take-append-drop, get_or-take, get_or-drop, length-drop, length-take-le}
use Rattle.std.proofs.lemmas.List.Elements.{filter-append}
use Rattle.tr_days.specs.Index.{is_of}
use Rattle.tr_days.specs.declared.clocking.Clocking.{Clocking}
use Rattle.tr_days.proofs.ListLemmas.{filter_all, filter_none, filter_same}

-- Of a list in three parts the middle one is what a test keeps, where it alone passes.
pub filter_of_parts : {X : Type 0} (p : X → Bool) (front middle back : List X) → All (λ x. p x ≡ false) front → All (λ x. p x ≡ true) middle
    → All (λ x. p x ≡ false) back → filter p (front ++ (middle ++ back)) ≡ middle
filter_of_parts p front middle back before here behind =
    filter-append p front (middle ++ back)
    ∙ ap (λ ys. ys ++ filter p (middle ++ back)) (filter_none p front before)
    ∙ filter-append p middle back
    ∙ ap (λ ys. ys ++ filter p back) (filter_all p middle here)
    ∙ ap (λ ys. middle ++ ys) (filter_none p back behind)
    ∙ append-nil middle

-- What stands between the first clocking that isn't of a lower CPF and the first behind it of a higher one is the worker's.
pub worker_part_is : (clockings : List Clocking) (cpf start end : ℕ) → start ≤ length clockings → end ≤ length (drop start clockings)
    → AllWithin (λ c. ltb c.cpf cpf ≡ true) clockings 0 start → AllWithin (λ c. ltb c.cpf cpf ≡ false) clockings start (length clockings)
    → AllWithin (λ c. leb c.cpf cpf ≡ true) (drop start clockings) 0 end
    → AllWithin (λ c. leb c.cpf cpf ≡ false) (drop start clockings) end (length (drop start clockings))
    → take end (drop start clockings) ≡ filter (is_of cpf) clockings
worker_part_is clockings cpf start end start_in end_in lower from_here up_to higher =
    let rest = drop start clockings in
    let front : All (λ c. is_of cpf c ≡ false) (take start clockings) = λ k d within.
    let in_front : k < start = omega (arith, within, length-take-le start clockings start_in) in
    let less = ltb-true (get_or clockings k d).cpf cpf (lower k d (omega arith) in_front) in
    subst (λ (c : Clocking). is_of cpf c ≡ false) (sym (get_or-take start clockings k d in_front)) (ne_eqb (get_or clockings k d).cpf cpf (λ same. absurd (omega (arith, less, same)))) in
    let middle : All (λ c. is_of cpf c ≡ true) (take end rest) = λ k d within.
    let in_front : k < end = omega (arith, within, length-take-le end rest end_in) in
    let there = get_or-drop start clockings k d in
    let long = length-drop start clockings in
    let most = leb-true (get_or rest k d).cpf cpf (up_to k d (omega arith) in_front) in
    let least = ltb-false (get_or clockings (start + k) d).cpf cpf (from_here (start + k) d (omega arith) (omega (arith, in_front, end_in, long, start_in))) in
    let same_cpf = ap (λ (c : Clocking). c.cpf) there in
    subst (λ (c : Clocking). is_of cpf c ≡ true) (sym (get_or-take end rest k d in_front)) (eq-eqb (get_or rest k d).cpf cpf (omega (arith, most, least, same_cpf))) in
    let back : All (λ c. is_of cpf c ≡ false) (drop end rest) = λ k d within.
    let there = get_or-drop end rest k d in
    let long = length-drop end rest in
    let more = leb-false (get_or rest (end + k) d).cpf cpf (higher (end + k) d (omega arith) (omega (arith, within, long, end_in))) in
    subst (λ (c : Clocking). is_of cpf c ≡ false) (sym there) (ne_eqb (get_or rest (end + k) d).cpf cpf (λ same. absurd (omega (arith, more, same)))) in
    sym (ap (filter (is_of cpf)) (sym (ap (λ (ys : List Clocking). take start clockings ++ ys) (take-append-drop end rest) ∙ take-append-drop start clockings))
    ∙ filter_of_parts (is_of cpf) (take start clockings) (take end rest) (drop end rest) front middle back)

-- two CPFs that tie are one
pub ties_is : (cpf other : ℕ) → (not (ltb cpf other) && not (ltb other cpf)) ≡ eqb other cpf
ties_is cpf other = elim (cases_order cpf other) [
  | inl same ↦ rw (le-ltb cpf other (omega arith), le-ltb other cpf (omega arith), eq-eqb other cpf (sym same)) refl
  | inr order ↦ elim order [
    | inl less ↦ rw (lt-ltb cpf other less, ne_eqb other cpf (λ same. absurd (omega (arith, less, same)))) refl
    | inr more ↦ rw (le-ltb cpf other (omega arith), lt-ltb other cpf more, ne_eqb other cpf (λ same. absurd (omega (arith, more, same)))) refl
  ]
]

less_is : (x y : ℕ) → is_lt (nat_cmp x y) ≡ ltb x y
less_is x y = elim (cases_order x y) [
  | inl same ↦ rw (le-ltb x y (omega arith), eq-eqb x y same) refl
  | inr order ↦ elim order [
    | inl less ↦ rw (lt-ltb x y less) refl
    | inr more ↦ rw (le-ltb x y (omega arith), ne_eqb x y (λ same. absurd (omega (arith, more, same)))) refl
  ]
]

-- a stable sort by worker leaves those of one worker as they stood
pub as_they_stood_from : (old new : List Clocking) → IsStableByKey (λ clocking. clocking.cpf) nat_cmp old new
    → (cpf : ℕ) → filter (is_of cpf) new ≡ filter (is_of cpf) old
as_they_stood_from old new stable cpf =
    let one : Clocking = record { cpf = cpf; nsr = 0; at = record { local = 0; offset = pos 0 } } in
    let same : (x : Clocking) → ties (λ a b. is_lt (nat_cmp a.cpf b.cpf)) one x ≡ is_of cpf x = λ x. rw (less_is cpf x.cpf, less_is x.cpf cpf) (ties_is cpf x.cpf) in
    sym (filter_same (ties (λ a b. is_lt (nat_cmp a.cpf b.cpf)) one) (is_of cpf) same new) ∙ stable one
    ∙ filter_same (ties (λ a b. is_lt (nat_cmp a.cpf b.cpf)) one) (is_of cpf) same old
