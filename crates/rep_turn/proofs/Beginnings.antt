-- Beginnings of one log, and the notes of one participant in them.
use Rattle.std.proofs.Common.{◌≡◌, ◌≢◌, ℕ, ◌+◌, ◌<◌, ◌≤◌, Bool, cond, eqb, List, [], ◌∷◌, ◌++◌, length, Option, Some, None, subst, sym, refl, ap, ◌∙◌, arith, append_assoc, length-append, eq-eqb, ne_eqb, lt-ltb, le-ltb}
use Rattle.std.proofs.lemmas.List.Elements.{filter-append}
use Rattle.std.proofs.lemmas.List.Sums.{sum_by-append}
use mathlib.Core.List.{IsPrefix}
use mathlib.Core.Logic.{dite}
use native.Mathlib.Decide.{ℕ_discrete, dec_le}
use Rattle.rep_turn.specs.declared.note.Note.{Note}
use Rattle.rep_turn.specs.declared.note.Seen.{Seen}
use Rattle.rep_turn.specs.Log.{Begins, PastBegins, AllOwnedBy, is_entry, entries, own}
use Rattle.rep_turn.specs.Views.{longer, longer_past, longer_seen}
use Rattle.rep_turn.proofs.Lists.{length_none}

pub prefix_self : {A : Type 0} (xs : List A) → IsPrefix xs xs
prefix_self [] = ([], refl)
prefix_self (x ∷ xs) = (let r = prefix_self xs in r.0, ap (λ ys. x ∷ ys) (prefix_self xs).1)

pub prefix_trans : {A : Type 0} (xs ys zs : List A) → IsPrefix xs ys → IsPrefix ys zs → IsPrefix xs zs
prefix_trans xs ys zs p q = (p.0 ++ q.0, sym (append_assoc xs p.0 q.0) ∙ (ap (λ w. w ++ q.0) p.1 ∙ q.1))

-- of two beginnings of one list the shorter begins the longer
pub prefix_shorter : {A : Type 0} (xs ys zs : List A) → IsPrefix xs zs → IsPrefix ys zs → length xs ≤ length ys → IsPrefix xs ys
prefix_shorter [] ys zs p q le = (ys, refl)
prefix_shorter (x ∷ xs) [] zs p q le = absurd (omega arith)
prefix_shorter (x ∷ xs) (y ∷ ys) [] p q le = absurd (cc (p.1))
prefix_shorter (x ∷ xs) (y ∷ ys) (z ∷ zs) p q le =
    let heads : x ≡ y = cc (p.1, q.1) in
    let rest = prefix_shorter xs ys zs (p.0, cc (p.1)) (q.0, cc (q.1)) (omega arith) in
    (rest.0, cc (heads, rest.1))

-- the longer of two beginnings of one list: both begin it, and it is a beginning itself
pub longer_is : {A : Type 0} (xs ys zs : List A) → IsPrefix xs zs → IsPrefix ys zs → IsPrefix xs (longer xs ys) × IsPrefix ys (longer xs ys) × IsPrefix (longer xs ys) zs
longer_is {A} xs ys zs p q =
    let P : List A → Type 0 = λ w. IsPrefix xs w × IsPrefix ys w × IsPrefix w zs in
    dite (dec_le (length ys) (length xs))
    (λ le. subst (λ b. P (cond b ys xs)) (sym (le-ltb (length xs) (length ys) le)) (prefix_self xs, prefix_shorter ys xs zs q p le, p))
    (λ gt. let lt : length xs < length ys = omega arith in subst (λ b. P (cond b ys xs)) (sym (lt-ltb (length xs) (length ys) lt)) (prefix_shorter xs ys zs p q (omega arith), prefix_self ys, q))

module _ {E : Type 0} where
  pub past_self : (a : Option (List E)) → PastBegins a a
  past_self None = tt
  past_self (Some xs) = prefix_self xs

  pub past_trans : (a b c : Option (List E)) → PastBegins a b → PastBegins b c → PastBegins a c
  past_trans None None None p q = tt
  past_trans None None (Some zs) p q = q
  past_trans None (Some ys) c p q = absurd p
  past_trans (Some xs) None c p q = absurd p
  past_trans (Some xs) (Some ys) None p q = q
  past_trans (Some xs) (Some ys) (Some zs) p q = prefix_trans xs ys zs p q

  pub begins_self : (a : Seen E) → Begins a a
  begins_self a = record { notes = prefix_self a.notes; past = past_self a.past }

  pub begins_trans : (a b c : Seen E) → Begins a b → Begins b c → Begins a c
  begins_trans a b c p q = record { notes = prefix_trans a.notes b.notes c.notes p.notes q.notes; past = past_trans a.past b.past c.past p.past q.past }

  longer_past_is : (a b c : Option (List E)) → PastBegins a c → PastBegins b c → PastBegins (longer_past a b) c
  longer_past_is None b c p q = q
  longer_past_is (Some xs) None c p q = p
  longer_past_is (Some xs) (Some ys) None p q = q
  longer_past_is (Some xs) (Some ys) (Some zs) p q = (longer_is xs ys zs p q).2

  pub longer_begins : (a b c : Seen E) → Begins a c → Begins b c → Begins (longer_seen a b) c
  longer_begins a b c p q = record { notes = (longer_is a.notes b.notes c.notes p.notes q.notes).2; past = longer_past_is a.past b.past c.past p.past q.past }

pub entries-append : (xs ys : List Note) → entries (xs ++ ys) ≡ entries xs + entries ys
entries-append xs ys = sum_by-append (λ (n : Note). cond (is_entry n.what) 1 0) xs ys

pub entries_rise : (xs ys : List Note) → IsPrefix xs ys → entries xs ≤ entries ys
entries_rise xs ys p = omega (arith, entries-append xs p.0, ap entries p.1)

pub own-append : (k : ℕ) (xs ys : List Note) → own k (xs ++ ys) ≡ own k xs ++ own k ys
own-append k xs ys = filter-append (λ (n : Note). eqb n.owner k) xs ys

pub length_own : (k : ℕ) (xs ys : List Note) → length (own k (xs ++ ys)) ≡ length (own k xs) + length (own k ys)
length_own k xs ys = ap length (own-append k xs ys) ∙ length-append (own k xs) (own k ys)

-- another participant has none of the notes of the first
own_other : (k j : ℕ) → k ≢ j → (xs : List Note) → own k (own j xs) ≡ []
own_other k j ne [] = refl
own_other k j ne (n ∷ ns) =
    let P : Bool → Type 0 = λ b. own k (cond b (n ∷ own j ns) (own j ns)) ≡ [] in
    dite (ℕ_discrete n.owner j)
    (λ e. subst P (sym (eq-eqb n.owner j e)) (subst (λ b. cond b (n ∷ own k (own j ns)) (own k (own j ns)) ≡ []) (sym (ne_eqb n.owner k (λ h. ne (sym h ∙ e)))) (own_other k j ne ns)))
    (λ no. subst P (sym (ne_eqb n.owner j no)) (own_other k j ne ns))

pub own_none : (k j : ℕ) → k ≢ j → (xs : List Note) → AllOwnedBy j xs → own k xs ≡ []
own_none k j ne xs all = sym (ap (own k) all) ∙ own_other k j ne xs

append-none : {A : Type 0} (xs : List A) → xs ++ [] ≡ xs
append-none [] = refl
append-none (x ∷ xs) = ap (λ l. x ∷ l) (append-none xs)

-- what a step of j adds leaves the notes of k as they were
pub own_foreign : (k j : ℕ) → k ≢ j → (old added new : List Note) → new ≡ old ++ added → AllOwnedBy j added → own k new ≡ own k old
own_foreign k j ne old added new is all = ap (own k) is ∙ (own-append k old added ∙ (ap (λ l. own k old ++ l) (own_none k j ne added all) ∙ append-none (own k old)))

-- and adds all of its own
pub own_added : (j : ℕ) (old added new : List Note) → new ≡ old ++ added → AllOwnedBy j added → own j new ≡ own j old ++ added
own_added j old added new is all = ap (own j) is ∙ (own-append j old added ∙ ap (λ l. own j old ++ l) all)

-- between two beginnings with the same notes of k there are no others of k
pub own_between : (k : ℕ) (a b c : List Note) → IsPrefix a b → IsPrefix b c → own k a ≡ own k c → own k b ≡ own k c
own_between k a b c p q same =
    let none : own k q.0 ≡ [] = length_none (own k q.0) (omega (arith, length_own k a p.0, length_own k b q.0, ap (λ l. length (own k l)) p.1, ap (λ l. length (own k l)) q.1, ap length same)) in
    sym (append-none (own k b)) ∙ (ap (λ l. own k b ++ l) (sym none) ∙ (sym (own-append k b q.0) ∙ ap (own k) q.1))

-- a beginning of a log with no notes of k has none
pub own_absent : (k : ℕ) (a b : List Note) → IsPrefix a b → own k b ≡ [] → own k a ≡ []
own_absent k a b p none = length_none (own k a) (omega (arith, length_own k a p.0, ap (λ l. length (own k l)) p.1, ap length none))
