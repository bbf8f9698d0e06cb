-- What is found in the rows of origins, and what an edit of the rows does to it.
use Rattle.std.proofs.Common.{◌≡◌, ◌≢◌, ℕ, zero, suc, ◌<◌, ◌≤◌, ◌==◌, ◌⊎◌, cond, if◌then◌else◌, Bool, true, false, List, [], ◌∷◌, ◌++◌, length, get_or, set, position, Some, None, refl, sym, ap, ◌∙◌, arith}
use Rattle.std.proofs.lemmas.Bool.{false≢true, eqb-true, eq-eqb}
use Rattle.std.proofs.lemmas.Bool.Decides.{nat_tests}
use Rattle.std.proofs.lemmas.List.Quantifiers.{position-Some}
use Rattle.rep_core.specs.Numbers.{number_of, SetsOnly}
use Rattle.rep_core.specs.Index.{number_in, room_in, SetsPair}
use Rattle.rep_core.specs.declared.row.Row.{Row}
use Rattle.rep_core.proofs.Lookups.{position-None}

-- the test for an origin
abbrev pub is_of : ℕ → Row → Bool
is_of origin row = row.origin == origin

-- the row at the place is the first of the origin
pub record IsRowAt (rows : List Row) (origin i : ℕ) : Type 0 where
  pub in_range : i < length rows
  pub here : (d : Row) → is_of origin (get_or rows i d) ≡ true
  pub first : (d : Row) (k : ℕ) → k < i → is_of origin (get_or rows k d) ≡ false

pub row_at : (rows : List Row) (origin i : ℕ) → position (is_of origin) rows ≡ Some i → IsRowAt rows origin i
row_at [] origin i at = absurd cc
row_at (row ∷ rows) origin i at = record {
  in_range = (position-Some (is_of origin) (row ∷ rows) i row at).0;
  here = λ d. (position-Some (is_of origin) (row ∷ rows) i d at).1;
  first = λ d. (position-Some (is_of origin) (row ∷ rows) i d at).2;
}

row_below : (row : Row) (rows : List Row) (origin i : ℕ) → IsRowAt (row ∷ rows) origin (suc i) → IsRowAt rows origin i
row_below row rows origin i at = record {
  in_range = omega (arith, at.in_range);
  here = at.here;
  first = λ d k less. at.first d (suc k) (omega arith);
}

-- where no row is of the origin
abbrev pub IsNoOrigin : ℕ → List Row → Type 0
IsNoOrigin origin rows = (d : Row) (k : ℕ) → k < length rows → is_of origin (get_or rows k d) ≡ false

pub no_row : (rows : List Row) (origin : ℕ) → position (is_of origin) rows ≡ None → IsNoOrigin origin rows
no_row rows origin none = λ d k inside. position-None (is_of origin) rows none k d inside

none_below : (row : Row) (rows : List Row) (origin : ℕ) → IsNoOrigin origin (row ∷ rows) → IsNoOrigin origin rows
none_below row rows origin none = λ d k inside. none d (suc k) (omega arith)

chosen : {X : Type 0} (b : Bool) (x y : X) → b ≡ true → cond b x y ≡ x
chosen true x y is = refl
chosen false x y is = absurd (false≢true is)

passed : {X : Type 0} (b : Bool) (x y : X) → b ≡ false → cond b x y ≡ y
passed true x y is = absurd (false≢true (sym is))
passed false x y is = refl

pub number_in-none : (rows : List Row) (origin seq : ℕ) → IsNoOrigin origin rows → number_in rows origin seq ≡ None
number_in-none [] origin seq none = refl
number_in-none (row ∷ rows) origin seq none =
    passed (is_of origin row) (number_of row.numbers.pairs seq) (number_in rows origin seq) (none row 0 (omega arith))
    ∙ number_in-none rows origin seq (none_below row rows origin none)

pub room_in-none : (rows : List Row) (origin : ℕ) → IsNoOrigin origin rows → room_in rows origin ≡ 0
room_in-none [] origin none = refl
room_in-none (row ∷ rows) origin none =
    passed (is_of origin row) row.numbers.room (room_in rows origin) (none row 0 (omega arith))
    ∙ room_in-none rows origin (none_below row rows origin none)

pub number_in-at : (rows : List Row) (origin seq i : ℕ) (d : Row) → IsRowAt rows origin i → number_in rows origin seq ≡ number_of (get_or rows i d).numbers.pairs seq
number_in-at [] origin seq i d at = absurd (omega (arith, at.in_range))
number_in-at (row ∷ rows) origin seq zero d at =
    chosen (is_of origin row) (number_of row.numbers.pairs seq) (number_in rows origin seq) (at.here d)
number_in-at (row ∷ rows) origin seq (suc i) d at =
    passed (is_of origin row) (number_of row.numbers.pairs seq) (number_in rows origin seq) (at.first d 0 (omega arith))
    ∙ number_in-at rows origin seq i d (row_below row rows origin i at)

pub room_in-at : (rows : List Row) (origin i : ℕ) (d : Row) → IsRowAt rows origin i → room_in rows origin ≡ (get_or rows i d).numbers.room
room_in-at [] origin i d at = absurd (omega (arith, at.in_range))
room_in-at (row ∷ rows) origin zero d at = chosen (is_of origin row) row.numbers.room (room_in rows origin) (at.here d)
room_in-at (row ∷ rows) origin (suc i) d at =
    passed (is_of origin row) row.numbers.room (room_in rows origin) (at.first d 0 (omega arith))
    ∙ room_in-at rows origin i d (row_below row rows origin i at)

-- another row of the origin in its place
pub number_in-set : (rows : List Row) (origin i : ℕ) (new : Row) → IsRowAt rows origin i → new.origin ≡ origin → (o s : ℕ) → number_in (set rows i new) o s ≡ (if o == origin then number_of new.numbers.pairs s else number_in rows o s)
number_in-set [] origin i new at same o s = absurd (omega (arith, at.in_range))
number_in-set (row ∷ rows) origin zero new at same o s = let here = at.here row in grind (arith, nat_tests)
number_in-set (row ∷ rows) origin (suc i) new at same o s =
    let first = at.first row 0 (omega arith) in
    let below = number_in-set rows origin i new (row_below row rows origin i at) same o s in
    grind (arith, nat_tests)

pub room_in-set : (rows : List Row) (origin i : ℕ) (new : Row) → IsRowAt rows origin i → new.origin ≡ origin → room_in (set rows i new) origin ≡ new.numbers.room
room_in-set [] origin i new at same = absurd (omega (arith, at.in_range))
room_in-set (row ∷ rows) origin zero new at same =
    chosen (is_of origin new) new.numbers.room (room_in rows origin) (eq-eqb new.origin origin same)
room_in-set (row ∷ rows) origin (suc i) new at same =
    passed (is_of origin row) row.numbers.room (room_in (set rows i new) origin) (at.first row 0 (omega arith))
    ∙ room_in-set rows origin i new (row_below row rows origin i at) same

-- a row of an origin that had none behind the others
pub number_in-push : (rows : List Row) (new : Row) → IsNoOrigin new.origin rows → new.numbers.pairs ≡ [] → (o s : ℕ) → number_in (rows ++ new ∷ []) o s ≡ number_in rows o s
number_in-push [] new none empty o s =
    let nothing : number_of new.numbers.pairs s ≡ None = ap (λ (l : List (ℕ × ℕ)). number_of l s) empty in
    grind (arith, nat_tests)
number_in-push (row ∷ rows) new none empty o s =
    let below = number_in-push rows new (none_below row rows new.origin none) empty o s in
    grind (arith, nat_tests)

pub room_in-push : (rows : List Row) (new : Row) → IsNoOrigin new.origin rows → room_in (rows ++ new ∷ []) new.origin ≡ new.numbers.room
room_in-push [] new none = chosen (is_of new.origin new) new.numbers.room 0 (eq-eqb new.origin new.origin refl)
room_in-push (row ∷ rows) new none =
    passed (is_of new.origin row) row.numbers.room (room_in (rows ++ new ∷ []) new.origin) (none row 0 (omega arith))
    ∙ room_in-push rows new (none_below row rows new.origin none)

-- a row's number that is set is that of a pair
pub SetsPair-row : (rows : List Row) (origin seq number i : ℕ) (old new : Row) → IsRowAt rows origin i → old ≡ get_or rows i old → new.origin ≡ origin → SetsOnly old.numbers.pairs new.numbers.pairs seq number → SetsPair rows (set rows i new) origin seq number
SetsPair-row rows origin seq number i old new at read same sets =
    let finds = number_in-set rows origin i new at same in
    record {
      this_pair = finds origin seq ∙ chosen (origin == origin) (number_of new.numbers.pairs seq) (number_in rows origin seq) (eq-eqb origin origin refl) ∙ sets.this_key;
      other_pairs = λ o s differs. other o s differs;
    }
  where
    before : (s : ℕ) → number_in rows origin s ≡ number_of old.numbers.pairs s
    before s = number_in-at rows origin s i old at ∙ ap (λ (r : Row). number_of r.numbers.pairs s) (sym read)

    other : (o s : ℕ) → (o ≢ origin) ⊎ (s ≢ seq) → number_in (set rows i new) o s ≡ number_in rows o s
    other o s differs =
        let finds = number_in-set rows origin i new at same o s in
        let own = before s in
        let kept = sets.other_keys s in
        grind (arith, nat_tests)

-- the row that is read there is of the origin
pub row_origin : (rows : List Row) (origin i : ℕ) (row : Row) → IsRowAt rows origin i → row ≡ get_or rows i row → row.origin ≡ origin
row_origin rows origin i row at read = ap (λ (r : Row). r.origin) read ∙ eqb-true (get_or rows i row).origin origin (at.here row)

-- a row with the same numbers changes nothing
pub number_in-same : (rows : List Row) (origin i : ℕ) (old new : Row) → IsRowAt rows origin i → old ≡ get_or rows i old → new.origin ≡ origin → new.numbers.pairs ≡ old.numbers.pairs → (o s : ℕ) → number_in (set rows i new) o s ≡ number_in rows o s
number_in-same rows origin i old new at read same kept o s =
    let finds = number_in-set rows origin i new at same o s in
    let before : number_in rows origin s ≡ number_of new.numbers.pairs s =
    number_in-at rows origin s i old at ∙ ap (λ (r : Row). number_of r.numbers.pairs s) (sym read) ∙ ap (λ (l : List (ℕ × ℕ)). number_of l s) (sym kept) in
    grind (arith, nat_tests)

-- what each origin has room for once a row is another
room_in-set-each : (rows : List Row) (origin i : ℕ) (new : Row) → IsRowAt rows origin i → new.origin ≡ origin → (o : ℕ) → room_in (set rows i new) o ≡ (if o == origin then new.numbers.room else room_in rows o)
room_in-set-each [] origin i new at same o = absurd (omega (arith, at.in_range))
room_in-set-each (row ∷ rows) origin zero new at same o = let here = at.here row in grind (arith, nat_tests)
room_in-set-each (row ∷ rows) origin (suc i) new at same o =
    let first = at.first row 0 (omega arith) in
    let below = room_in-set-each rows origin i new (row_below row rows origin i at) same o in
    grind (arith, nat_tests)

-- a row that has no less room leaves no origin less
pub room_in-kept : (rows : List Row) (origin i : ℕ) (old new : Row) → IsRowAt rows origin i → old ≡ get_or rows i old → new.origin ≡ origin → old.numbers.room ≤ new.numbers.room → (o : ℕ) → room_in rows o ≤ room_in (set rows i new) o
room_in-kept rows origin i old new at read same more o =
    let finds = room_in-set-each rows origin i new at same o in
    let before : room_in rows origin ≡ old.numbers.room = room_in-at rows origin i old at ∙ ap (λ (r : Row). r.numbers.room) (sym read) in
    grind (arith, nat_tests)

-- a row behind the others leaves no origin less
pub room_in-pushed : (rows : List Row) (new : Row) (o : ℕ) → room_in rows o ≤ room_in (rows ++ new ∷ []) o
room_in-pushed [] new o = omega arith
room_in-pushed (row ∷ rows) new o =
    let below = room_in-pushed rows new o in
    grind (arith, nat_tests)
