-- Laws of rows and of the values that they say.
use Rattle.std.proofs.Common.{◌≡◌, ℕ, zero, suc, ◌+◌, ◌<◌, ◌≤◌, List, [], ◌∷◌, ◌++◌, length, get_or, take, Some, None, inl, inr, refl, sym, ap, ◌∙◌, subst, arith}
use Rattle.std.proofs.Math.ListN.{get_or-append}
use Rattle.std.proofs.Math.Seq.{get_or-append_seam}
use Rattle.std.proofs.lemmas.Bool.{cases_order, cases_lt}
use Rattle.std.proofs.lemmas.List.{length_push, nil_from_length, take_all, take_at, take-take, take-append-le, get_or-take, length-take-le, take_more_same}
use Rattle.std.proofs.lemmas.Option.{same_Some}
use Rattle.toml.specs.Data.{Data, no_items, Members, string, integer, float, boolean, datetime, array, table, as_table}
use Rattle.toml.specs.View.{items_of}
use Rattle.toml_fields.specs.Answering.{IsFirstOff}
use Rattle.toml_fields.proofs.FirstOff.{AreSound, first_off-sound, first_off-unique}
use Rattle.tr_plan.specs.Rows.{HasRows, IsRow, IsRowOff, AreRows, IsRowsOff, HasTable, IsTableOff}

-- an array is one list of values
pub items_of-injective : (xs ys : List Data) → items_of xs ≡ items_of ys → xs ≡ ys
items_of-injective [] [] same = refl
items_of-injective [] (y ∷ ys) same = absurd (cc)
items_of-injective (x ∷ xs) [] same = absurd (cc)
items_of-injective (x ∷ xs) (y ∷ ys) same =
    let heads : x ≡ y = cc in
    let tails : items_of xs ≡ items_of ys = cc in
    ap (λ d. d ∷ xs) heads ∙ ap (λ ds. y ∷ ds) (items_of-injective xs ys tails)

pub HasRows-unique : (ms : Members) (key : List ℕ) (rows others : List Data) → HasRows ms key rows → HasRows ms key others → rows ≡ others
HasRows-unique ms key rows others (inl none) (inl nothing) = none.1 ∙ sym nothing.1
HasRows-unique ms key rows others (inl none) (inr there) = let same = sym none.0 ∙ there in absurd (cc)
HasRows-unique ms key rows others (inr there) (inl none) = let same = sym none.0 ∙ there in absurd (cc)
HasRows-unique ms key rows others (inr here) (inr there) =
    let same : Some (array (items_of rows)) ≡ Some (array (items_of others)) = sym here ∙ there in
    let items : items_of rows ≡ items_of others = cc in
    items_of-injective rows others items

-- a table is one list of members
pub table-injective : (ms ns : Members) → table ms ≡ table ns → ms ≡ ns
table-injective ms ns same = cc

pub blank : Data
blank = array no_items

module _ {V : Type 0} (Says : List V → Members → V → Type 0) where
  pub AreRows-none : AreRows Says [] []
  AreRows-none = record { size = refl; each = λ k found value within. absurd (omega arith) }

  -- one row more
  pub AreRows-more : (rows : List Data) (values : List V) (at : ℕ) (value : V) → length values ≡ at → at < length rows
      → AreRows Says (take at rows) values → ((found : Data) → IsRow (Says values) (get_or rows at found) value)
      → AreRows Says (take (at + 1) rows) (values ++ value ∷ [])
  AreRows-more rows values at value long within are says =
      let longer : length (take (at + 1) rows) ≡ at + 1 = length-take-le (at + 1) rows (omega arith) in
      let more : length (values ++ value ∷ []) ≡ length values + 1 = length_push values value in
      record {
        size = omega arith;
        each = λ k found other there. elim (cases_lt k at) [
          | inl before ↦
              let fronts : take k (values ++ value ∷ []) ≡ take k values = take-append-le k values (value ∷ []) (omega arith) in
              let rows_same : get_or (take (at + 1) rows) k found ≡ get_or (take at rows) k found =
              get_or-take (at + 1) rows k found (omega arith) ∙ sym (get_or-take at rows k found before) in
              let values_same : get_or (values ++ value ∷ []) k other ≡ get_or values k other = get_or-append values (value ∷ []) other k (omega arith) in
              rw (fronts, rows_same, values_same) (are.each k found other (omega (arith, length-take-le at rows (omega arith))))
          | inr behind ↦
              let here : k ≡ length values = omega arith in
              let fronts : take k (values ++ value ∷ []) ≡ values = take_at values (value ∷ []) k (sym here) in
              let rows_same : get_or (take (at + 1) rows) k found ≡ get_or rows at found =
              get_or-take (at + 1) rows k found (omega arith) ∙ ap (λ n. get_or rows n found) (omega arith) in
              let values_same : get_or (values ++ value ∷ []) k other ≡ value =
              ap (λ n. get_or (values ++ value ∷ []) n other) here ∙ get_or-append_seam values value [] other in
              rw (fronts, rows_same, values_same) (says found)
        ];
      }

  -- the values of the rows in front
  pub AreRows-take : (rows : List Data) (values : List V) (count : ℕ) → count ≤ length rows → AreRows Says rows values
      → AreRows Says (take count rows) (take count values)
  AreRows-take rows values count few are =
      let shorter : length (take count rows) ≡ count = length-take-le count rows few in
      let fewer : length (take count values) ≡ count = length-take-le count values (omega (arith, are.size)) in
      record {
        size = omega arith;
        each = λ k found value there.
            rw (take-take k count values (omega arith), get_or-take count rows k found (omega arith), get_or-take count values k value (omega arith))
            (are.each k found value (omega arith));
      }

-- tables whose rows say one value each
module _ {V : Type 0} (Says : List V → Members → V → Type 0)
    (alone : (earlier : List V) (row : Members) (v w : V) → Says earlier row v → Says earlier row w → v ≡ w) where
  pub IsRow-unique : (earlier : List V) (found : Data) (v w : V) → IsRow (Says earlier) found v → IsRow (Says earlier) found w → v ≡ w
  IsRow-unique earlier found v w (row, is_v, says_v) (other, is_w, says_w) =
      alone earlier other v w (subst (λ r. Says earlier r v) (table-injective row other (sym is_v ∙ is_w)) says_v) says_w

  fronts_same : (rows : List Data) (values others : List V) (d : V) (count : ℕ) → count ≤ length rows → AreRows Says rows values
      → AreRows Says rows others → take count values ≡ take count others
  fronts_same rows values others d zero few are are_others = refl
  fronts_same rows values others d (suc count) few are are_others =
      let before = fronts_same rows values others d count (omega arith) are are_others in
      let here = are.each count blank d (omega arith) in
      let there = subst (λ front. IsRow (Says front) (get_or rows count blank) (get_or others count d)) (sym before) (are_others.each count blank d (omega arith)) in
      let next : suc count ≡ count + 1 = omega arith in
      ap (λ n. take n values) next
      ∙ take_more_same values others count d (omega (arith, are.size)) (omega (arith, are_others.size)) before
      (IsRow-unique (take count values) (get_or rows count blank) (get_or values count d) (get_or others count d) here there)
      ∙ ap (λ n. take n others) (sym next)

  -- rows say one list of values
  pub AreRows-unique : (rows : List Data) (values others : List V) → AreRows Says rows values → AreRows Says rows others → values ≡ others
  AreRows-unique rows [] others are are_others = sym (nil_from_length others (omega (arith, are.size, are_others.size)))
  AreRows-unique rows (v ∷ values) others are are_others =
      sym (take_all (length rows) (v ∷ values) (omega (arith, are.size)))
      ∙ fronts_same rows (v ∷ values) others v (length rows) (omega arith) are are_others
      ∙ take_all (length rows) others (omega (arith, are_others.size))

  module _ {K : Type 0} (IsOff : List V → Data → K → Type 0)
      (conflict : (earlier : List V) (found : Data) (v : V) (key : K) → IsRow (Says earlier) found v → IsOff earlier found key → ⊥)
      (off_alone : (earlier : List V) (found : Data) (key other : K) → IsOff earlier found key → IsOff earlier found other → key ≡ other) where
    -- rows that say values are nowhere off
    pub no_rows_off : (rows : List Data) (values : List V) (place : ℕ) (key : K) → AreRows Says rows values → IsRowsOff Says IsOff rows place key → ⊥
    no_rows_off rows [] place key are off = omega (arith, are.size, off.within)
    no_rows_off rows (v ∷ values) place key are off =
        let at : ℕ = length off.earlier in
        let within = off.within in
        let same : take at (v ∷ values) ≡ off.earlier =
        AreRows-unique (take at rows) (take at (v ∷ values)) off.earlier (AreRows-take Says rows (v ∷ values) at (omega arith) are) off.said in
        conflict off.earlier (get_or rows at blank) (get_or (v ∷ values) at v) key
        (subst (λ front. IsRow (Says front) (get_or rows at blank) (get_or (v ∷ values) at v)) same (are.each at blank v within)) (off.off blank)

    -- the rows before the one that is off are off nowhere
    off_in_front : (rows : List Data) (place : ℕ) (key : K) (count : ℕ) → count ≤ length rows → (off : IsRowsOff Says IsOff rows place key)
        → length off.earlier < count → IsRowsOff Says IsOff (take count rows) place key
    off_in_front rows place key count few off before = record {
      earlier = off.earlier;
      here = off.here;
      within = omega (arith, length-take-le count rows few);
      said = rw (take-take (length off.earlier) count rows (omega arith)) off.said;
      off = λ found. rw (get_or-take count rows (length off.earlier) found before) (off.off found);
    }

    pub IsRowsOff-unique : (rows : List Data) (place other_place : ℕ) (key other : K) → IsRowsOff Says IsOff rows place key
        → IsRowsOff Says IsOff rows other_place other → (place ≡ other_place) × (key ≡ other)
    IsRowsOff-unique rows place other_place key other a b =
        let within_a = a.within in
        let within_b = b.within in
        elim (cases_order (length a.earlier) (length b.earlier)) [
          | inl same ↦
              let fronts : a.earlier ≡ b.earlier =
              AreRows-unique (take (length a.earlier) rows) a.earlier b.earlier a.said (subst (λ n. AreRows Says (take n rows) b.earlier) (sym same) b.said) in
              let off_a : IsOff b.earlier (get_or rows (length b.earlier) blank) key =
              subst (λ n. IsOff b.earlier (get_or rows n blank) key) same (subst (λ front. IsOff front (get_or rows (length a.earlier) blank) key) fronts (a.off blank)) in
              (omega (arith, a.here, b.here), off_alone b.earlier (get_or rows (length b.earlier) blank) key other off_a (b.off blank))
          | inr order ↦ elim order [
            | inl less ↦ absurd (no_rows_off (take (length b.earlier) rows) b.earlier place key b.said (off_in_front rows place key (length b.earlier) (omega arith) a less))
            | inr more ↦ absurd (no_rows_off (take (length a.earlier) rows) a.earlier other_place other a.said (off_in_front rows other_place other (length a.earlier) (omega arith) b more))
          ]
        ]

    module _ (number_of : K → ℕ) (ms : Members) (key : List ℕ) where
      pub HasTable-unique : (values others : List V) → HasTable Says ms key values → HasTable Says ms key others → values ≡ others
      HasTable-unique values others has has_others =
          AreRows-unique has_others.rows values others
          (subst (λ rows. AreRows Says rows values) (HasRows-unique ms key has.rows has_others.rows has.there has_others.there) has.said) has_others.said

      -- a table that says values is nowhere off
      pub no_table_off : (values : List V) (place number : ℕ) → HasTable Says ms key values → IsTableOff number_of Says IsOff ms key place number → ⊥
      no_table_off values place number has (inl none) = none.0 has.rows has.there
      no_table_off values place number has (inr off) =
          no_rows_off off.rows values place off.first
          (subst (λ rows. AreRows Says rows values) (HasRows-unique ms key has.rows off.rows has.there off.there) has.said) off.off

      -- a table is off in one place
      pub IsTableOff-unique : (place other_place number other : ℕ) → IsTableOff number_of Says IsOff ms key place number
          → IsTableOff number_of Says IsOff ms key other_place other → (place ≡ other_place) × (number ≡ other)
      IsTableOff-unique place other_place number other (inl a) (inl b) = (a.1 ∙ sym b.1, a.2 ∙ sym b.2)
      IsTableOff-unique place other_place number other (inl a) (inr b) = absurd (a.0 b.rows b.there)
      IsTableOff-unique place other_place number other (inr a) (inl b) = absurd (b.0 a.rows a.there)
      IsTableOff-unique place other_place number other (inr a) (inr b) =
          let same = HasRows-unique ms key a.rows b.rows a.there b.there in
          let both = IsRowsOff-unique b.rows place other_place a.first b.first (subst (λ rows. IsRowsOff Says IsOff rows place a.first) same a.off) b.off in
          (both.0, a.numbered ∙ ap number_of both.1 ∙ sym b.numbered)

-- rows of which each key is looked at
module _ {V K : Type 0} (Says : Members → V → Type 0) (IsSound : Members → K → Type 0) (keys : List K) (other : K)
    (sound : (row : Members) (v : V) → Says row v → AreSound (IsSound row) keys) where
  pub no_key_off : (found : Data) (v : V) (key : K) → IsRow Says found v → IsRowOff IsSound keys other found key → ⊥
  no_key_off found v key (row, is, says) (inl (off_row, is_off, off)) =
      first_off-sound (IsSound off_row) keys key
      (sound off_row v (subst (λ r. Says r v) (table-injective row off_row (sym is ∙ is_off)) says)) off
  no_key_off found v key (row, is, says) (inr none) = none.0 row is

pub IsRowOff-unique : {K : Type 0} (IsSound : Members → K → Type 0) (keys : List K) (other : K) (found : Data) (a b : K)
    → IsRowOff IsSound keys other found a → IsRowOff IsSound keys other found b → a ≡ b
IsRowOff-unique IsSound keys other found a b (inl (row, is, off)) (inl (other_row, is_other, other_off)) =
    first_off-unique (IsSound other_row) keys a b (subst (λ r. IsFirstOff (IsSound r) keys a) (table-injective row other_row (sym is ∙ is_other)) off) other_off
IsRowOff-unique IsSound keys other found a b (inl (row, is, off)) (inr none) = absurd (none.0 row is)
IsRowOff-unique IsSound keys other found a b (inr none) (inl (row, is, off)) = absurd (none.0 row is)
IsRowOff-unique IsSound keys other found a b (inr none) (inr nothing) = none.1 ∙ sym nothing.1

-- what the look-up of a table says of a value
pub table_found : (found : Data) (row : Members) → Some row ≡ as_table found → found ≡ table row
table_found (string s) row is = absurd (cc)
table_found (integer z) row is = absurd (cc)
table_found (float x) row is = absurd (cc)
table_found (boolean b) row is = absurd (cc)
table_found (datetime t) row is = absurd (cc)
table_found (array ds) row is = absurd (cc)
table_found (table ms) row is = ap table (sym (same_Some row ms is))

pub no_table_found : (found : Data) → None ≡ as_table found → (row : Members) → found ≡ table row → ⊥
no_table_found found none row is = let same : None ≡ Some row = none ∙ ap as_table is in cc
