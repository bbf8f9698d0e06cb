-- Laws of a walk over the rows of a table: what is known after so many rows, and what each way out of it says.
use Rattle.std.proofs.Common.{◌≡◌, ℕ, ◌+◌, ◌<◌, ◌≤◌, List, [], ◌∷◌, ◌++◌, length, get_or, take, map, inl, inr, refl, sym, ap, ◌∙◌, subst, arith}
use Rattle.std.proofs.lemmas.List.{length-map, get_or-map, length-take-le, take_all}
use Rattle.toml.specs.Data.{Data, Members}
use Rattle.toml.specs.View.{view}
use Rattle.toml.specs.declared.value.Value.{Value}
use Rattle.tr_plan.specs.Rows.{HasRows, IsRow, AreRows, HasTable, IsTableOff}
use Rattle.tr_plan.proofs.RowLemmas.{AreRows-none, AreRows-more}

-- what stands in a row
pub row_at : (rows : List Value) (at : ℕ) (value : Value) (found : Data) → at < length rows → value ≡ get_or rows at value
    → view value ≡ get_or (map view rows) at found
row_at rows at value found within is = ap view is ∙ sym (get_or-map view rows at value found within)

module _ {V : Type 0} (Says : List V → Members → V → Type 0) where
  -- the values of the rows before this one
  abbrev pub AreSaid : List Value → ℕ → List V → Type 0
  AreSaid rows at values = AreRows Says (take at (map view rows)) values

  pub AreSaid-none : (rows : List Value) → AreSaid rows 0 []
  AreSaid-none rows = AreRows-none Says

  pub AreSaid-length : (rows : List Value) (at : ℕ) (values : List V) → at ≤ length rows → AreSaid rows at values → length values ≡ at
  AreSaid-length rows at values within are =
      omega (arith, are.size, length-take-le at (map view rows) (omega (arith, length-map rows view)))

  pub AreSaid-more : (rows : List Value) (at : ℕ) (values : List V) (value : Value) (v : V) → AreSaid rows at values → at < length rows
      → value ≡ get_or rows at value → IsRow (Says values) (view value) v → AreSaid rows (at + 1) (values ++ v ∷ [])
  AreSaid-more rows at values value v are within is says =
      AreRows-more Says (map view rows) values at v (AreSaid-length rows at values (omega arith) are) (omega (arith, length-map rows view)) are
      (λ found. subst (λ (d : Data). IsRow (Says values) d v) (row_at rows at value found within is) says)

  -- the whole table
  pub AreSaid-all : (ms : Members) (key : List ℕ) (rows : List Value) (at : ℕ) (values : List V) → HasRows ms key (map view rows)
      → AreSaid rows at values → length rows ≤ at → HasTable Says ms key values
  AreSaid-all ms key rows at values there are all = record {
    rows = map view rows;
    there = there;
    said = subst (λ (ds : List Data). AreRows Says ds values) (take_all at (map view rows) (omega (arith, length-map rows view))) are;
  }

  module _ {K : Type 0} (number_of : K → ℕ) (IsOff : List V → Data → K → Type 0) where
    -- no array stands at the key
    pub table_no_array : (ms : Members) (key : List ℕ) → ((rows : List Data) → HasRows ms key rows → ⊥)
        → IsTableOff number_of Says IsOff ms key 0 0
    table_no_array ms key none = inl (none, refl, refl)

    -- this row is off
    pub table_row_off : (ms : Members) (key : List ℕ) (rows : List Value) (at : ℕ) (values : List V) (value : Value) (place number : ℕ) (first : K)
        → HasRows ms key (map view rows) → AreSaid rows at values → at < length rows → value ≡ get_or rows at value → place ≡ at + 1
        → number ≡ number_of first → IsOff values (view value) first → IsTableOff number_of Says IsOff ms key place number
    table_row_off ms key rows at values value place number first there are within is here numbered off =
        let long : length values ≡ at = AreSaid-length rows at values (omega arith) are in
        inr (record {
          rows = map view rows;
          first = first;
          there = there;
          off = record {
            earlier = values;
            here = omega arith;
            within = omega (arith, length-map rows view);
            said = subst (λ (n : ℕ). AreRows Says (take n (map view rows)) values) (sym long) are;
            off = λ found. subst (λ (d : Data). IsOff values d first)
                (row_at rows at value found within is ∙ ap (λ (n : ℕ). get_or (map view rows) n found) (sym long)) off;
          };
          numbered = numbered;
        })
