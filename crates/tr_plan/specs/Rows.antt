-- The rows of a table of a plan file, and the values that they say. A row may depend on the rows before it.
use Rattle.std.specs.Prelude.{◌≡◌, ℕ, ◌+◌, ◌<◌, ◌⊎◌, List, [], length, take, slice_index_or}
use Rattle.toml.specs.Data.{Data, Members, table}
use Rattle.toml.specs.View.{items_of}
use Rattle.toml_fields.specs.Answering.{IsFirstOff}
use Rattle.toml_fields.specs.Table.{IsMissing, HasArray}

-- the most rows of a list
abbrev pub most_rows : ℕ
most_rows = 268435456

-- the rows that stand at the key: an array, and none where the key is missing
abbrev pub HasRows : Members → List ℕ → List Data → Type 0
HasRows members key rows =
    (IsMissing members key × (rows ≡ [])) ⊎ HasArray members key (items_of rows)

-- something stands at the key that isn't an array
abbrev pub IsNoArray : Members → List ℕ → Type 0
IsNoArray members key = (rows : List Data) → HasRows members key rows → ⊥

-- the row is a table that says the value
abbrev pub IsRow : {V : Type 0} → (Members → V → Type 0) → Data → V → Type 0
IsRow Says found value = (row : Members) × (found ≡ table row) × Says row value

-- the first key of the row that is off; `other` where the row is no table
abbrev pub IsRowOff : {K : Type 0} → (Members → K → Type 0) → List K → K → Data → K → Type 0
IsRowOff IsSound keys other found first =
    ((row : Members) × (found ≡ table row) × IsFirstOff (IsSound row) keys first)
    ⊎ (((row : Members) → found ≡ table row → ⊥) × (first ≡ other))

-- each row says the value at its place, after the values before it
pub record AreRows {V : Type 0} (Says : List V → Members → V → Type 0) (rows : List Data) (values : List V) : Type 0 where
  pub size : length rows ≡ length values
  pub each : (k : ℕ) (found : Data) (value : V) → k < length rows
      → IsRow (Says (take k values)) (slice_index_or rows k found) (slice_index_or values k value)

-- a key of the row at the place, counted from 1, is off, and the rows before it say values
pub record IsRowsOff {V K : Type 0} (Says : List V → Members → V → Type 0) (IsOff : List V → Data → K → Type 0)
    (rows : List Data) (place : ℕ) (key : K) : Type 0 where
  pub earlier : List V
  pub here : place ≡ length earlier + 1
  pub within : length earlier < length rows
  pub said : AreRows Says (take (length earlier) rows) earlier
  pub off : (found : Data) → IsOff earlier (slice_index_or rows (length earlier) found) key

-- the table at the key says the values
pub record HasTable {V : Type 0} (Says : List V → Members → V → Type 0) (members : Members) (key : List ℕ) (values : List V) : Type 0 where
  pub rows : List Data
  pub there : HasRows members key rows
  pub said : AreRows Says rows values

-- where the table at the key is off: the place of the first row that is off, and the number of its key; both are 0
-- where no array stands there
pub record IsTableOffAt {V K : Type 0} (number_of : K → ℕ) (Says : List V → Members → V → Type 0) (IsOff : List V → Data → K → Type 0)
    (members : Members) (key : List ℕ) (place number : ℕ) : Type 0 where
  pub rows : List Data
  pub first : K
  pub there : HasRows members key rows
  pub off : IsRowsOff Says IsOff rows place first
  pub numbered : number ≡ number_of first

abbrev pub IsTableOff : {V K : Type 0} → (K → ℕ) → (List V → Members → V → Type 0) → (List V → Data → K → Type 0) → Members → List ℕ → ℕ → ℕ → Type 0
IsTableOff number_of Says IsOff members key place number =
    (IsNoArray members key × (place ≡ 0) × (number ≡ 0)) ⊎ IsTableOffAt number_of Says IsOff members key place number
