-- The tables `disregard` of a plan file: clockings that don't count, each with its reason (records 05 with mark D of an
-- AEJ, Portaria MTP 671/2021, annex VI). The format is this project's own.
use Rattle.std.specs.Prelude.{◌≡◌, ◌≢◌, ◌<◌, ◌≤◌, ℕ, List, [], ◌∷◌, ◌++◌, length, slice_index_or, codes, map, All}
use Rattle.toml.specs.Data.{Data, Members}
use Rattle.toml_fields.specs.Table.{HasOnly}
use Rattle.toml_fields.specs.Fields.{HasNumber}
use Rattle.tr_plan.specs.Fields.{IsPlain, HasPlain}
use Rattle.tr_plan.specs.Rows.{HasTable, IsRowOff, IsTableOff}
use Rattle.tr_plan.specs.declared.disregard.Disregard.{Disregard}
use Rattle.tr_plan.specs.declared.disregard.DisregardKey.{DisregardKey}
use Rattle.tr_plan.specs.declared.disregard.DisregardKey.TheVariants.{Nsr, Reason, Unknown}

abbrev pub disregard_number : DisregardKey → ℕ
disregard_number Nsr = 1
disregard_number Reason = 2
disregard_number Unknown = 0

abbrev pub disregard_key_text : DisregardKey → List ℕ
disregard_key_text Nsr = codes "nsr"
disregard_key_text Reason = codes "reason"
disregard_key_text Unknown = []

abbrev pub disregard_keys : List DisregardKey
disregard_keys = Nsr ∷ Reason ∷ []

abbrev pub disregard_key_texts : List (List ℕ)
disregard_key_texts = map disregard_key_text disregard_keys

abbrev pub disregard_looked_at : List DisregardKey
disregard_looked_at = disregard_keys ++ Unknown ∷ []

-- the greatest number of a record: nine digits, as on the lines of an AFD
abbrev pub greatest_nsr : ℕ
greatest_nsr = 999999999

-- what each key says. A number isn't used before
abbrev pub IsNewNsr : List Disregard → ℕ → Type 0
IsNewNsr earlier nsr = All (λ disregard. disregard.nsr ≢ nsr) earlier

abbrev pub SaysNsr : List Disregard → Members → ℕ → Type 0
SaysNsr earlier row nsr = HasNumber 1 greatest_nsr row (disregard_key_text Nsr) nsr × IsNewNsr earlier nsr

abbrev pub SaysReason : Members → List ℕ → Type 0
SaysReason row reason = HasPlain 1 150 row (disregard_key_text Reason) reason

-- the row says the disregard, after those before it
pub record IsDisregardOf (earlier : List Disregard) (row : Members) (disregard : Disregard) : Type 0 where
  pub nsr : SaysNsr earlier row disregard.nsr
  pub reason : SaysReason row disregard.reason
  pub known : HasOnly disregard_key_texts row

abbrev pub IsDisregardKeySound : List Disregard → Members → DisregardKey → Type 0
IsDisregardKeySound earlier row Nsr = (nsr : ℕ) × SaysNsr earlier row nsr
IsDisregardKeySound earlier row Reason = (reason : List ℕ) × SaysReason row reason
IsDisregardKeySound earlier row Unknown = HasOnly disregard_key_texts row

abbrev pub IsDisregardOff : List Disregard → Data → DisregardKey → Type 0
IsDisregardOff earlier = IsRowOff (IsDisregardKeySound earlier) disregard_looked_at Unknown

abbrev pub HasDisregards : Members → List Disregard → Type 0
HasDisregards members disregards = HasTable IsDisregardOf members (codes "disregard") disregards

abbrev pub AreDisregardsOff : Members → ℕ → ℕ → Type 0
AreDisregardsOff members place number =
    IsTableOff disregard_number IsDisregardOf IsDisregardOff members (codes "disregard") place number

-- the disregard at the place names the number
pub record IsDropOf (disregards : List Disregard) (nsr place : ℕ) : Type 0 where
  pub within : place < length disregards
  pub names : (disregard : Disregard) → (slice_index_or disregards place disregard).nsr ≡ nsr

-- a disregard that its reader can give
pub record IsDisregard (disregard : Disregard) : Type 0 where
  pub some_nsr : 1 ≤ disregard.nsr
  pub nsr : disregard.nsr ≤ greatest_nsr
  pub reason : IsPlain 1 150 disregard.reason
