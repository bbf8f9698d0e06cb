-- Where an id, a number, a code or a first day stands among the rows read so far.
use Rattle.std.specs.Prelude.{◌≡◌, ◌<◌, ◌↔◌, ℕ, true, List, length, slice_index_or, All, Any, AllPairs, Some, IsSome}
use Rattle.std.specs.BTreeMap as tree
use Rattle.std.specs.BTreeMap.{BTreeMap}
use Rattle.std.specs.BTreeSet.{BTreeSet, contains}
use Rattle.std.specs.Cmp.Lexicographic.{slice_cmp}
use Rattle.std.specs.Ordering.{nat_cmp, ordering_then}
use Rattle.std.specs.declared.cmp.Ordering.{Ordering}
use Rattle.rep_fields.specs.Latin.{IsText, padded}
use Rattle.tr_plan.specs.Link.{BeginsFirst, AreApart}
use Rattle.tr_plan.specs.declared.disregard.Disregard.{Disregard}
use Rattle.tr_plan.specs.declared.link.Link.{Link}
use Rattle.tr_plan.specs.declared.schedule.Schedule.{Schedule}

-- the map has the place of each row, counted from 0, by the row's key
pub record HasPlacesBy {X K : Type 0} (cmp : K → K → Ordering) (key : X → K) (places : BTreeMap K ℕ) (rows : List X) : Type 0 where
  pub known : (k : K) → Any (λ row. key row ≡ k) rows → IsSome (tree.get cmp places k)
  pub found : (k : K) (place : ℕ) → tree.get cmp places k ≡ Some place
      → (place < length rows) × ((row : X) → key (slice_index_or rows place row) ≡ k)

-- the place of each link by its id
abbrev pub HasPlaces : BTreeMap ℕ ℕ → List Link → Type 0
HasPlaces = HasPlacesBy nat_cmp (λ link. link.id)

-- the place of each disregard by its number
abbrev pub HasNsrs : BTreeMap ℕ ℕ → List Disregard → Type 0
HasNsrs = HasPlacesBy nat_cmp (λ disregard. disregard.nsr)

-- the set has the codes of the schedules, each filled with spaces
abbrev pub HasCodes : BTreeSet (List ℕ) → List Schedule → Type 0
HasCodes codes schedules =
    (code : List ℕ) → IsText 30 code
    → (contains (slice_cmp nat_cmp) codes (padded 30 code) ≡ true) ↔ Any (λ schedule. schedule.code ≡ code) schedules

-- CPFs in their order, and days of one CPF in theirs
abbrev pub day_cmp : ℕ × ℕ → ℕ × ℕ → Ordering
day_cmp x y = ordering_then (nat_cmp x.0 y.0) (nat_cmp x.1 y.1)

-- the place of each link by its CPF and first day
abbrev pub HasStarts : BTreeMap (ℕ × ℕ) ℕ → List Link → Type 0
HasStarts = HasPlacesBy day_cmp (λ link. (link.cpf, link.since))

-- links of one CPF have no day in common, and the places are those of the links by their CPFs and first days
pub record AreStarts (starts : BTreeMap (ℕ × ℕ) ℕ) (links : List Link) : Type 0 where
  pub places : HasStarts starts links
  pub in_order : All BeginsFirst links
  pub apart : AllPairs AreApart links

-- the map has the last day of each link by its CPF and first day
pub record HasEnds (ends : BTreeMap (ℕ × ℕ) ℕ) (links : List Link) : Type 0 where
  pub known : All (λ link. tree.get day_cmp ends (link.cpf, link.since) ≡ Some link.until) links
  pub found : (cpf since until : ℕ) → tree.get day_cmp ends (cpf, since) ≡ Some until
      → Any (λ link. (link.cpf ≡ cpf) × (link.since ≡ since) × (link.until ≡ until)) links
