-- The tables `include` of a plan file: marks that are put in by hand (records 05 of an AEJ whose source isn't O, Portaria
-- MTP 671/2021, annex VI). The format is this project's own.
use Rattle.std.specs.Prelude.{◌≡◌, ◌≤◌, ◌⊎◌, ℕ, List, [], ◌∷◌, ◌++◌, length, codes, map, Any}
use Rattle.rep_fields.specs.Moment.{Moment, IsMoment}
use Rattle.toml.specs.Data.{Data, Members}
use Rattle.toml_fields.specs.Table.{HasText, HasOr, HasOnly}
use Rattle.toml_fields.specs.Fields.{HasNumber}
use Rattle.tr_plan.specs.Fields.{IsPlain, HasPlain, HasStamp}
use Rattle.tr_plan.specs.Rows.{HasTable, IsRowOff, IsTableOff}
use Rattle.tr_plan.specs.Link.{greatest_id, journey_day, IsInDates}
use Rattle.tr_plan.specs.declared.link.Link.{Link}
use Rattle.tr_plan.specs.declared.include.Include.{Include}
use Rattle.tr_plan.specs.declared.include.IncludeKey.{IncludeKey}
use Rattle.tr_plan.specs.declared.include.IncludeKey.TheVariants.{LinkKey, At, Source, Reason, Unknown}

abbrev pub include_number : IncludeKey → ℕ
include_number LinkKey = 1
include_number At = 2
include_number Source = 3
include_number Reason = 4
include_number Unknown = 0

abbrev pub include_key_text : IncludeKey → List ℕ
include_key_text LinkKey = codes "link"
include_key_text At = codes "at"
include_key_text Source = codes "source"
include_key_text Reason = codes "reason"
include_key_text Unknown = []

abbrev pub include_keys : List IncludeKey
include_keys = LinkKey ∷ At ∷ Source ∷ Reason ∷ []

abbrev pub include_key_texts : List (List ℕ)
include_key_texts = map include_key_text include_keys

abbrev pub include_looked_at : List IncludeKey
include_looked_at = include_keys ++ Unknown ∷ []

-- the sources of a mark that isn't an original, by their letters: included by hand, pre-assigned, by exception of the
-- contract, and another source
abbrev pub source_included : ℕ
source_included = 73

abbrev pub source_pre_assigned : ℕ
source_pre_assigned = 80

abbrev pub source_exception : ℕ
source_exception = 88

abbrev pub source_other : ℕ
source_other = 84

abbrev pub IsSource : ℕ → Type 0
IsSource letter =
    (letter ≡ source_included) ⊎ (letter ≡ source_pre_assigned) ⊎ (letter ≡ source_exception) ⊎ (letter ≡ source_other)

-- some link has the id
abbrev pub IsLinkId : List Link → ℕ → Type 0
IsLinkId links id = Any (λ link. link.id ≡ id) links

-- the link with the id is in force on the mark's day
abbrev pub IsInForce : List Link → ℕ → Moment → Type 0
IsInForce links id moment = Any (λ link. (link.id ≡ id) × IsInDates link (journey_day link moment)) links

-- what each key says
abbrev pub SaysLink : List Link → Members → ℕ → Type 0
SaysLink links row id = HasNumber 1 greatest_id row (include_key_text LinkKey) id × IsLinkId links id

abbrev pub SaysAt : List Link → Members → ℕ → Moment → Type 0
SaysAt links row id moment = HasStamp row (include_key_text At) moment × IsInForce links id moment

-- a letter stands at the key
abbrev pub HasSource : Members → List ℕ → ℕ → Type 0
HasSource members key letter = IsSource letter × HasText members key (letter ∷ [])

abbrev pub SaysSource : Members → ℕ → Type 0
SaysSource row letter = HasOr source_included HasSource row (include_key_text Source) letter

-- a mark that is included by hand has a reason
abbrev pub IsReasonFor : ℕ → List ℕ → Type 0
IsReasonFor letter reason = letter ≡ source_included → 1 ≤ length reason

abbrev pub SaysReason : Members → ℕ → List ℕ → Type 0
SaysReason row letter reason =
    HasOr [] (HasPlain 0 150) row (include_key_text Reason) reason × IsReasonFor letter reason

-- the row says the mark, under the links of the plan; the marks before it don't matter
pub record IsIncludeOf (links : List Link) (earlier : List Include) (row : Members) (mark : Include) : Type 0 where
  pub link : SaysLink links row mark.link
  pub at : SaysAt links row mark.link mark.at
  pub source : SaysSource row mark.source
  pub reason : SaysReason row mark.source mark.reason
  pub known : HasOnly include_key_texts row

abbrev pub IsIncludeKeySound : List Link → Members → IncludeKey → Type 0
IsIncludeKeySound links row LinkKey = (id : ℕ) × SaysLink links row id
IsIncludeKeySound links row At = (id : ℕ) × (moment : Moment) × SaysLink links row id × SaysAt links row id moment
IsIncludeKeySound links row Source = (letter : ℕ) × SaysSource row letter
IsIncludeKeySound links row Reason =
    (letter : ℕ) × (reason : List ℕ) × SaysSource row letter × SaysReason row letter reason
IsIncludeKeySound links row Unknown = HasOnly include_key_texts row

abbrev pub IsIncludeOff : List Link → List Include → Data → IncludeKey → Type 0
IsIncludeOff links earlier = IsRowOff (IsIncludeKeySound links) include_looked_at Unknown

abbrev pub HasIncludes : List Link → Members → List Include → Type 0
HasIncludes links members marks = HasTable (IsIncludeOf links) members (codes "include") marks

abbrev pub AreIncludesOff : List Link → Members → ℕ → ℕ → Type 0
AreIncludesOff links members place number =
    IsTableOff include_number (IsIncludeOf links) (IsIncludeOff links) members (codes "include") place number

-- a mark that its reader can give, under the links of the plan
pub record IsInclude (links : List Link) (mark : Include) : Type 0 where
  pub link : IsLinkId links mark.link
  pub at : IsMoment mark.at
  pub in_force : IsInForce links mark.link mark.at
  pub source : IsSource mark.source
  pub reason : IsPlain 0 150 mark.reason
  pub needed : IsReasonFor mark.source mark.reason
