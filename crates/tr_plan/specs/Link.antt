-- The tables `link` of a plan file: who works under which hours, from which day to which (records 03, 04 and 06 of an
-- AEJ, Portaria MTP 671/2021, annex VI). The format is this project's own.
use Rattle.std.specs.Prelude.{◌≡◌, ◌≢◌, ◌<◌, ◌≤◌, ◌-◌, ◌/◌, ℕ, ℤ, pos, List, [], ◌∷◌, ◌++◌, length, slice_index_or, codes, map, All}
use Rattle.rep_fields.specs.Calendar.{IsDay, last_day}
use Rattle.rep_fields.specs.Moment.{Moment, IsMinuteOfDay, minutes_of_day}
use Rattle.rep_fields.specs.Identity.{IsCpf}
use Rattle.toml.specs.Data.{Data, Members}
use Rattle.toml_fields.specs.Table.{HasInteger, HasOr, HasOnly}
use Rattle.toml_fields.specs.Fields.{HasNumber, HasCpf}
use Rattle.tr_plan.specs.Fields.{IsPlain, HasPlain, HasDay, HasTime}
use Rattle.tr_plan.specs.Rows.{HasTable, IsRowOff, IsTableOff}
use Rattle.tr_plan.specs.declared.link.Link.{Link}
use Rattle.tr_plan.specs.declared.link.LinkKey.{LinkKey}
use Rattle.tr_plan.specs.declared.link.LinkKey.TheVariants.{Id, CpfKey, Name, Schedule, Since, Until, Turn, Esocial, Opening, Unknown}

abbrev pub link_number : LinkKey → ℕ
link_number Id = 1
link_number CpfKey = 2
link_number Name = 3
link_number Schedule = 4
link_number Since = 5
link_number Until = 6
link_number Turn = 7
link_number Esocial = 8
link_number Opening = 9
link_number Unknown = 0

abbrev pub link_key_text : LinkKey → List ℕ
link_key_text Id = codes "id"
link_key_text CpfKey = codes "cpf"
link_key_text Name = codes "name"
link_key_text Schedule = codes "schedule"
link_key_text Since = codes "since"
link_key_text Until = codes "until"
link_key_text Turn = codes "turn"
link_key_text Esocial = codes "esocial"
link_key_text Opening = codes "opening"
link_key_text Unknown = []

-- the keys in their order: those of the person, and those of the terms
abbrev pub person_keys : List LinkKey
person_keys = Id ∷ CpfKey ∷ Name ∷ Schedule ∷ []

abbrev pub terms_keys : List LinkKey
terms_keys = Since ∷ Until ∷ Turn ∷ Esocial ∷ Opening ∷ []

abbrev pub link_keys : List LinkKey
link_keys = person_keys ++ terms_keys

abbrev pub link_key_texts : List (List ℕ)
link_key_texts = map link_key_text link_keys

abbrev pub link_looked_at : List LinkKey
link_looked_at = link_keys ++ Unknown ∷ []

-- the greatest id of a link
abbrev pub greatest_id : ℕ
greatest_id = 999999999

-- what each key says. An id isn't used before
abbrev pub IsNewId : List Link → ℕ → Type 0
IsNewId earlier id = All (λ link. link.id ≢ id) earlier

abbrev pub SaysId : List Link → Members → ℕ → Type 0
SaysId earlier row id = HasNumber 1 greatest_id row (link_key_text Id) id × IsNewId earlier id

abbrev pub SaysCpf : Members → ℕ → Type 0
SaysCpf row cpf = HasCpf row (link_key_text CpfKey) cpf

abbrev pub SaysName : Members → List ℕ → Type 0
SaysName row name = HasPlain 1 150 row (link_key_text Name) name

abbrev pub SaysSchedule : Members → List ℕ → Type 0
SaysSchedule row code = HasPlain 1 30 row (link_key_text Schedule) code

abbrev pub SaysSince : Members → ℕ → Type 0
SaysSince row day = HasDay row (link_key_text Since) day

-- a day that isn't before the first one
abbrev pub SaysUntil : Members → ℕ → ℕ → Type 0
SaysUntil row since day = HasOr last_day HasDay row (link_key_text Until) day × (since ≤ day)

abbrev pub SaysTurn : Members → ℕ → Type 0
SaysTurn row minute = HasOr 0 HasTime row (link_key_text Turn) minute

abbrev pub SaysEsocial : Members → List ℕ → Type 0
SaysEsocial row text = HasOr [] (HasPlain 0 30) row (link_key_text Esocial) text

-- minutes of the hour bank, of 64 bits
abbrev pub SaysOpening : Members → ℤ → Type 0
SaysOpening row minutes = HasOr (pos 0) HasInteger row (link_key_text Opening) minutes

-- the row says the link, after the links before it
pub record IsLinkOf (earlier : List Link) (row : Members) (link : Link) : Type 0 where
  pub id : SaysId earlier row link.id
  pub cpf : SaysCpf row link.cpf
  pub name : SaysName row link.name
  pub schedule : SaysSchedule row link.schedule
  pub since : SaysSince row link.since
  pub until : SaysUntil row link.since link.until
  pub turn : SaysTurn row link.turn
  pub esocial : SaysEsocial row link.esocial
  pub opening : SaysOpening row link.opening
  pub known : HasOnly link_key_texts row

abbrev pub IsLinkKeySound : List Link → Members → LinkKey → Type 0
IsLinkKeySound earlier row Id = (id : ℕ) × SaysId earlier row id
IsLinkKeySound earlier row CpfKey = (cpf : ℕ) × SaysCpf row cpf
IsLinkKeySound earlier row Name = (name : List ℕ) × SaysName row name
IsLinkKeySound earlier row Schedule = (code : List ℕ) × SaysSchedule row code
IsLinkKeySound earlier row Since = (day : ℕ) × SaysSince row day
IsLinkKeySound earlier row Until = (since : ℕ) × (day : ℕ) × SaysSince row since × SaysUntil row since day
IsLinkKeySound earlier row Turn = (minute : ℕ) × SaysTurn row minute
IsLinkKeySound earlier row Esocial = (text : List ℕ) × SaysEsocial row text
IsLinkKeySound earlier row Opening = (minutes : ℤ) × SaysOpening row minutes
IsLinkKeySound earlier row Unknown = HasOnly link_key_texts row

abbrev pub IsLinkOff : List Link → Data → LinkKey → Type 0
IsLinkOff earlier = IsRowOff (IsLinkKeySound earlier) link_looked_at Unknown

abbrev pub HasLinks : Members → List Link → Type 0
HasLinks members links = HasTable IsLinkOf members (codes "link") links

abbrev pub AreLinksOff : Members → ℕ → ℕ → Type 0
AreLinksOff members place number =
    IsTableOff link_number IsLinkOf IsLinkOff members (codes "link") place number

-- the day on which a mark counts under the link: that of its minute less the link's turn, never before the first day
abbrev pub journey_day : Link → Moment → ℕ
journey_day link moment = (moment.local - link.turn) / minutes_of_day

-- the day lies in the link's dates
pub record IsInDates (link : Link) (day : ℕ) : Type 0 where
  pub since : link.since ≤ day
  pub until : day ≤ link.until

-- the link at the place is the CPF's one that is in force on the day
pub record IsOn (links : List Link) (cpf day place : ℕ) : Type 0 where
  pub within : place < length links
  pub person : (link : Link) → (slice_index_or links place link).cpf ≡ cpf
  pub in_dates : (link : Link) → IsInDates (slice_index_or links place link) day

-- the last day isn't before the first one
abbrev pub BeginsFirst : Link → Type 0
BeginsFirst link = link.since ≤ link.until

-- the two have a day in common
pub record HaveCommonDay (link other : Link) : Type 0 where
  pub begins : link.since ≤ other.until
  pub ends : other.since ≤ link.until

-- both links hold for one person on some day
abbrev pub DoOverlap : Link → Link → Type 0
DoOverlap earlier link = (earlier.cpf ≡ link.cpf) × HaveCommonDay earlier link

abbrev pub AreApart : Link → Link → Type 0
AreApart earlier link = DoOverlap earlier link → ⊥

-- a link that its reader can give
pub record IsLink (link : Link) : Type 0 where
  pub some_id : 1 ≤ link.id
  pub id : link.id ≤ greatest_id
  pub cpf : IsCpf link.cpf
  pub name : IsPlain 1 150 link.name
  pub schedule : IsPlain 1 30 link.schedule
  pub in_order : link.since ≤ link.until
  pub until : IsDay link.until
  pub turn : IsMinuteOfDay link.turn
  pub esocial : IsPlain 0 30 link.esocial
