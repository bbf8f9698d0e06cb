-- The tables `absence` of a plan file: days off and movements of the hour bank (records 07 of an AEJ, Portaria MTP
-- 671/2021, annex VI). The format is this project's own.
use Rattle.std.specs.Prelude.{◌≡◌, ◌≢◌, ◌≤◌, ℕ, List, [], ◌∷◌, ◌++◌, codes, map, Option, Some, None}
use Rattle.rep_fields.specs.Calendar.{IsDay}
use Rattle.toml.specs.Data.{Data, Members}
use Rattle.toml_fields.specs.Table.{IsMissing, HasOnly}
use Rattle.toml_fields.specs.Fields.{HasNumber}
use Rattle.tr_plan.specs.Fields.{HasDay}
use Rattle.tr_plan.specs.Rows.{HasTable, IsRowOff, IsTableOff}
use Rattle.tr_plan.specs.Link.{greatest_id}
use Rattle.tr_plan.specs.Include.{IsLinkId}
use Rattle.tr_plan.specs.declared.link.Link.{Link}
use Rattle.tr_plan.specs.declared.absence.Absence.{Absence}
use Rattle.tr_plan.specs.declared.absence.AbsenceKey.{AbsenceKey}
use Rattle.tr_plan.specs.declared.absence.AbsenceKey.TheVariants.{LinkKey, Kind, Date, Minutes, Movement, Unknown}

abbrev pub absence_number : AbsenceKey → ℕ
absence_number LinkKey = 1
absence_number Kind = 2
absence_number Date = 3
absence_number Minutes = 4
absence_number Movement = 5
absence_number Unknown = 0

abbrev pub absence_key_text : AbsenceKey → List ℕ
absence_key_text LinkKey = codes "link"
absence_key_text Kind = codes "kind"
absence_key_text Date = codes "date"
absence_key_text Minutes = codes "minutes"
absence_key_text Movement = codes "movement"
absence_key_text Unknown = []

abbrev pub absence_keys : List AbsenceKey
absence_keys = LinkKey ∷ Kind ∷ Date ∷ Minutes ∷ Movement ∷ []

abbrev pub absence_key_texts : List (List ℕ)
absence_key_texts = map absence_key_text absence_keys

abbrev pub absence_looked_at : List AbsenceKey
absence_looked_at = absence_keys ++ Unknown ∷ []

-- the kinds: 1 weekly rest, 2 unjustified absence, 3 movement of the hour bank, 4 compensation of a holiday
abbrev pub bank_movement : ℕ
bank_movement = 3

-- the greatest number of minutes
abbrev pub most_minutes : ℕ
most_minutes = 99999

-- what each key says
abbrev pub SaysLink : List Link → Members → ℕ → Type 0
SaysLink links row id = HasNumber 1 greatest_id row (absence_key_text LinkKey) id × IsLinkId links id

abbrev pub SaysKind : Members → ℕ → Type 0
SaysKind row kind = HasNumber 1 4 row (absence_key_text Kind) kind

abbrev pub SaysDate : Members → ℕ → Type 0
SaysDate row day = HasDay row (absence_key_text Date) day

-- minutes, which may be missing unless the hour bank moves by them
abbrev pub SaysMinutes : Members → ℕ → Option ℕ → Type 0
SaysMinutes row kind (Some minutes) = HasNumber 0 most_minutes row (absence_key_text Minutes) minutes
SaysMinutes row kind None = IsMissing row (absence_key_text Minutes) × (kind ≢ bank_movement)

-- the direction, 1 into the hour bank or 2 out of it, which is there exactly where the bank moves
abbrev pub SaysMovement : Members → ℕ → Option ℕ → Type 0
SaysMovement row kind (Some movement) = HasNumber 1 2 row (absence_key_text Movement) movement × (kind ≡ bank_movement)
SaysMovement row kind None = IsMissing row (absence_key_text Movement) × (kind ≢ bank_movement)

-- the row says the absence, under the links of the plan; those before it don't matter
pub record IsAbsenceOf (links : List Link) (earlier : List Absence) (row : Members) (absence : Absence) : Type 0 where
  pub link : SaysLink links row absence.link
  pub kind : SaysKind row absence.kind
  pub date : SaysDate row absence.date
  pub minutes : SaysMinutes row absence.kind absence.minutes
  pub movement : SaysMovement row absence.kind absence.movement
  pub known : HasOnly absence_key_texts row

abbrev pub IsAbsenceKeySound : List Link → Members → AbsenceKey → Type 0
IsAbsenceKeySound links row LinkKey = (id : ℕ) × SaysLink links row id
IsAbsenceKeySound links row Kind = (kind : ℕ) × SaysKind row kind
IsAbsenceKeySound links row Date = (day : ℕ) × SaysDate row day
IsAbsenceKeySound links row Minutes = (kind : ℕ) × (minutes : Option ℕ) × SaysKind row kind × SaysMinutes row kind minutes
IsAbsenceKeySound links row Movement =
    (kind : ℕ) × (movement : Option ℕ) × SaysKind row kind × SaysMovement row kind movement
IsAbsenceKeySound links row Unknown = HasOnly absence_key_texts row

abbrev pub IsAbsenceOff : List Link → List Absence → Data → AbsenceKey → Type 0
IsAbsenceOff links earlier = IsRowOff (IsAbsenceKeySound links) absence_looked_at Unknown

abbrev pub HasAbsences : List Link → Members → List Absence → Type 0
HasAbsences links members absences = HasTable (IsAbsenceOf links) members (codes "absence") absences

abbrev pub AreAbsencesOff : List Link → Members → ℕ → ℕ → Type 0
AreAbsencesOff links members place number =
    IsTableOff absence_number (IsAbsenceOf links) (IsAbsenceOff links) members (codes "absence") place number

-- minutes and direction fit the kind
abbrev pub AreMinutesFor : ℕ → Option ℕ → Type 0
AreMinutesFor kind (Some minutes) = minutes ≤ most_minutes
AreMinutesFor kind None = kind ≢ bank_movement

abbrev pub IsMovementFor : ℕ → Option ℕ → Type 0
IsMovementFor kind (Some movement) = (1 ≤ movement) × (movement ≤ 2) × (kind ≡ bank_movement)
IsMovementFor kind None = kind ≢ bank_movement

-- an absence that its reader can give, under the links of the plan
pub record IsAbsence (links : List Link) (absence : Absence) : Type 0 where
  pub link : IsLinkId links absence.link
  pub some_kind : 1 ≤ absence.kind
  pub kind : absence.kind ≤ 4
  pub date : IsDay absence.date
  pub minutes : AreMinutesFor absence.kind absence.minutes
  pub movement : IsMovementFor absence.kind absence.movement
