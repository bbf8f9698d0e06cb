-- The lines of records as a table of fields: Portaria MTP 671/2021, annex V (layout 003). A line is given by the kinds
-- of its fields in their order; each kind has a width and a grammar.
use Rattle.std.specs.Prelude.{◌≡◌, ℕ, zero, suc, ◌+◌, ◌⊎◌, ◌==◌, if◌then◌else◌, List, [], ◌∷◌, ◌++◌, length, take, drop, slice_index, sum_by, codes, Option, Some, None}
use Rattle.rep_fields.specs.Digits.{numeral, digit_byte}
use Rattle.rep_fields.specs.Latin.{padded, IsText}
use Rattle.rep_fields.specs.Moment.{IsMoment, moment_text}
use Rattle.rep_fields.specs.Identity.{IsCpf}
use Rattle.rep_fields.specs.Employer.{IsEmployerId, kind_byte, id_text}
use Rattle.afd_records.specs.Record.{op_text, offline_text, IsWrittenEvent, IsCollector, IsCno, IsNsr}
use Rattle.afd_records.specs.Line.{IsHashText}
use Rattle.afd_records.specs.Checksum.{crc_text}

-- the kinds of field of a record's line
pub data FieldKind : Type 0 where
  -- the record's number
  NsrField : FieldKind
  -- the digit of the line type
  TypeField : ℕ → FieldKind
  -- a stamp
  StampField : FieldKind
  -- a CPF in so many digits
  CpfField : ℕ → FieldKind
  -- `1` where a CNPJ follows, `2` where a CPF does
  EmployerKindField : FieldKind
  -- an employer's id, of the kind that stands before it
  EmployerIdField : FieldKind
  -- a CNO or CAEPF
  CnoField : FieldKind
  -- a text of so many characters
  TextField : ℕ → FieldKind
  -- what is done to a worker's registration
  OperationField : FieldKind
  EventField : FieldKind
  CollectorField : FieldKind
  OfflineField : FieldKind
  HashField : FieldKind
  -- the checksum of all that stands before it
  ChecksumField : FieldKind

-- how many bytes a field has
abbrev pub width_of : FieldKind → ℕ
width_of NsrField = 9
width_of (TypeField type) = 1
width_of StampField = 24
width_of (CpfField width) = width
width_of EmployerKindField = 1
width_of EmployerIdField = 14
width_of CnoField = 14
width_of (TextField width) = width
width_of OperationField = 1
width_of EventField = 2
width_of CollectorField = 2
width_of OfflineField = 1
width_of HashField = 64
width_of ChecksumField = 4

-- the bytes are the text of a value in the range
abbrev pub Spells : {V : Type 0} → (V → Type 0) → (V → List ℕ) → List ℕ → Type 0
Spells {V} IsValue text bytes = (value : V) × (IsValue value × (bytes ≡ text value))

-- any value will do
abbrev pub IsAny : {V : Type 0} → V → Type 0
IsAny value = Unit {0}

-- the text ends in the byte
abbrev pub EndsIn : ℕ → List ℕ → Type 0
EndsIn byte text = (front : List ℕ) × (text ≡ front ++ byte ∷ [])

-- the grammar of a field: what stands before it in its line, and its bytes
abbrev pub IsField : FieldKind → List ℕ → List ℕ → Type 0
IsField NsrField before bytes = Spells IsNsr (numeral 9) bytes
IsField (TypeField type) before bytes = bytes ≡ digit_byte type ∷ []
IsField StampField before bytes = Spells IsMoment moment_text bytes
IsField (CpfField width) before bytes = Spells IsCpf (numeral width) bytes
IsField EmployerKindField before bytes = (bytes ≡ codes "1") ⊎ (bytes ≡ codes "2")
IsField EmployerIdField before bytes = Spells (λ id. IsEmployerId id × EndsIn (kind_byte id) before) id_text bytes
IsField CnoField before bytes = Spells IsCno (numeral 14) bytes
IsField (TextField width) before bytes = Spells (IsText width) (padded width) bytes
IsField OperationField before bytes = Spells IsAny op_text bytes
IsField EventField before bytes = Spells IsWrittenEvent (numeral 2) bytes
IsField CollectorField before bytes = Spells IsCollector (numeral 2) bytes
IsField OfflineField before bytes = Spells IsAny offline_text bytes
IsField HashField before bytes = IsHashText bytes
IsField ChecksumField before bytes = bytes ≡ crc_text before

-- the fields of a line
abbrev pub Layout : Type 0
Layout = List FieldKind

-- type 2: employer
abbrev pub employer_layout : Layout
employer_layout =
    NsrField ∷ TypeField 2 ∷ StampField ∷ CpfField 14 ∷ EmployerKindField ∷ EmployerIdField ∷ CnoField ∷ TextField 150
    ∷ TextField 100 ∷ ChecksumField ∷ []

-- type 4: adjustment of the clock
abbrev pub adjust_layout : Layout
adjust_layout = NsrField ∷ TypeField 4 ∷ StampField ∷ StampField ∷ CpfField 11 ∷ ChecksumField ∷ []

-- type 5: worker
abbrev pub worker_layout : Layout
worker_layout =
    NsrField ∷ TypeField 5 ∷ StampField ∷ OperationField ∷ CpfField 12 ∷ TextField 52 ∷ TextField 4 ∷ CpfField 11
    ∷ ChecksumField ∷ []

-- type 6: event
abbrev pub event_layout : Layout
event_layout = NsrField ∷ TypeField 6 ∷ StampField ∷ EventField ∷ []

-- type 7: clocking
abbrev pub clocking_layout : Layout
clocking_layout =
    NsrField ∷ TypeField 7 ∷ StampField ∷ CpfField 12 ∷ StampField ∷ CollectorField ∷ OfflineField ∷ HashField ∷ []

-- the layout of a line, by its type's digit, the tenth byte
abbrev pub layout_of : ℕ → Option Layout
layout_of byte =
    if byte == 50 then Some employer_layout
    else (if byte == 52 then Some adjust_layout
    else (if byte == 53 then Some worker_layout
    else (if byte == 54 then Some event_layout
    else (if byte == 55 then Some clocking_layout else None))))

-- the line has the type of a layout, and its length
pub record IsLaidOut (layout : Layout) (line : List ℕ) : Type 0 where
  pub type : layout_of (slice_index line 9) ≡ Some layout
  pub size : length line ≡ sum_by width_of layout

-- the field that begins at this place is on its grammar
abbrev pub IsFieldAt : FieldKind → ℕ → List ℕ → Type 0
IsFieldAt kind at line = IsField kind (take at line) (take (width_of kind) (drop at line))

-- the first field off its grammar, counted from 1; the fields begin at this place
abbrev pub IsFirstBadFrom : ℕ → Layout → List ℕ → ℕ → Type 0
IsFirstBadFrom at [] line field = ⊥
IsFirstBadFrom at (kind ∷ kinds) line zero = ⊥
IsFirstBadFrom at (kind ∷ kinds) line (suc zero) = IsFieldAt kind at line → ⊥
IsFirstBadFrom at (kind ∷ kinds) line (suc (suc later)) =
    IsFieldAt kind at line × IsFirstBadFrom (at + width_of kind) kinds line (suc later)

-- the first field of a line that is off its grammar
abbrev pub IsFirstBad : Layout → List ℕ → ℕ → Type 0
IsFirstBad layout line field = IsFirstBadFrom 0 layout line field
