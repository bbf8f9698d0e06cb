-- The records of an AFD and the text of each before its hash or checksum: the line types 2, 4, 5, 6 and 7 of
-- Portaria MTP 671/2021, annex V (layout 003). Order, width and code of each field are this project's own reading.
use Rattle.std.specs.Prelude.{◌≡◌, ℕ, ◌≤◌, ◌⊎◌, Bool, true, false, if◌then◌else◌, List, [], ◌∷◌, codes}
use Rattle.std.specs.List.{concat}
use Rattle.rep_fields.specs.Digits.{numeral, FitsDigits}
use Rattle.rep_fields.specs.Latin.{padded, IsText}
use Rattle.rep_fields.specs.Moment.{Moment, IsMoment, moment_text, day_of}
use Rattle.rep_fields.specs.Identity.{IsCpf}
use Rattle.rep_fields.specs.Employer.{IsEmployerId, kind_byte, id_text}
use Rattle.afd_records.specs.declared.record.Op.{Op}
use Rattle.afd_records.specs.declared.record.Op.TheVariants.{Include, Amend, Exclude}
use Rattle.afd_records.specs.declared.record.Body.{Body}
use Rattle.afd_records.specs.declared.record.Body.TheVariants.{Employer, Adjust, Worker, Event, Clocking}

-- the letters of the operations on workers
abbrev pub op_text : Op → List ℕ
op_text Include = codes "I"
op_text Amend = codes "A"
op_text Exclude = codes "E"

-- 1 for a clocking that was kept offline, 0 for one that came at once
abbrev pub offline_text : Bool → List ℕ
offline_text offline = if offline then codes "1" else codes "0"

-- the fields of a record before its hash or checksum
unfoldable pub payload_text : ℕ → Body → List ℕ
payload_text nsr (Employer at resp id cno name place) =
    concat (numeral 9 nsr ∷ codes "2" ∷ moment_text at ∷ numeral 14 resp ∷ (kind_byte id ∷ []) ∷ id_text id
    ∷ numeral 14 cno ∷ padded 150 name ∷ padded 100 place ∷ [])
payload_text nsr (Adjust before after resp) =
    concat (numeral 9 nsr ∷ codes "4" ∷ moment_text before ∷ moment_text after ∷ numeral 11 resp ∷ [])
payload_text nsr (Worker at op cpf name extra resp) =
    concat (numeral 9 nsr ∷ codes "5" ∷ moment_text at ∷ op_text op ∷ numeral 12 cpf ∷ padded 52 name
    ∷ padded 4 extra ∷ numeral 11 resp ∷ [])
payload_text nsr (Event at code) = concat (numeral 9 nsr ∷ codes "6" ∷ moment_text at ∷ numeral 2 code ∷ [])
payload_text nsr (Clocking marked cpf recorded collector offline) =
    concat (numeral 9 nsr ∷ codes "7" ∷ moment_text marked ∷ numeral 12 cpf ∷ moment_text recorded
    ∷ numeral 2 collector ∷ offline_text offline ∷ [])

-- the stamp at which the recorder took the record
abbrev pub recorded_of : Body → Moment
recorded_of (Employer at resp id cno name place) = at
recorded_of (Adjust before after resp) = after
recorded_of (Worker at op cpf name extra resp) = at
recorded_of (Event at code) = at
recorded_of (Clocking marked cpf recorded collector offline) = recorded

-- the day of that stamp
abbrev pub recording_day_of : Body → ℕ
recording_day_of body = day_of (recorded_of body)

-- the events that the recorder writes: the service became available, or unavailable
abbrev pub IsWrittenEvent : ℕ → Type 0
IsWrittenEvent code = (code ≡ 7) ⊎ (code ≡ 8)

-- a collector: 1 mobile application, 2 browser, 3 desktop program, 4 device, 5 other
abbrev pub IsCollector : ℕ → Type 0
IsCollector collector = (1 ≤ collector) × (collector ≤ 5)

-- a CNO or CAEPF number; 0 stands for none
abbrev pub IsCno : ℕ → Type 0
IsCno cno = FitsDigits 14 cno

-- what a record must be for its text: the other parts are in range by their types
abbrev pub HasText : Body → Type 0
HasText (Employer at resp id cno name place) = IsEmployerId id × IsCno cno
HasText (Adjust before after resp) = Unit {0}
HasText (Worker at op cpf name extra resp) = Unit {0}
HasText (Event at code) = IsWrittenEvent code
HasText (Clocking marked cpf recorded collector offline) = IsCollector collector

-- each part of a record is in its range
abbrev pub IsBody : Body → Type 0
IsBody (Employer at resp id cno name place) =
    IsMoment at × IsCpf resp × IsEmployerId id × IsCno cno × IsText 150 name × IsText 100 place
IsBody (Adjust before after resp) = IsMoment before × IsMoment after × IsCpf resp
IsBody (Worker at op cpf name extra resp) = IsMoment at × IsCpf cpf × IsText 52 name × IsText 4 extra × IsCpf resp
IsBody (Event at code) = IsMoment at × IsWrittenEvent code
IsBody (Clocking marked cpf recorded collector offline) = IsMoment marked × IsCpf cpf × IsMoment recorded × IsCollector collector

-- a sequential record number
abbrev pub last_nsr : ℕ
last_nsr = 999999999

abbrev pub IsNsr : ℕ → Type 0
IsNsr nsr = (1 ≤ nsr) × (nsr ≤ last_nsr)

abbrev pub IsClocking : Body → Type 0
IsClocking (Employer at resp id cno name place) = ⊥
IsClocking (Adjust before after resp) = ⊥
IsClocking (Worker at op cpf name extra resp) = ⊥
IsClocking (Event at code) = ⊥
IsClocking (Clocking marked cpf recorded collector offline) = Unit {0}

abbrev pub is_clocking : Body → Bool
is_clocking (Employer at resp id cno name place) = false
is_clocking (Adjust before after resp) = false
is_clocking (Worker at op cpf name extra resp) = false
is_clocking (Event at code) = false
is_clocking (Clocking marked cpf recorded collector offline) = true

-- the number of the line type
abbrev pub type_of : Body → ℕ
type_of (Employer at resp id cno name place) = 2
type_of (Adjust before after resp) = 4
type_of (Worker at op cpf name extra resp) = 5
type_of (Event at code) = 6
type_of (Clocking marked cpf recorded collector offline) = 7
