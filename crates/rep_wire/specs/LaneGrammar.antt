-- The lines of a lane file: this project's own. The first is the head, and each line behind it orders something or is
-- malformed.
use Rattle.std.specs.Prelude.{◌≡◌, ◌≢◌, ℕ, ◌+◌, ◌<◌, ◌≤◌, ◌⊎◌, ◌==◌, if◌then◌else◌, List, [], ◌∷◌, length, slice_index_or, codes, decimal, Some, None}
use Rattle.std.specs.List.{concat}
use Rattle.std.specs.Str.{bytes_eq}
use Rattle.rep_fields.specs.Digits.{numeral, FitsDigits}
use Rattle.rep_fields.specs.Latin.{IsText, IsFilled}
use Rattle.rep_fields.specs.Calendar.{IsDay, day_text}
use Rattle.rep_fields.specs.Moment.{Moment, IsMoment, moment_text}
use Rattle.rep_fields.specs.Identity.{IsCpf, cpf_text}
use Rattle.rep_fields.specs.Employer.{IsEmployerId, kind_byte}
use Rattle.rep_fields.specs.declared.employer.EmployerId.{EmployerId}
use Rattle.rep_fields.specs.declared.employer.EmployerId.TheVariants.{Cnpj, Person}
use Rattle.afd_records.specs.Record.{IsCno, IsWrittenEvent, op_text}
use Rattle.afd_records.specs.declared.record.Op.{Op}
use Rattle.rep_io.specs.Lines.{longest_line}
use Rattle.rep_wire.specs.Fields.{fields_of}
use Rattle.rep_wire.specs.Request.{IsOrigin, IsSeq, IsWorkerName, IsRequest}
use Rattle.rep_wire.specs.declared.head.LaneHead.{LaneHead}
use Rattle.rep_wire.specs.declared.letter.Letter.{Letter}
use Rattle.rep_wire.specs.declared.letter.Letter.TheVariants as letter
use Rattle.rep_wire.specs.declared.request.Ask.{Ask}
use Rattle.rep_wire.specs.declared.request.Ask.TheVariants.{Mark, Employer, Worker, Adjust, Event}
use Rattle.rep_wire.specs.declared.request.Request.{Request}
use Rattle.rep_wire.specs.declared.request.Order.{Order}
use Rattle.rep_wire.specs.declared.request.Order.TheVariants.{Asked, Extract}
use Rattle.rep_wire.specs.declared.reading.Malformed.{Malformed}

-- the kind of an operator's lane; the others are those of collectors
abbrev pub operator : ℕ
operator = 0

abbrev pub last_kind : ℕ
last_kind = 5

-- the head of a lane
pub record IsLaneHead (head : LaneHead) : Type 0 where
  pub origin : IsOrigin head.origin
  pub kind : head.kind ≤ last_kind
  pub script : head.script ≡ []

-- the first line: `L|origin|kind`
abbrev pub head_text : LaneHead → List ℕ
head_text head = concat (codes "L|" ∷ decimal head.origin ∷ codes "|" ∷ numeral 2 head.kind ∷ [])

-- the first field of a line that orders something
abbrev pub letter_text : Letter → List ℕ
letter_text letter.Mark = codes "M"
letter_text letter.Employer = codes "E"
letter_text letter.Worker = codes "C"
letter_text letter.Adjust = codes "T"
letter_text letter.Event = codes "V"
letter_text letter.Extract = codes "X"

-- the letters that a lane's lines may have: each lane has clockings, the others are the operator's
abbrev pub MaySend : LaneHead → Letter → Type 0
MaySend head letter.Mark = Unit {0}
MaySend head letter.Employer = head.kind ≡ operator
MaySend head letter.Worker = head.kind ≡ operator
MaySend head letter.Adjust = head.kind ≡ operator
MaySend head letter.Event = head.kind ≡ operator
MaySend head letter.Extract = head.kind ≡ operator

-- what a field can be
pub data FieldKind : Type 0 where
  -- a sequence number, a CPF, a stamp
  seq_field : FieldKind
  cpf_field : FieldKind
  stamp_field : FieldKind
  -- `0` for a clocking that comes at once, `1` for one that was kept offline
  online_field : FieldKind
  offline_field : FieldKind
  -- `1` or `2`, and the id of an employer of the kind in a field
  employer_kind_field : FieldKind
  employer_id_field : List ℕ → FieldKind
  cno_field : FieldKind
  employer_name_field : FieldKind
  place_field : FieldKind
  -- `I`, `A` or `E`, and the name of a worker on whom the operation in a field is done
  op_field : FieldKind
  worker_name_field : List ℕ → FieldKind
  extra_field : FieldKind
  -- `07` or `08`
  event_field : FieldKind
  -- a day, and one that isn't before the day in a field
  day_field : FieldKind
  last_day_field : List ℕ → FieldKind

-- the third field of a line, and the fourth, among those behind the second; empty where there is none
abbrev pub third : List (List ℕ) → List ℕ
third behind = slice_index_or behind 0 []

abbrev pub fourth : List (List ℕ) → List ℕ
fourth behind = slice_index_or behind 1 []

-- what the fields behind the second have to be, by the letter; a mark with `1` in its fourth field has one more
abbrev pub kinds_of : Letter → List (List ℕ) → List FieldKind
kinds_of letter.Mark behind =
    cpf_field ∷ (if bytes_eq (fourth behind) (codes "1") then offline_field ∷ stamp_field ∷ [] else online_field ∷ [])
kinds_of letter.Employer behind =
    cpf_field ∷ employer_kind_field ∷ employer_id_field (fourth behind) ∷ cno_field ∷ employer_name_field ∷ place_field ∷ []
kinds_of letter.Worker behind =
    op_field ∷ cpf_field ∷ worker_name_field (third behind) ∷ extra_field ∷ cpf_field ∷ []
kinds_of letter.Adjust behind = stamp_field ∷ cpf_field ∷ []
kinds_of letter.Event behind = event_field ∷ []
kinds_of letter.Extract behind = day_field ∷ last_day_field (third behind) ∷ []

-- the digits of an id: 14 of a CNPJ, 11 of a CPF
abbrev pub id_digits : EmployerId → List ℕ
id_digits (Cnpj number) = numeral 14 number
id_digits (Person cpf) = cpf_text cpf

-- the field of a kind, and the field of an id of that kind behind it
abbrev pub IsIdText : List ℕ → EmployerId → List ℕ → Type 0
IsIdText kind id text = (kind ≡ kind_byte id ∷ []) × (text ≡ id_digits id)

abbrev pub most_cno_digits : ℕ
most_cno_digits = 14

-- a CNO or CAEPF in so many digits
pub record IsCnoNumeral (width cno : ℕ) (text : List ℕ) : Type 0 where
  pub some : 1 ≤ width
  pub within : width ≤ most_cno_digits
  pub fits : FitsDigits width cno
  pub written : text ≡ numeral width cno

-- a CNO or CAEPF: no digit, or up to 14; none and zeros both stand for 0
abbrev pub IsCnoText : ℕ → List ℕ → Type 0
IsCnoText cno text = ((text ≡ []) × (cno ≡ 0)) ⊎ ((width : ℕ) × IsCnoNumeral width cno text)

-- a text without the spaces at its end, of at most so many bytes
abbrev pub IsTextField : ℕ → List ℕ → Type 0
IsTextField most text = (value : List ℕ) × IsText most value × IsFilled value text

-- an employer's name has 1 to 150 bytes
abbrev pub IsNameOfEmployer : List ℕ → Type 0
IsNameOfEmployer name = IsText 150 name × (name ≢ [])

-- a worker's name has 1 to 52 bytes, or none where the worker is excluded
abbrev pub IsNameOfWorker : Op → List ℕ → Type 0
IsNameOfWorker op name = IsText 52 name × IsWorkerName op name

-- the field is of its kind
abbrev pub IsField : FieldKind → List ℕ → Type 0
IsField seq_field text = (seq : ℕ) × IsSeq seq × (text ≡ decimal seq)
IsField cpf_field text = (cpf : ℕ) × IsCpf cpf × (text ≡ cpf_text cpf)
IsField stamp_field text = (moment : Moment) × IsMoment moment × (text ≡ moment_text moment)
IsField online_field text = text ≡ codes "0"
IsField offline_field text = text ≡ codes "1"
IsField employer_kind_field text = (text ≡ codes "1") ⊎ (text ≡ codes "2")
IsField (employer_id_field kind) text =
    (id : EmployerId) × IsEmployerId id × IsIdText kind id text
IsField cno_field text = (cno : ℕ) × IsCno cno × IsCnoText cno text
IsField employer_name_field text = (name : List ℕ) × IsNameOfEmployer name × IsFilled name text
IsField place_field text = IsTextField 100 text
IsField op_field text = (op : Op) × (text ≡ op_text op)
IsField (worker_name_field operation) text =
    (op : Op) × (name : List ℕ) × (operation ≡ op_text op) × IsNameOfWorker op name × IsFilled name text
IsField extra_field text = IsTextField 4 text
IsField event_field text = (code : ℕ) × IsWrittenEvent code × (text ≡ numeral 2 code)
IsField day_field text = (day : ℕ) × IsDay day × (text ≡ day_text day)
IsField (last_day_field first) text =
    (from : ℕ) × (to : ℕ) × IsDay from × IsDay to × (from ≤ to) × (first ≡ day_text from) × (text ≡ day_text to)

-- the number of the first field that isn't of its kind, where the first of these has the number `place`
abbrev pub IsFirstOff : ℕ → List FieldKind → List (List ℕ) → ℕ → Type 0
IsFirstOff place [] texts number = ⊥
IsFirstOff place (kind ∷ kinds) [] number = ⊥
IsFirstOff place (kind ∷ kinds) (text ∷ texts) number =
    (¬ IsField kind text × (number ≡ place)) ⊎ (IsField kind text × IsFirstOff (place + 1) kinds texts number)

-- the field that a line of an allowed letter is refused for, its fields behind the letter: 0 where their number isn't
-- the letter's, else the first that isn't of its kind
abbrev pub IsRefused : Letter → List (List ℕ) → ℕ → Type 0
IsRefused letter [] number = number ≡ 0
IsRefused letter (second ∷ behind) number =
    ((length behind ≢ length (kinds_of letter behind)) × (number ≡ 0))
    ⊎ ((length behind ≡ length (kinds_of letter behind))
    × IsFirstOff 2 (seq_field ∷ kinds_of letter behind) (second ∷ behind) number)

-- no letter that the lane's lines may have
abbrev pub IsNoLetter : LaneHead → List ℕ → Type 0
IsNoLetter head text = (letter : Letter) → MaySend head letter → text ≢ letter_text letter

-- the field that a line with these fields is refused for
abbrev pub IsFaultAt : LaneHead → List (List ℕ) → ℕ → Type 0
IsFaultAt head [] number = ⊥
IsFaultAt head (first ∷ fields) number =
    (IsNoLetter head first × (number ≡ 1))
    ⊎ ((letter : Letter) × MaySend head letter × (first ≡ letter_text letter) × IsRefused letter fields number)

-- the sequence number that is told with a refusal: the second field's where it has one, else 0
abbrev pub IsToldSeq : List (List ℕ) → ℕ → Type 0
IsToldSeq [] seq = seq ≡ 0
IsToldSeq (first ∷ []) seq = seq ≡ 0
IsToldSeq (first ∷ second ∷ behind) seq =
    (IsSeq seq × (second ≡ decimal seq)) ⊎ (¬ IsField seq_field second × (seq ≡ 0))

-- what is told of a line that is read to its end, and orders nothing
pub record IsOffGrammar (head : LaneHead) (line : List ℕ) (malformed : Malformed) : Type 0 where
  pub short : length line ≤ longest_line
  pub field : IsFaultAt head (fields_of line) malformed.field
  pub seq : IsToldSeq (fields_of line) malformed.seq

-- what is told of a line that orders nothing: one that is too long isn't looked at
abbrev pub IsMalformed : LaneHead → List ℕ → Malformed → Type 0
IsMalformed head line malformed =
    ((longest_line < length line) × (malformed.field ≡ 0) × (malformed.seq ≡ 0)) ⊎ IsOffGrammar head line malformed

-- the collector that is recorded with a lane's clockings: an operator's are those of another device
abbrev pub collector_of : LaneHead → ℕ
collector_of head = if head.kind == operator then 5 else head.kind

abbrev pub HasCollector : LaneHead → Ask → Type 0
HasCollector head (Mark cpf collector at) = collector ≡ collector_of head
HasCollector head (Employer resp id cno name place) = Unit {0}
HasCollector head (Worker op cpf name extra resp) = Unit {0}
HasCollector head (Adjust before resp) = Unit {0}
HasCollector head (Event code) = Unit {0}

abbrev pub letter_of : Ask → Letter
letter_of (Mark cpf collector at) = letter.Mark
letter_of (Employer resp id cno name place) = letter.Employer
letter_of (Worker op cpf name extra resp) = letter.Worker
letter_of (Adjust before resp) = letter.Adjust
letter_of (Event code) = letter.Event

-- a request that a line of the lane can ask
pub record IsAskedOn (head : LaneHead) (q : Request) : Type 0 where
  pub request : IsRequest q
  pub origin : q.origin ≡ head.origin
  pub allowed : MaySend head (letter_of q.ask)
  pub collector : HasCollector head q.ask

-- an extraction that a line of the lane can order
pub record IsExtractedOn (head : LaneHead) (seq from to : ℕ) : Type 0 where
  pub allowed : MaySend head letter.Extract
  pub numbered : IsSeq seq
  pub first : IsDay from
  pub last : IsDay to
  pub in_order : from ≤ to

-- an order in range
abbrev pub IsOrder : LaneHead → Order → Type 0
IsOrder head (Asked q) = IsAskedOn head q
IsOrder head (Extract seq from to) = IsExtractedOn head seq from to

-- the fields behind the second say what is asked
abbrev pub SaysAsk : Ask → List (List ℕ) → Type 0
SaysAsk (Mark cpf collector None) (third ∷ fourth ∷ []) = (third ≡ cpf_text cpf) × (fourth ≡ codes "0")
SaysAsk (Mark cpf collector (Some at)) (third ∷ fourth ∷ fifth ∷ []) =
    (third ≡ cpf_text cpf) × (fourth ≡ codes "1") × (fifth ≡ moment_text at)
SaysAsk (Employer resp id cno name place) (third ∷ fourth ∷ fifth ∷ sixth ∷ seventh ∷ eighth ∷ []) =
    (third ≡ cpf_text resp) × IsIdText fourth id fifth × IsCnoText cno sixth × IsFilled name seventh
    × IsFilled place eighth
SaysAsk (Worker op cpf name extra resp) (third ∷ fourth ∷ fifth ∷ sixth ∷ seventh ∷ []) =
    (third ≡ op_text op) × (fourth ≡ cpf_text cpf) × IsFilled name fifth × IsFilled extra sixth
    × (seventh ≡ cpf_text resp)
SaysAsk (Adjust before resp) (third ∷ fourth ∷ []) = (third ≡ moment_text before) × (fourth ≡ cpf_text resp)
SaysAsk (Event code) (third ∷ []) = third ≡ numeral 2 code
SaysAsk _ _ = ⊥

-- the fields of a line say the order
abbrev pub Says : Order → List (List ℕ) → Type 0
Says (Asked q) (first ∷ second ∷ behind) =
    (first ≡ letter_text (letter_of q.ask)) × (second ≡ decimal q.seq) × SaysAsk q.ask behind
Says (Extract seq from to) (first ∷ second ∷ third ∷ fourth ∷ []) =
    (first ≡ letter_text letter.Extract) × (second ≡ decimal seq) × (third ≡ day_text from) × (fourth ≡ day_text to)
Says _ _ = ⊥

-- the line of the lane orders this
pub record Orders (head : LaneHead) (line : List ℕ) (order : Order) : Type 0 where
  pub short : length line ≤ longest_line
  pub in_range : IsOrder head order
  pub said : Says order (fields_of line)
