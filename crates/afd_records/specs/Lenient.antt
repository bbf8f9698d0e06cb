-- Lines of records as a lenient reader takes them: those of Portaria MTP 671/2021, annex V (layout 003), and the
-- allowances of this project's own. A stamp may have seconds and the offset `-0000`, an absent CNO or CAEPF may be
-- fourteen spaces, an event may have any code from 01 to 08, a hash may have digits of either case, and a checksum may
-- be any four bytes. All else is as a strict reader has it.
use Rattle.std.specs.Prelude.{◌≡◌, ◌≢◌, ℕ, zero, suc, ◌+◌, ◌≤◌, ◌⊎◌, ◌↔◌, Bool, false, ◌||◌, IsTrue, List, [], ◌∷◌, ◌++◌, length, take, drop, All, codes, Option, Some, None}
use Rattle.std.specs.List.{concat}
use Rattle.rep_fields.specs.Digits.{numeral}
use Rattle.rep_fields.specs.Latin.{padded, spaces}
use Rattle.rep_fields.specs.Moment.{Moment, IsMoment, IsLenientlyWritten}
use Rattle.rep_fields.specs.Employer.{kind_byte, id_text}
use Rattle.afd_records.specs.Checksum.{crc_text}
use Rattle.afd_records.specs.Record.{op_text, offline_text, IsBody, IsCno, IsNsr}
use Rattle.afd_records.specs.Line.{IsLowerHex, hash_bytes, HasHash}
use Rattle.afd_records.specs.Fields.{FieldKind, StampField, CnoField, EventField, HashField, ChecksumField, IsField, Layout, Spells, width_of}
use Rattle.afd_records.specs.declared.error.Notes.{Notes}
use Rattle.afd_records.specs.declared.reading.ReadLine.{ReadLine}
use Rattle.afd_records.specs.declared.record.Body.{Body}
use Rattle.afd_records.specs.declared.record.Body.TheVariants.{Employer, Adjust, Worker, Event, Clocking}

-- the text of a stamp, and whether it is another than the strict one
abbrev pub IsStampText : Moment → Bool → List ℕ → Type 0
IsStampText moment odd text = IsLenientlyWritten (record { moment = moment; odd = odd }) text

-- the text of a CNO or CAEPF number; that of none may be blank
abbrev pub IsCnoText : ℕ → List ℕ → Type 0
IsCnoText cno text = (text ≡ numeral 14 cno) ⊎ ((cno ≡ 0) × (text ≡ spaces 14))

-- the code of an event of a recorder of any kind
abbrev pub IsLooseEvent : ℕ → Type 0
IsLooseEvent code = (1 ≤ code) × (code ≤ 8)

-- a hexadecimal digit of either case
abbrev pub IsHexDigit : ℕ → Type 0
IsHexDigit byte = IsLowerHex byte ⊎ ((65 ≤ byte) × (byte ≤ 70))

-- the text of a SHA-256, in digits of either case
pub record IsLooseHash (text : List ℕ) : Type 0 where
  pub size : length text ≡ 64
  pub digits : All IsHexDigit text

-- the lenient grammar of a field: what stands before it in its line, and its bytes
abbrev pub IsLooseField : FieldKind → List ℕ → List ℕ → Type 0
IsLooseField StampField before bytes = (moment : Moment) × (odd : Bool) × IsStampText moment odd bytes
IsLooseField CnoField before bytes = (cno : ℕ) × (IsCno cno × IsCnoText cno bytes)
IsLooseField EventField before bytes = Spells IsLooseEvent (numeral 2) bytes
IsLooseField HashField before bytes = IsLooseHash bytes
IsLooseField ChecksumField before bytes = Unit {0}
IsLooseField kind before bytes = IsField kind before bytes

-- The first of the fields that is off a grammar, counted from 1. Each kind of field has a width and a grammar; the
-- fields begin at this place of the line.
abbrev pub IsFirstBadBy : {K : Type 0} → (K → ℕ) → (K → List ℕ → List ℕ → Type 0) → ℕ → List K → List ℕ → ℕ → Type 0
IsFirstBadBy width IsOn at [] line field = ⊥
IsFirstBadBy width IsOn at (kind ∷ kinds) line zero = ⊥
IsFirstBadBy width IsOn at (kind ∷ kinds) line (suc zero) = IsOn kind (take at line) (take (width kind) (drop at line)) → ⊥
IsFirstBadBy width IsOn at (kind ∷ kinds) line (suc (suc later)) =
    IsOn kind (take at line) (take (width kind) (drop at line)) × IsFirstBadBy width IsOn (at + width kind) kinds line (suc later)

-- the first field of a record's line that is off the lenient grammar
abbrev pub IsFirstLooseBad : Layout → List ℕ → ℕ → Type 0
IsFirstLooseBad layout line field = IsFirstBadBy width_of IsLooseField 0 layout line field

-- each part of a record is in its range
abbrev pub IsLooseBody : Body → Type 0
IsLooseBody (Event at code) = IsMoment at × IsLooseEvent code
IsLooseBody body = IsBody body

-- a hash stands exactly at a clocking
abbrev pub HasLooseHash : Body → Option (List ℕ) → Type 0
HasLooseHash (Clocking marked cpf recorded collector offline) None = ⊥
HasLooseHash (Clocking marked cpf recorded collector offline) (Some hash) = IsLooseHash hash
HasLooseHash body hash = HasHash body hash

-- the texts of a line that its values leave open; a line uses those that its type has
pub record Wording : Type 0 where
  -- the first stamp, and whether that is another text than the strict one
  pub first : List ℕ
  pub first_odd : Bool
  -- the second stamp
  pub second : List ℕ
  pub second_odd : Bool
  pub cno : List ℕ
  pub checksum : List ℕ

-- the texts are such as the values allow
abbrev pub IsWorded : Body → Wording → Type 0
IsWorded (Employer at resp id cno name place) words =
    IsStampText at words.first_odd words.first × IsCnoText cno words.cno × (length words.checksum ≡ 4)
IsWorded (Adjust before after resp) words =
    IsStampText before words.first_odd words.first × IsStampText after words.second_odd words.second × (length words.checksum ≡ 4)
IsWorded (Worker at op cpf name extra resp) words =
    IsStampText at words.first_odd words.first × (length words.checksum ≡ 4)
IsWorded (Event at code) words = IsStampText at words.first_odd words.first
IsWorded (Clocking marked cpf recorded collector offline) words =
    IsStampText marked words.first_odd words.first × IsStampText recorded words.second_odd words.second

-- the fields of a record before its hash or checksum
abbrev pub worded_payload : ℕ → Body → Wording → List (List ℕ)
worded_payload nsr (Employer at resp id cno name place) words =
    numeral 9 nsr ∷ codes "2" ∷ words.first ∷ numeral 14 resp ∷ (kind_byte id ∷ []) ∷ id_text id ∷ words.cno
    ∷ padded 150 name ∷ padded 100 place ∷ []
worded_payload nsr (Adjust before after resp) words =
    numeral 9 nsr ∷ codes "4" ∷ words.first ∷ words.second ∷ numeral 11 resp ∷ []
worded_payload nsr (Worker at op cpf name extra resp) words =
    numeral 9 nsr ∷ codes "5" ∷ words.first ∷ op_text op ∷ numeral 12 cpf ∷ padded 52 name ∷ padded 4 extra
    ∷ numeral 11 resp ∷ []
worded_payload nsr (Event at code) words = numeral 9 nsr ∷ codes "6" ∷ words.first ∷ numeral 2 code ∷ []
worded_payload nsr (Clocking marked cpf recorded collector offline) words =
    numeral 9 nsr ∷ codes "7" ∷ words.first ∷ numeral 12 cpf ∷ words.second ∷ numeral 2 collector
    ∷ offline_text offline ∷ []

-- what stands behind them: a hash, nothing, or a checksum
abbrev pub worded_check : Body → List ℕ → Wording → List (List ℕ)
worded_check (Event at code) hash words = []
worded_check (Clocking marked cpf recorded collector offline) hash words = hash ∷ []
worded_check body hash words = words.checksum ∷ []

-- whether a stamp is another text than the strict one
abbrev pub has_odd_stamp : Body → Wording → Bool
has_odd_stamp (Adjust before after resp) words = words.first_odd || words.second_odd
has_odd_stamp (Clocking marked cpf recorded collector offline) words = words.first_odd || words.second_odd
has_odd_stamp body words = words.first_odd

-- the checksum is another than that of the bytes before it
abbrev pub HasOtherChecksum : ℕ → Body → Wording → Type 0
HasOtherChecksum nsr (Event at code) words = ⊥
HasOtherChecksum nsr (Clocking marked cpf recorded collector offline) words = ⊥
HasOtherChecksum nsr body words = words.checksum ≢ crc_text (concat (worded_payload nsr body words))

-- the notes tell of another checksum and of a stamp that isn't the strict text, and of nothing else
pub record IsNoted (nsr : ℕ) (body : Body) (words : Wording) (notes : Notes) : Type 0 where
  pub crc : IsTrue notes.crc ↔ HasOtherChecksum nsr body words
  pub stamp : notes.stamp ≡ has_odd_stamp body words
  pub rep : notes.rep ≡ false

-- the line is one of a record with its number and hash, and the notes are those of the line
pub record IsLooseLineOf (nsr : ℕ) (body : Body) (hash : Option (List ℕ)) (notes : Notes) (line : List ℕ) : Type 0 where
  pub numbered : IsNsr nsr
  pub in_range : IsLooseBody body
  pub hashed : HasLooseHash body hash
  pub words : Wording
  pub worded : IsWorded body words
  pub noted : IsNoted nsr body words notes
  pub written : line ≡ concat (worded_payload nsr body words ++ worded_check body (hash_bytes hash) words)

-- the line has just these values and notes
abbrev pub IsLooselyReadFrom : List ℕ → ReadLine → Type 0
IsLooselyReadFrom line found = IsLooseLineOf found.nsr found.body found.hash found.notes line
