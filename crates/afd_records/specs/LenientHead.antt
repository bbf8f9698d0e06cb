-- The head of an AFD as a reader takes it: type 1 of Portaria MTP 671/2021, annex V (layout 003), with the allowances of
-- records' lines, a recorder's number of other characters than digits, and a maker's id of digits or spaces.
use Rattle.std.specs.Prelude.{◌≡◌, ◌≢◌, ℕ, ◌⊎◌, ◌↔◌, Bool, false, IsTrue, Result, Ok, Err, List, [], ◌∷◌, ◌++◌, length, slice_index, All, codes}
use Rattle.std.specs.List.{concat}
use Rattle.rep_fields.specs.Digits.{numeral, IsDigitByte}
use Rattle.rep_fields.specs.Latin.{padded, spaces, IsText}
use Rattle.rep_fields.specs.Calendar.{IsDay, day_text}
use Rattle.rep_fields.specs.Moment.{IsMoment}
use Rattle.rep_fields.specs.Identity.{IsRepNumber}
use Rattle.rep_fields.specs.Employer.{IsEmployerId, kind_byte, id_text}
use Rattle.afd_records.specs.Checksum.{crc_text}
use Rattle.afd_records.specs.Record.{IsCno}
use Rattle.afd_records.specs.Fields.{FieldKind, TypeField, StampField, EmployerKindField, EmployerIdField, CnoField, TextField, ChecksumField, Spells, width_of}
use Rattle.afd_records.specs.Lenient.{IsStampText, IsCnoText, IsLooseField, IsFirstBadBy}
use Rattle.afd_records.specs.declared.error.BadLine.{BadLine}
use Rattle.afd_records.specs.declared.error.Notes.{Notes}
use Rattle.afd_records.specs.declared.header.Head.{Head}
use Rattle.afd_records.specs.declared.header_reading.ReadHead.{ReadHead}

-- the kinds of field of the head
pub data HeadField : Type 0 where
  -- these very characters
  Literal : List ℕ → HeadField
  -- a field as a record's line has it
  Shared : FieldKind → HeadField
  -- the recorder's number
  RepField : HeadField
  -- a date
  DayField : HeadField
  -- `1` where the recorder's maker has a CNPJ, `2` where a CPF
  MakerKindField : HeadField
  -- that CNPJ or CPF
  MakerField : HeadField

-- how many bytes a field has
abbrev pub head_width : HeadField → ℕ
head_width (Literal text) = length text
head_width (Shared kind) = width_of kind
head_width RepField = 17
head_width DayField = 10
head_width MakerKindField = 1
head_width MakerField = 14

-- whether the maker has a CNPJ, 1, or a CPF, 2
abbrev pub IsMakerKind : ℕ → Type 0
IsMakerKind kind = (kind ≡ 1) ⊎ (kind ≡ 2)

-- the maker's id: digits, of which nothing more is asked, or a blank field
abbrev pub IsMaker : List ℕ → Type 0
IsMaker text = (length text ≡ 14) × (All IsDigitByte text ⊎ (text ≡ spaces 14))

-- the grammar of a field: what stands before it in the line, and its bytes
abbrev pub IsHeadField : HeadField → List ℕ → List ℕ → Type 0
IsHeadField (Literal text) before bytes = bytes ≡ text
IsHeadField (Shared kind) before bytes = IsLooseField kind before bytes
IsHeadField RepField before bytes = IsRepNumber bytes
IsHeadField DayField before bytes = Spells IsDay day_text bytes
IsHeadField MakerKindField before bytes = Spells IsMakerKind (numeral 1) bytes
IsHeadField MakerField before bytes = IsMaker bytes

-- the fields of the head
abbrev pub head_layout : List HeadField
head_layout =
    Literal (codes "000000000") ∷ Shared (TypeField 1) ∷ Shared EmployerKindField ∷ Shared EmployerIdField ∷ Shared CnoField
    ∷ Shared (TextField 150) ∷ RepField ∷ DayField ∷ DayField ∷ Shared StampField ∷ Literal (codes "003")
    ∷ MakerKindField ∷ MakerField ∷ Shared (TextField 30) ∷ Shared ChecksumField ∷ []

-- the line has the type of a head, the tenth byte, and its length
pub record IsHeadLaidOut (line : List ℕ) : Type 0 where
  pub type : slice_index line 9 ≡ 49
  pub size : length line ≡ 302

-- the first field of a head that is off its grammar
abbrev pub IsFirstBadOfHead : List ℕ → ℕ → Type 0
IsFirstBadOfHead line field = IsFirstBadBy head_width IsHeadField 0 head_layout line field

-- each part of a head is in its range
pub record IsLooseHead (head : Head) : Type 0 where
  pub id : IsEmployerId head.id
  pub cno : IsCno head.cno
  pub name : IsText 150 head.name
  pub rep : IsRepNumber head.rep
  pub first : IsDay head.first
  pub last : IsDay head.last
  pub made : IsMoment head.made
  pub dev_kind : IsMakerKind head.dev_kind
  pub dev : IsMaker head.dev
  pub model : IsText 30 head.model

-- the texts of a head that its values leave open
pub record HeadWording : Type 0 where
  pub cno : List ℕ
  -- when the file was made, and whether that is another text than the strict one
  pub made : List ℕ
  pub made_odd : Bool
  pub checksum : List ℕ

-- the texts are such as the values allow
pub record IsHeadWorded (head : Head) (words : HeadWording) : Type 0 where
  pub cno : IsCnoText head.cno words.cno
  pub made : IsStampText head.made words.made_odd words.made
  pub checksum : length words.checksum ≡ 4

-- the head's fields before its checksum
abbrev pub worded_head : Head → HeadWording → List (List ℕ)
worded_head head words =
    codes "000000000" ∷ codes "1" ∷ (kind_byte head.id ∷ []) ∷ id_text head.id ∷ words.cno ∷ padded 150 head.name
    ∷ head.rep ∷ day_text head.first ∷ day_text head.last ∷ words.made ∷ codes "003" ∷ numeral 1 head.dev_kind
    ∷ head.dev ∷ padded 30 head.model ∷ []

-- the notes tell of another checksum, of a stamp that isn't the strict text, and of a recorder's number that isn't all
-- digits
pub record IsHeadNoted (head : Head) (words : HeadWording) (notes : Notes) : Type 0 where
  pub crc : IsTrue notes.crc ↔ (words.checksum ≢ crc_text (concat (worded_head head words)))
  pub stamp : notes.stamp ≡ words.made_odd
  pub rep : IsTrue notes.rep ↔ (All IsDigitByte head.rep → ⊥)

-- the line is one of the head, and the notes are those of the line
pub record IsLooseHeadOf (head : Head) (notes : Notes) (line : List ℕ) : Type 0 where
  pub in_range : IsLooseHead head
  pub words : HeadWording
  pub worded : IsHeadWorded head words
  pub noted : IsHeadNoted head words notes
  pub written : line ≡ concat (worded_head head words ++ words.checksum ∷ [])

-- the head was read again, with no note but of its recorder's number
abbrev pub IsPrintedHead : Head → Result ReadHead BadLine → Type 0
IsPrintedHead head (Ok found) =
    (found.head ≡ head) × (found.notes.crc ≡ false) × (found.notes.stamp ≡ false)
    × (IsTrue found.notes.rep ↔ (All IsDigitByte head.rep → ⊥))
IsPrintedHead head (Err bad) = ⊥
