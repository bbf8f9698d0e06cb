-- The text of a line of an AEJ, as it is written: Portaria MTP 671/2021, annex VI (version 001). The order and the code
-- of each field are this project's own reading.
use Rattle.std.specs.Prelude.{ℕ, List, [], ◌∷◌, ◌++◌, map, codes, decimal, Option, Some, None}
use Rattle.rep_fields.specs.Calendar.{day_text}
use Rattle.rep_fields.specs.Digits.{numeral}
use Rattle.rep_fields.specs.Employer.{kind_byte}
use Rattle.rep_fields.specs.Identity.{cpf_text, bar}
use Rattle.rep_fields.specs.Moment.{moment_text, hours_text}
use Rattle.rep_fields.specs.declared.employer.EmployerId.{EmployerId}
use Rattle.rep_fields.specs.declared.employer.EmployerId.TheVariants.{Cnpj, Person}
use Rattle.aej_records.specs.Line.{type_of}
use Rattle.aej_records.specs.declared.kind.LineType.{LineType}
use Rattle.aej_records.specs.declared.kind.LineType.TheVariants as type
use Rattle.aej_records.specs.declared.line.AejLine.{AejLine}
use Rattle.aej_records.specs.declared.line.AejLine.TheVariants.{Head, Rep, Link, Schedule, Mark, Registration, Absence, Program, Counts}

-- the first field of a line
abbrev pub type_text : LineType → List ℕ
type_text type.Head = codes "01"
type_text type.Rep = codes "02"
type_text type.Link = codes "03"
type_text type.Schedule = codes "04"
type_text type.Mark = codes "05"
type_text type.Registration = codes "06"
type_text type.Absence = codes "07"
type_text type.Program = codes "08"
type_text type.Counts = codes "99"

-- the id of an employer or developer: 14 digits of a CNPJ, 11 of a CPF
abbrev pub owner_text : EmployerId → List ℕ
owner_text (Cnpj number) = numeral 14 number
owner_text (Person cpf) = cpf_text cpf

-- what may be missing is empty
abbrev pub optional_text : {V : Type 0} → (V → List ℕ) → Option V → List ℕ
optional_text text None = []
optional_text text (Some value) = text value

-- the fields of a line behind its type
abbrev pub fields_text : AejLine → List (List ℕ)
fields_text (Head id caepf cno name first last made) =
    (kind_byte id ∷ []) ∷ owner_text id ∷ caepf ∷ cno ∷ name ∷ day_text first ∷ day_text last ∷ moment_text made
    ∷ codes "001" ∷ []
fields_text (Rep id kind number) = decimal id ∷ decimal kind ∷ number ∷ []
fields_text (Link id cpf name) = decimal id ∷ cpf_text cpf ∷ name ∷ []
fields_text (Schedule code minutes times) = code ∷ decimal minutes ∷ map hours_text times
fields_text (Mark link at rep mark pair source schedule reason) =
    decimal link ∷ moment_text at ∷ optional_text decimal rep ∷ (mark ∷ []) ∷ optional_text (numeral 3) pair
    ∷ (source ∷ []) ∷ schedule ∷ reason ∷ []
fields_text (Registration link number) = decimal link ∷ number ∷ []
fields_text (Absence link kind date minutes movement) =
    decimal link ∷ decimal kind ∷ day_text date ∷ optional_text decimal minutes ∷ optional_text decimal movement ∷ []
fields_text (Program name version developer developer_name email) =
    name ∷ version ∷ (kind_byte developer ∷ []) ∷ owner_text developer ∷ developer_name ∷ email ∷ []
fields_text (Counts counts) = map decimal counts

-- fields in a row, each with a bar before it
abbrev pub behind_bars : List (List ℕ) → List ℕ
behind_bars [] = []
behind_bars (field ∷ fields) = bar ∷ (field ++ behind_bars fields)

-- the line: its type, and then its fields
unfoldable pub line_text : AejLine → List ℕ
line_text line = type_text (type_of line) ++ behind_bars (fields_text line)

-- no line that is written has more bytes
abbrev pub longest_written : ℕ
longest_written = 381

-- The line behind the last one, where the file's signature belongs: this project's own. Unlike that of an AFD it isn't
-- filled with spaces.
abbrev pub signature_text : List ℕ
signature_text = codes "ASSINATURA_DIGITAL_EM_ARQUIVO_P7S"
