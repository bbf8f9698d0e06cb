-- The table `program` of a plan file: the treatment program (record 08 of an AEJ, Portaria MTP 671/2021, annex VI), and
-- what the AEJ says of the recorder and the employer. The format is this project's own.
use Rattle.std.specs.Prelude.{◌≡◌, ◌≤◌, ◌⊎◌, ℕ, ℤ, List, [], ◌∷◌, ◌++◌, codes, map}
use Rattle.rep_fields.specs.Moment.{IsOffset}
use Rattle.rep_fields.specs.Employer.{IsEmployerId}
use Rattle.rep_fields.specs.declared.employer.EmployerId.{EmployerId}
use Rattle.toml.specs.Data.{Members}
use Rattle.toml_fields.specs.Answering.{IsFirstOff}
use Rattle.toml_fields.specs.Table.{HasSubtable, HasOr, HasOnly}
use Rattle.toml_fields.specs.Fields.{HasNumber, HasOffset, HasId, kind_number}
use Rattle.tr_plan.specs.Fields.{IsPlain, HasPlain, IsDigits, HasDigits}
use Rattle.tr_plan.specs.declared.program.Program.{Program}
use Rattle.tr_plan.specs.declared.program.ProgramKey.{ProgramKey}
use Rattle.tr_plan.specs.declared.program.ProgramKey.TheVariants.{Name, Version, DeveloperKind, Developer, DeveloperName, Email, Offset, RepKind, Caepf, Cno, Unknown}

-- the number by which a fault names the key
abbrev pub program_number : ProgramKey → ℕ
program_number Name = 1
program_number Version = 2
program_number DeveloperKind = 3
program_number Developer = 4
program_number DeveloperName = 5
program_number Email = 6
program_number Offset = 7
program_number RepKind = 8
program_number Caepf = 9
program_number Cno = 10
program_number Unknown = 0

-- the key in the file, but for an unknown one
abbrev pub program_key_text : ProgramKey → List ℕ
program_key_text Name = codes "name"
program_key_text Version = codes "version"
program_key_text DeveloperKind = codes "developer_kind"
program_key_text Developer = codes "developer"
program_key_text DeveloperName = codes "developer_name"
program_key_text Email = codes "email"
program_key_text Offset = codes "offset"
program_key_text RepKind = codes "rep_kind"
program_key_text Caepf = codes "caepf"
program_key_text Cno = codes "cno"
program_key_text Unknown = []

-- the keys in the order in which they are looked at: those of the software, and those of the recorder
abbrev pub software_keys : List ProgramKey
software_keys = Name ∷ Version ∷ DeveloperKind ∷ Developer ∷ DeveloperName ∷ Email ∷ []

abbrev pub recorder_keys : List ProgramKey
recorder_keys = Offset ∷ RepKind ∷ Caepf ∷ Cno ∷ []

abbrev pub program_keys : List ProgramKey
program_keys = software_keys ++ recorder_keys

abbrev pub program_key_texts : List (List ℕ)
program_key_texts = map program_key_text program_keys

abbrev pub program_looked_at : List ProgramKey
program_looked_at = program_keys ++ Unknown ∷ []

-- what each key says
abbrev pub SaysName : Members → List ℕ → Type 0
SaysName row name = HasPlain 1 150 row (program_key_text Name) name

abbrev pub SaysVersion : Members → List ℕ → Type 0
SaysVersion row version = HasPlain 1 8 row (program_key_text Version) version

abbrev pub HasKind : Members → ℕ → Type 0
HasKind row kind = HasNumber 1 2 row (program_key_text DeveloperKind) kind

-- an id and its kind
abbrev pub SaysDeveloper : Members → EmployerId → Type 0
SaysDeveloper row id = HasKind row (kind_number id) × HasId row (program_key_text Developer) id

abbrev pub SaysDeveloperName : Members → List ℕ → Type 0
SaysDeveloperName row name = HasPlain 1 150 row (program_key_text DeveloperName) name

abbrev pub SaysEmail : Members → List ℕ → Type 0
SaysEmail row email = HasPlain 1 50 row (program_key_text Email) email

abbrev pub SaysOffset : Members → ℤ → Type 0
SaysOffset row offset = HasOffset row (program_key_text Offset) offset

-- 1 for a REP-C, 2 for a REP-A, 3 for a REP-P
abbrev pub SaysRepKind : Members → ℕ → Type 0
SaysRepKind row kind = HasOr 3 (HasNumber 1 3) row (program_key_text RepKind) kind

abbrev pub SaysCaepf : Members → List ℕ → Type 0
SaysCaepf row caepf = HasOr [] HasDigits row (program_key_text Caepf) caepf

abbrev pub SaysCno : Members → List ℕ → Type 0
SaysCno row cno = HasOr [] HasDigits row (program_key_text Cno) cno

-- the row says the program, and has no other keys
pub record IsProgramOf (row : Members) (program : Program) : Type 0 where
  pub name : SaysName row program.name
  pub version : SaysVersion row program.version
  pub developer : SaysDeveloper row program.developer
  pub developer_name : SaysDeveloperName row program.developer_name
  pub email : SaysEmail row program.email
  pub offset : SaysOffset row program.offset
  pub rep_kind : SaysRepKind row program.rep_kind
  pub caepf : SaysCaepf row program.caepf
  pub cno : SaysCno row program.cno
  pub known : HasOnly program_key_texts row

-- the key says something; an id is looked at with its kind. Of `Unknown`: each key is a known one
abbrev pub IsProgramKeySound : Members → ProgramKey → Type 0
IsProgramKeySound row Name = (name : List ℕ) × SaysName row name
IsProgramKeySound row Version = (version : List ℕ) × SaysVersion row version
IsProgramKeySound row DeveloperKind = (kind : ℕ) × HasKind row kind
IsProgramKeySound row Developer = (id : EmployerId) × SaysDeveloper row id
IsProgramKeySound row DeveloperName = (name : List ℕ) × SaysDeveloperName row name
IsProgramKeySound row Email = (email : List ℕ) × SaysEmail row email
IsProgramKeySound row Offset = (offset : ℤ) × SaysOffset row offset
IsProgramKeySound row RepKind = (kind : ℕ) × SaysRepKind row kind
IsProgramKeySound row Caepf = (caepf : List ℕ) × SaysCaepf row caepf
IsProgramKeySound row Cno = (cno : List ℕ) × SaysCno row cno
IsProgramKeySound row Unknown = HasOnly program_key_texts row

-- the table stands at its key, and says the program
abbrev pub HasProgram : Members → Program → Type 0
HasProgram members program =
    (row : Members) × HasSubtable members (codes "program") row × IsProgramOf row program

-- no table stands at its key
abbrev pub HasNoProgram : Members → Type 0
HasNoProgram members = (row : Members) → HasSubtable members (codes "program") row → ⊥

-- the first key of the program that is off; the first of all where there is no program
abbrev pub IsProgramOff : Members → ProgramKey → Type 0
IsProgramOff members key =
    ((row : Members) × HasSubtable members (codes "program") row
    × IsFirstOff (IsProgramKeySound row) program_looked_at key)
    ⊎ (HasNoProgram members × (key ≡ Name))

-- a program that its reader can give
pub record IsProgram (program : Program) : Type 0 where
  pub name : IsPlain 1 150 program.name
  pub version : IsPlain 1 8 program.version
  pub developer : IsEmployerId program.developer
  pub developer_name : IsPlain 1 150 program.developer_name
  pub email : IsPlain 1 50 program.email
  pub offset : IsOffset program.offset
  pub some_rep_kind : 1 ≤ program.rep_kind
  pub rep_kind : program.rep_kind ≤ 3
  pub caepf : IsDigits program.caepf
  pub cno : IsDigits program.cno
