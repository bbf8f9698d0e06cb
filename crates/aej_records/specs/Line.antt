-- The lines of an AEJ, each part in its range: Portaria MTP 671/2021, annex VI. The ranges are this project's own.
use Rattle.std.specs.Prelude.{◌≡◌, ◌≢◌, ℕ, ◌≤◌, ◌⊎◌, List, [], length, All, IfSome}
use Rattle.rep_fields.specs.Calendar.{IsDay}
use Rattle.rep_fields.specs.Digits.{IsDigitByte}
use Rattle.rep_fields.specs.Employer.{IsEmployerId}
use Rattle.rep_fields.specs.Identity.{IsCpf, IsRepNumber, bar}
use Rattle.rep_fields.specs.Latin.{IsText}
use Rattle.rep_fields.specs.Moment.{IsMoment}
use Rattle.aej_records.specs.Times.{IsTimes}
use Rattle.aej_records.specs.declared.kind.LineType.{LineType}
use Rattle.aej_records.specs.declared.kind.LineType.TheVariants as type
use Rattle.aej_records.specs.declared.line.AejLine.{AejLine}
use Rattle.aej_records.specs.declared.line.AejLine.TheVariants.{Head, Rep, Link, Schedule, Mark, Registration, Absence, Program, Counts}

-- the type of a line
abbrev pub type_of : AejLine → LineType
type_of (Head id caepf cno name first last made) = type.Head
type_of (Rep id kind number) = type.Rep
type_of (Link id cpf name) = type.Link
type_of (Schedule code minutes times) = type.Schedule
type_of (Mark link at rep mark pair source schedule reason) = type.Mark
type_of (Registration link number) = type.Registration
type_of (Absence link kind date minutes movement) = type.Absence
type_of (Program name version developer developer_name email) = type.Program
type_of (Counts counts) = type.Counts

-- a number in a range, its ends included
abbrev pub IsBetween : ℕ → ℕ → ℕ → Type 0
IsBetween least most n = (least ≤ n) × (n ≤ most)

-- the number that a file gives to an employment or a recorder
abbrev pub IsId : ℕ → Type 0
IsId id = IsBetween 1 999999999 id

-- the number of a pair of entry and exit
abbrev pub IsPair : ℕ → Type 0
IsPair pair = IsBetween 1 999 pair

-- how many lines there are of a type
abbrev pub IsCount : ℕ → Type 0
IsCount count = IsBetween 0 999999999 count

-- 1 REP-C, 2 REP-A, 3 REP-P
abbrev pub IsRepKind : ℕ → Type 0
IsRepKind kind = IsBetween 1 3 kind

-- 1 weekly rest, 2 unjustified absence, 3 movement of the bank of hours, 4 day off for a holiday
abbrev pub IsAbsenceKind : ℕ → Type 0
IsAbsenceKind kind = IsBetween 1 4 kind

-- 1 inclusion in the bank of hours, 2 compensation
abbrev pub IsMovement : ℕ → Type 0
IsMovement movement = IsBetween 1 2 movement

-- how long a schedule's day is
abbrev pub IsDayLength : ℕ → Type 0
IsDayLength minutes = IsBetween 1 1440 minutes

-- how long an absence is
abbrev pub IsAbsenceLength : ℕ → Type 0
IsAbsenceLength minutes = IsBetween 0 99999 minutes

-- the letters `E`, `S` and `D`: entry, exit, disregarded
abbrev pub IsMarkLetter : ℕ → Type 0
IsMarkLetter mark = (mark ≡ 69) ⊎ (mark ≡ 83) ⊎ (mark ≡ 68)

-- the letters `O`, `I`, `P`, `X` and `T`: an original of a recorder, included by hand, a break stated beforehand, a
-- clocking by exception, another source
abbrev pub IsSourceLetter : ℕ → Type 0
IsSourceLetter source = (source ≡ 79) ⊎ (source ≡ 73) ⊎ (source ≡ 80) ⊎ (source ≡ 88) ⊎ (source ≡ 84)

-- a CAEPF or CNO: digits, or none
abbrev pub AreDigits : List ℕ → Type 0
AreDigits text = All IsDigitByte text

-- what a line must be to be written: the other parts are in range by their types
abbrev pub HasText : AejLine → Type 0
HasText (Head id caepf cno name first last made) = IsEmployerId id × AreDigits caepf × AreDigits cno
HasText (Rep id kind number) = IsId id × IsRepKind kind
HasText (Link id cpf name) = IsId id
HasText (Schedule code minutes times) = IsDayLength minutes
HasText (Mark link at rep mark pair source schedule reason) =
    IsId link × IfSome rep IsId × IsMarkLetter mark × IfSome pair IsPair × IsSourceLetter source
HasText (Registration link number) = IsId link
HasText (Absence link kind date minutes movement) =
    IsId link × IsAbsenceKind kind × IfSome minutes IsAbsenceLength × IfSome movement IsMovement
HasText (Program name version developer developer_name email) = IsEmployerId developer
HasText (Counts counts) = All IsCount counts

-- a text of 1 to so many bytes
abbrev pub IsName : ℕ → List ℕ → Type 0
IsName most name = IsText most name × (name ≢ [])

-- a CAEPF or CNO that can be read: at most 14 digits
abbrev pub IsWorks : List ℕ → Type 0
IsWorks text = IsText 14 text × AreDigits text

-- each part of a line is in its range
abbrev pub IsInRange : AejLine → Type 0
IsInRange (Head id caepf cno name first last made) =
    IsEmployerId id × IsWorks caepf × IsWorks cno × IsText 150 name × IsDay first × IsDay last × IsMoment made
IsInRange (Rep id kind number) = IsId id × IsRepKind kind × IsRepNumber number
IsInRange (Link id cpf name) = IsId id × IsCpf cpf × IsText 150 name
IsInRange (Schedule code minutes times) = IsText 30 code × IsDayLength minutes × IsTimes times
IsInRange (Mark link at rep mark pair source schedule reason) =
    IsId link × IsMoment at × IfSome rep IsId × IsMarkLetter mark × IfSome pair IsPair × IsSourceLetter source
    × IsText 30 schedule × IsText 150 reason
IsInRange (Registration link number) = IsId link × IsText 30 number
IsInRange (Absence link kind date minutes movement) =
    IsId link × IsAbsenceKind kind × IsDay date × IfSome minutes IsAbsenceLength × IfSome movement IsMovement
IsInRange (Program name version developer developer_name email) =
    IsText 150 name × IsText 8 version × IsEmployerId developer × IsText 150 developer_name × IsText 50 email
IsInRange (Counts counts) = (length counts ≡ 8) × All IsCount counts

-- no text of the line is empty but those that may be
abbrev pub HasNames : AejLine → Type 0
HasNames (Head id caepf cno name first last made) = name ≢ []
HasNames (Rep id kind number) = Unit {0}
HasNames (Link id cpf name) = name ≢ []
HasNames (Schedule code minutes times) = code ≢ []
HasNames (Mark link at rep mark pair source schedule reason) = Unit {0}
HasNames (Registration link number) = number ≢ []
HasNames (Absence link kind date minutes movement) = Unit {0}
HasNames (Program name version developer developer_name email) =
    (name ≢ []) × (version ≢ []) × (developer_name ≢ []) × (email ≢ [])
HasNames (Counts counts) = Unit {0}

-- each byte of the line's texts is so; a CAEPF or CNO is of digits alone
abbrev pub TextsHave : (ℕ → Type 0) → AejLine → Type 0
TextsHave IsSo (Head id caepf cno name first last made) = All IsSo name
TextsHave IsSo (Rep id kind number) = Unit {0}
TextsHave IsSo (Link id cpf name) = All IsSo name
TextsHave IsSo (Schedule code minutes times) = All IsSo code
TextsHave IsSo (Mark link at rep mark pair source schedule reason) = All IsSo schedule × All IsSo reason
TextsHave IsSo (Registration link number) = All IsSo number
TextsHave IsSo (Absence link kind date minutes movement) = Unit {0}
TextsHave IsSo (Program name version developer developer_name email) =
    All IsSo name × All IsSo version × All IsSo developer_name × All IsSo email
TextsHave IsSo (Counts counts) = Unit {0}

-- no text of the line has a bar
abbrev pub HasNoBars : AejLine → Type 0
HasNoBars line = TextsHave (λ byte. byte ≢ bar) line

-- a line that can be read from what is written for it
pub record IsReadable (line : AejLine) : Type 0 where
  pub in_range : IsInRange line
  pub names : HasNames line
  pub no_bars : HasNoBars line
