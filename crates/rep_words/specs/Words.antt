-- The words of the command line, by command: this project's own.
use Rattle.std.specs.Prelude.{◌≡◌, ◌≢◌, ℕ, ◌≤◌, List, [], ◌∷◌, codes, ℤ, Option, Some, None}
use Rattle.rep_fields.specs.Calendar.{IsDay, day_text}
use Rattle.rep_fields.specs.Digits.{FitsDigits, numeral}
use Rattle.rep_fields.specs.Moment.{IsOffset, offset_text}
use Rattle.rep_words.specs.declared.words.Asked.{Asked}
use Rattle.rep_words.specs.declared.words.Asked.TheVariants.{Print, Create, Run, Extract, Receipt, Drill}
use Rattle.rep_words.specs.declared.period.Period.{Period}

-- `print LANE OUT ZONE`: a lane file, the file of its AFD, and the offset from UTC at which the recorder's clock
-- counts
pub record IsPrint (words : List (List ℕ)) (zone : ℤ) : Type 0 where
  pub lane : List ℕ
  pub out : List ℕ
  pub spelled : words ≡ codes "print" ∷ lane ∷ out ∷ offset_text zone ∷ []
  pub lane_named : lane ≢ []
  pub out_named : out ≢ []
  pub offset : IsOffset zone

-- `create SITE JOURNAL`: a site file, and the journal that is made
pub record IsCreate (words : List (List ℕ)) : Type 0 where
  pub site : List ℕ
  pub journal : List ℕ
  pub spelled : words ≡ codes "create" ∷ site ∷ journal ∷ []
  pub site_named : site ≢ []
  pub journal_named : journal ≢ []

-- `run SITE JOURNAL LANE`: a site file, the journal that goes on, and a lane file
pub record IsRun (words : List (List ℕ)) : Type 0 where
  pub site : List ℕ
  pub journal : List ℕ
  pub lane : List ℕ
  pub spelled : words ≡ codes "run" ∷ site ∷ journal ∷ lane ∷ []
  pub site_named : site ≢ []
  pub journal_named : journal ≢ []
  pub lane_named : lane ≢ []

-- two dates name this period, of which both are days
pub record NamesPeriod (first last : List ℕ) (period : Period) : Type 0 where
  pub from : IsDay period.from
  pub to : IsDay period.to
  pub in_order : period.from ≤ period.to
  pub first_spelled : first ≡ day_text period.from
  pub last_spelled : last ≡ day_text period.to

-- the period that two words name, or none
abbrev pub NamesSome : List ℕ → List ℕ → Option Period → Type 0
NamesSome first last None = (period : Period) → NamesPeriod first last period → ⊥
NamesSome first last (Some period) = NamesPeriod first last period

-- `extract SITE JOURNAL FROM TO OUT`: a site file, its journal, a period, and the file of the AFD. The words are the command's
-- also where FROM and TO name no period.
pub record IsExtract (words : List (List ℕ)) (period : Option Period) : Type 0 where
  pub site : List ℕ
  pub journal : List ℕ
  pub first : List ℕ
  pub last : List ℕ
  pub out : List ℕ
  pub spelled : words ≡ codes "extract" ∷ site ∷ journal ∷ first ∷ last ∷ out ∷ []
  pub site_named : site ≢ []
  pub journal_named : journal ≢ []
  pub out_named : out ≢ []
  pub named : NamesSome first last period

-- the most digits of a number of a record
abbrev pub most_nsr_digits : ℕ
most_nsr_digits = 9

-- a number of a record, which isn't zero, in at most nine digits
pub record IsNsrWord (word : List ℕ) (nsr : ℕ) : Type 0 where
  pub width : ℕ
  pub some : 1 ≤ width
  pub within : width ≤ most_nsr_digits
  pub fits : FitsDigits width nsr
  pub spelled : word ≡ numeral width nsr
  pub positive : 1 ≤ nsr

-- `receipt SITE JOURNAL NSR`: a site file, its journal, and the number of a record
pub record IsReceipt (words : List (List ℕ)) (nsr : ℕ) : Type 0 where
  pub site : List ℕ
  pub journal : List ℕ
  pub number : List ℕ
  pub spelled : words ≡ codes "receipt" ∷ site ∷ journal ∷ number ∷ []
  pub site_named : site ≢ []
  pub journal_named : journal ≢ []
  pub numbered : IsNsrWord number nsr

-- `drill SCHEDULE`: the file of a schedule
pub record IsDrill (words : List (List ℕ)) : Type 0 where
  pub schedule : List ℕ
  pub spelled : words ≡ codes "drill" ∷ schedule ∷ []
  pub schedule_named : schedule ≢ []

-- the words ask for this
abbrev pub Asks : List (List ℕ) → Asked → Type 0
Asks words (Print zone) = IsPrint words zone
Asks words Create = IsCreate words
Asks words Run = IsRun words
Asks words (Extract period) = IsExtract words period
Asks words (Receipt nsr) = IsReceipt words nsr
Asks words Drill = IsDrill words

-- the words are those of some command
abbrev pub IsOnGrammar : List (List ℕ) → Type 0
IsOnGrammar words = (asked : Asked) × Asks words asked
