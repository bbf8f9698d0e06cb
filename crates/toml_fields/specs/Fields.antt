-- The grammars of the values of this project's own TOML files. A value of a fixed form (an id, a CPF, an offset) is
-- read as it stands; of a text, the spaces at its end don't count.
use Rattle.std.specs.Prelude.{ℕ, ℤ, pos, ◌≤◌, List, length}
use Rattle.rep_fields.specs.Digits.{numeral}
use Rattle.rep_fields.specs.Latin.{IsText}
use Rattle.rep_fields.specs.Moment.{IsOffset, offset_text}
use Rattle.rep_fields.specs.Identity.{IsCpf, cpf_text}
use Rattle.rep_fields.specs.Employer.{IsEmployerId}
use Rattle.rep_fields.specs.declared.employer.EmployerId.{EmployerId}
use Rattle.rep_fields.specs.declared.employer.EmployerId.TheVariants.{Cnpj, Person}
use Rattle.toml.specs.Data.{Members}
use Rattle.toml_fields.specs.Table.{HasText, HasInteger}
use Rattle.toml_fields.specs.Spelling.{IsSpelled}

-- an integer from the least to the most stands at the key
pub record HasNumber (least most : ℕ) (members : Members) (key : List ℕ) (number : ℕ) : Type 0 where
  pub above : least ≤ number
  pub below : number ≤ most
  pub there : HasInteger members key (pos number)

-- the text of a value in the range stands at the key
pub record HasFixed {V : Type 0} (IsValue : V → Type 0) (text_of : V → List ℕ) (members : Members) (key : List ℕ) (value : V) : Type 0 where
  pub in_range : IsValue value
  pub there : HasText members key (text_of value)

-- a text of at most so many characters of ISO 8859-1 stands at the key
pub record HasLatin (most : ℕ) (members : Members) (key text : List ℕ) : Type 0 where
  pub in_range : IsText most text
  pub utf8 : List ℕ
  pub spelled : IsSpelled text utf8
  pub there : HasText members key utf8

-- the same, of at least one character
pub record HasSome (most : ℕ) (members : Members) (key text : List ℕ) : Type 0 where
  pub latin : HasLatin most members key text
  pub some : 1 ≤ length text

abbrev pub HasCpf : Members → List ℕ → ℕ → Type 0
HasCpf = HasFixed IsCpf cpf_text

abbrev pub HasOffset : Members → List ℕ → ℤ → Type 0
HasOffset = HasFixed IsOffset offset_text

-- 1 for an organisation, 2 for a person
abbrev pub kind_number : EmployerId → ℕ
kind_number (Cnpj number) = 1
kind_number (Person cpf) = 2

-- the digits of an id: 14 of a CNPJ, 11 of a CPF
abbrev pub id_digits : EmployerId → List ℕ
id_digits (Cnpj number) = numeral 14 number
id_digits (Person cpf) = cpf_text cpf

abbrev pub HasId : Members → List ℕ → EmployerId → Type 0
HasId = HasFixed IsEmployerId id_digits
