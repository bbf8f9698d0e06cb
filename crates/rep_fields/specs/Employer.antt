-- An employer's id: the CNPJ of an organisation or the CPF of a person, as Portaria MTP 671/2021, annex V, writes
-- them.
use Rattle.std.specs.Prelude.{ℕ, List}
use Rattle.rep_fields.specs.Digits.{numeral}
use Rattle.rep_fields.specs.Identity.{IsCpf, IsCnpj}
use Rattle.rep_fields.specs.declared.employer.EmployerId.{EmployerId}
use Rattle.rep_fields.specs.declared.employer.EmployerId.TheVariants.{Cnpj, Person}

-- an employer is an organisation or a person
abbrev pub IsEmployerId : EmployerId → Type 0
IsEmployerId (Cnpj number) = IsCnpj number
IsEmployerId (Person cpf) = IsCpf cpf

-- the byte `1` for a CNPJ and `2` for a CPF
abbrev pub kind_byte : EmployerId → ℕ
kind_byte (Cnpj number) = 49
kind_byte (Person cpf) = 50

abbrev pub id_number : EmployerId → ℕ
id_number (Cnpj number) = number
id_number (Person cpf) = cpf

-- the id in the fourteen digits of Portaria MTP 671/2021, annex V
abbrev pub id_text : EmployerId → List ℕ
id_text id = numeral 14 (id_number id)
