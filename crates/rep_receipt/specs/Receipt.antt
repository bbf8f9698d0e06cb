-- The receipt of a clocking, for the worker: this project's own text, with the contents that Portaria MTP 671/2021 asks for
-- of the proof of a clocking. LF ends each line.
use Rattle.std.specs.Prelude.{ℕ, List, [], ◌∷◌, ◌++◌, codes}
use Rattle.std.specs.List.{concat}
use Rattle.rep_fields.specs.Digits.{numeral}
use Rattle.rep_fields.specs.Moment.{moment_text}
use Rattle.rep_fields.specs.Identity.{cpf_text}
use Rattle.rep_fields.specs.Employer.{IsEmployerId}
use Rattle.rep_fields.specs.declared.employer.EmployerId.{EmployerId}
use Rattle.rep_fields.specs.declared.employer.EmployerId.TheVariants.{Cnpj, Person}
use Rattle.afd_records.specs.declared.record.Body.{Body}
use Rattle.afd_records.specs.declared.record.Body.TheVariants.{Employer, Adjust, Worker, Event, Clocking}

-- the digits of an id: 14 of a CNPJ, 11 of a CPF
abbrev pub id_digits : EmployerId → List ℕ
id_digits (Cnpj number) = numeral 14 number
id_digits (Person cpf) = cpf_text cpf

-- a line of the receipt: what it is, and its value
abbrev pub receipt_line : List ℕ → List ℕ → List ℕ
receipt_line name value = concat (name ∷ codes ": " ∷ value ∷ (10 ∷ []) ∷ [])

-- the first line
abbrev pub title_line : List ℕ
title_line = codes "COMPROVANTE DE REGISTRO DE PONTO DO TRABALHADOR" ++ 10 ∷ []

-- what an employer's record says: the name, the id and the place of work
abbrev pub employer_lines : Body → List (List ℕ)
employer_lines (Employer at resp id cno name place) =
    receipt_line (codes "EMPREGADOR") name ∷ receipt_line (codes "IDENTIFICACAO") (id_digits id)
    ∷ receipt_line (codes "LOCAL") place ∷ []
employer_lines (Adjust before after resp) = []
employer_lines (Worker at op cpf name extra resp) = []
employer_lines (Event at code) = []
employer_lines (Clocking marked cpf recorded collector offline) = []

-- what a clocking says: the worker's CPF and the marked stamp
abbrev pub clocking_lines : Body → List (List ℕ)
clocking_lines (Employer at resp id cno name place) = []
clocking_lines (Adjust before after resp) = []
clocking_lines (Worker at op cpf name extra resp) = []
clocking_lines (Event at code) = []
clocking_lines (Clocking marked cpf recorded collector offline) =
    receipt_line (codes "CPF") (cpf_text cpf) ∷ receipt_line (codes "DATA E HORA") (moment_text marked) ∷ []

-- the clocking's number, the recorder's number and the clocking's hash
abbrev pub number_lines : ℕ → List ℕ → List ℕ → List (List ℕ)
number_lines nsr rep hash =
    receipt_line (codes "NSR") (numeral 9 nsr) ∷ receipt_line (codes "INPI") rep ∷ receipt_line (codes "HASH") hash ∷ []

-- the receipt of a clocking, under an employer's record and the worker's name
abbrev pub receipt_text : Body → List ℕ → Body → ℕ → List ℕ → List ℕ → List ℕ
receipt_text employer worker clocking nsr rep hash =
    concat (title_line ∷ employer_lines employer) ++ receipt_line (codes "TRABALHADOR") worker
    ++ concat (clocking_lines clocking ++ number_lines nsr rep hash)

-- an employer's record, whose id has a text
abbrev pub IsEmployer : Body → Type 0
IsEmployer (Employer at resp id cno name place) = IsEmployerId id
IsEmployer (Adjust before after resp) = ⊥
IsEmployer (Worker at op cpf name extra resp) = ⊥
IsEmployer (Event at code) = ⊥
IsEmployer (Clocking marked cpf recorded collector offline) = ⊥
