-- Parts of lines, as the writers put them together: the fields that each record's line begins with, those that follow
-- in each type, and the two halves of the head.
use Rattle.std.specs.Prelude.{ℕ, Bool, List, [], ◌∷◌, codes}
use Rattle.std.specs.List.{concat}
use Rattle.rep_fields.specs.Digits.{numeral}
use Rattle.rep_fields.specs.Latin.{padded}
use Rattle.rep_fields.specs.Calendar.{day_text}
use Rattle.rep_fields.specs.Moment.{Moment, moment_text}
use Rattle.rep_fields.specs.Employer.{kind_byte, id_text}
use Rattle.rep_fields.specs.declared.employer.EmployerId.{EmployerId}
use Rattle.afd_records.specs.Record.{op_text, offline_text}
use Rattle.afd_records.specs.declared.header.Head.{Head}
use Rattle.afd_records.specs.declared.record.Op.{Op}
use Rattle.afd_records.specs.declared.record.Body.{Body}
use Rattle.afd_records.specs.declared.record.Body.TheVariants.{Employer, Adjust, Worker, Event, Clocking}

-- number, type and first stamp
abbrev pub front_text : ℕ → ℕ → Moment → List ℕ
front_text nsr kind stamp = concat (numeral 9 nsr ∷ (kind ∷ []) ∷ moment_text stamp ∷ [])

-- what follows in an employer's line
abbrev pub employer_rest : ℕ → EmployerId → ℕ → List ℕ → List ℕ → List ℕ
employer_rest resp id cno name place =
    concat (numeral 14 resp ∷ (kind_byte id ∷ []) ∷ id_text id ∷ numeral 14 cno ∷ padded 150 name ∷ padded 100 place ∷ [])

-- what follows in a worker's line
abbrev pub worker_rest : Op → ℕ → List ℕ → List ℕ → ℕ → List ℕ
worker_rest op cpf name extra resp =
    concat (op_text op ∷ numeral 12 cpf ∷ padded 52 name ∷ padded 4 extra ∷ numeral 11 resp ∷ [])

-- what follows in a clocking's line, before the hash
abbrev pub clocking_rest : ℕ → Moment → ℕ → Bool → List ℕ
clocking_rest cpf recorded collector offline =
    concat (numeral 12 cpf ∷ moment_text recorded ∷ numeral 2 collector ∷ offline_text offline ∷ [])

-- the head's fields up to the recorder's number
abbrev pub owner_text : Head → List ℕ
owner_text head =
    concat (codes "000000000" ∷ codes "1" ∷ (kind_byte head.id ∷ []) ∷ id_text head.id ∷ numeral 14 head.cno
    ∷ padded 150 head.name ∷ head.rep ∷ [])

-- those behind it, before the checksum
abbrev pub period_text : Head → List ℕ
period_text head =
    concat (day_text head.first ∷ day_text head.last ∷ moment_text head.made ∷ codes "003" ∷ numeral 1 head.dev_kind
    ∷ head.dev ∷ padded 30 head.model ∷ [])

-- the bytes of a record's line before its hash or checksum
abbrev pub payload_len : Body → ℕ
payload_len (Employer at resp id cno name place) = 327
payload_len (Adjust before after resp) = 69
payload_len (Worker at op cpf name extra resp) = 114
payload_len (Event at code) = 36
payload_len (Clocking marked cpf recorded collector offline) = 73
