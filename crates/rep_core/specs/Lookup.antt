-- What look-ups in a history answer: this project's own.
use Rattle.std.specs.Prelude.{ℕ, Bool, true, false, List, Option, Some, None, All}
use Rattle.afd_records.specs.declared.record.Body.{Body}
use Rattle.afd_records.specs.declared.record.Body.TheVariants.{Employer, Adjust, Worker, Event, Clocking}
use Rattle.rep_wire.specs.declared.request.Entry.{Entry}
use Rattle.rep_core.specs.History.{IsFound, IsNew, IsEmployer, IsLastEmployer}

-- the number of the first entry that came by the pair, or that there is none
abbrev pub FindsPair : ℕ → ℕ → List Entry → Option ℕ → Type 0
FindsPair origin seq h None = IsNew origin seq h
FindsPair origin seq h (Some nsr) = (e : Entry) × IsFound origin seq h nsr e

-- the first entry that came by the pair, or that there is none
abbrev pub KeepsPair : ℕ → ℕ → List Entry → Option Entry → Type 0
KeepsPair origin seq h None = IsNew origin seq h
KeepsPair origin seq h (Some e) = (nsr : ℕ) × IsFound origin seq h nsr e

-- some entry was read exactly where one came by the pair
abbrev pub KeepsWhere : ℕ → ℕ → List Entry → Option Entry → Type 0
KeepsWhere origin seq h None = IsNew origin seq h
KeepsWhere origin seq h (Some e) = IsNew origin seq h → ⊥

-- the number of the last employer record, or that there is none
abbrev pub FindsEmployer : List Entry → Option ℕ → Type 0
FindsEmployer h None = All (λ d. IsEmployer d.body → ⊥) h
FindsEmployer h (Some nsr) = (e : Entry) × IsLastEmployer h nsr e

abbrev pub is_employer : Body → Bool
is_employer (Employer at resp id cno name place) = true
is_employer (Adjust before after resp) = false
is_employer (Worker at op cpf name extra resp) = false
is_employer (Event at code) = false
is_employer (Clocking marked cpf recorded collector offline) = false
