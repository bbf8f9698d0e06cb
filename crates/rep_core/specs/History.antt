-- The history of a recorder: a list of entries, of which the one at place i, counted from 0, has the number i + 1.
-- What it says of a worker and of the employer is found by a search through the list.
use Rattle.std.specs.Prelude.{◌≡◌, ℕ, suc, ◌==◌, if◌then◌else◌, List, [], ◌∷◌, ◌++◌, length, map, Option, Some, None, All}
use Rattle.afd_records.specs.Record.{recording_day_of}
use Rattle.afd_records.specs.declared.record.Body.{Body}
use Rattle.afd_records.specs.declared.record.Body.TheVariants.{Employer, Adjust, Worker, Event, Clocking}
use Rattle.rep_wire.specs.declared.request.Entry.{Entry}
use Rattle.rep_core.specs.declared.verdict.WorkerState.{WorkerState}

-- the entry with this number, behind so many
pub record IsNumbered (h : List Entry) (nsr : ℕ) (e : Entry) : Type 0 where
  pub before : List Entry
  pub behind : List Entry
  pub split : h ≡ before ++ e ∷ behind
  pub number : nsr ≡ suc (length before)

abbrev pub bodies_of : List Entry → List Body
bodies_of h = map (λ e. e.body) h

-- the second where it is there, else the first
abbrev pub later : {A : Type 0} → Option A → Option A → Option A
later first None = first
later first (Some second) = Some second

-- what a record says of the worker
abbrev pub worker_in : ℕ → Body → Option WorkerState
worker_in cpf (Employer at resp id cno name place) = None
worker_in cpf (Adjust before after resp) = None
worker_in cpf (Worker at op worker name extra resp) =
    if worker == cpf then Some (record { op = op; at = at }) else None
worker_in cpf (Event at code) = None
worker_in cpf (Clocking marked worker recorded collector offline) = None

-- what the worker's last registration record says
abbrev pub last_worker : ℕ → List Entry → Option WorkerState
last_worker cpf [] = None
last_worker cpf (e ∷ h) = later (worker_in cpf e.body) (last_worker cpf h)

abbrev pub IsEmployer : Body → Type 0
IsEmployer (Employer at resp id cno name place) = Unit {0}
IsEmployer (Adjust before after resp) = ⊥
IsEmployer (Worker at op cpf name extra resp) = ⊥
IsEmployer (Event at code) = ⊥
IsEmployer (Clocking marked cpf recorded collector offline) = ⊥

-- the last employer record, with its number
pub record IsLastEmployer (h : List Entry) (nsr : ℕ) (e : Entry) : Type 0 where
  pub numbered : IsNumbered h nsr e
  pub employer : IsEmployer e.body
  pub last : All (λ d. IsEmployer d.body → ⊥) numbered.behind

-- the entry came by this pair
abbrev pub CameBy : ℕ → ℕ → Entry → Type 0
CameBy origin seq e = (e.origin ≡ origin) × (e.seq ≡ seq)

-- the first entry that came by a pair, with its number
pub record IsFound (origin seq : ℕ) (h : List Entry) (nsr : ℕ) (e : Entry) : Type 0 where
  pub numbered : IsNumbered h nsr e
  pub came : CameBy origin seq e
  pub first : All (λ d. CameBy origin seq d → ⊥) numbered.before

-- no entry came by the pair
abbrev pub IsNew : ℕ → ℕ → List Entry → Type 0
IsNew origin seq h = All (λ d. CameBy origin seq d → ⊥) h

-- the recording days, by number
abbrev pub days_of : List Entry → List ℕ
days_of h = map (λ e. recording_day_of e.body) h
