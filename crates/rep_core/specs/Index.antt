-- What the core keeps beside the list of entries for its look-ups: this project's own.
use Rattle.std.specs.Prelude.{◌≡◌, ◌≢◌, ℕ, ◌≤◌, ◌==◌, if◌then◌else◌, ◌⊎◌, List, [], ◌∷◌, map, Option, Some, None}
use Rattle.afd_records.specs.declared.record.Body.{Body}
use Rattle.afd_records.specs.declared.record.Body.TheVariants.{Employer, Adjust, Worker, Event, Clocking}
use Rattle.rep_wire.specs.declared.request.Entry.{Entry}
use Rattle.rep_core.specs.History.{IsNumbered, worker_in, last_worker}
use Rattle.rep_core.specs.Lookup.{FindsPair, FindsEmployer}
use Rattle.rep_core.specs.Core.{room_of}
use Rattle.rep_core.specs.Numbers.{number_of}
use Rattle.rep_core.specs.declared.row.Row.{Row}
use Rattle.rep_core.specs.declared.index.Index.{Index}

-- the number of a pair
abbrev pub number_in : List Row → ℕ → ℕ → Option ℕ
number_in [] origin seq = None
number_in (row ∷ rows) origin seq =
    if row.origin == origin then number_of row.numbers.pairs seq else number_in rows origin seq

-- origins, each with the number of pairs more of it for which there is room
abbrev pub rooms_of : List Row → List (ℕ × ℕ)
rooms_of rows = map (λ row. (row.origin, row.numbers.room)) rows

-- for how many pairs more of an origin there is room
abbrev pub room_in : List Row → ℕ → ℕ
room_in rows origin = room_of (rooms_of rows) origin

-- new has the number at the pair, and at every other pair what old has
pub record SetsPair (old new : List Row) (origin seq number : ℕ) : Type 0 where
  pub this_pair : number_in new origin seq ≡ Some number
  pub other_pairs : (o s : ℕ) → (o ≢ origin) ⊎ (s ≢ seq) → number_in new o s ≡ number_in old o s

-- the worker of a registration record
abbrev pub worker_of : Body → Option ℕ
worker_of (Employer at resp id cno name place) = None
worker_of (Adjust before after resp) = None
worker_of (Worker at op worker name extra resp) = Some worker
worker_of (Event at code) = None
worker_of (Clocking marked worker recorded collector offline) = None

-- the number of a record that says of the worker what his last registration record says, or that he has none
abbrev pub FindsWorker : ℕ → List Entry → Option ℕ → Type 0
FindsWorker cpf h None = last_worker cpf h ≡ None
FindsWorker cpf h (Some nsr) = (e : Entry) × IsNumbered h nsr e × (last_worker cpf h ≡ worker_in cpf e.body)

-- an entry more of the origin can be noted
pub record HasRoom (index : Index) (origin : ℕ) : Type 0 where
  pub workers : 1 ≤ index.workers.room
  pub pairs : 1 ≤ room_in index.origins origin

-- each look-up has its answer
pub record IsIndexOf (index : Index) (h : List Entry) : Type 0 where
  pub pairs : (origin seq : ℕ) → FindsPair origin seq h (number_in index.origins origin seq)
  pub workers : (cpf : ℕ) → FindsWorker cpf h (number_of index.workers.pairs cpf)
  pub employer : FindsEmployer h index.employer
