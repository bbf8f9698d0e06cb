-- The fields of a disk in memory, and what they stand for: this project's own.
use Rattle.std.specs.Prelude.{◌≡◌, ℕ, ◌+◌, ◌≤◌, false, if◌then◌else◌, List, [], ◌∷◌, length, take, drop, vec_len, vec_capacity}
use Rattle.rep_disk.specs.Record.{Made, Step, Put, Shorten}
use Rattle.rep_disk.specs.Memory.{Memory, IsSound}
use Rattle.rep_disk.specs.declared.change.Change.{Change}
use Rattle.rep_disk.specs.declared.change.Kind.{Kind}
use Rattle.rep_disk.specs.declared.change.Kind.TheVariants.{Write, Cut}
use Rattle.rep_disk.specs.declared.mem_disk.MemDisk.TheInside.{Inside}

-- how many bytes of the pieces are its own
abbrev pub size_of : Kind → ℕ
size_of (Write at size) = size
size_of (Cut size) = 0

abbrev pub step_of : Kind → List ℕ → Step
step_of (Write at size) pieces = Put at (take size pieces)
step_of (Cut size) pieces = Shorten size

-- a change whose piece is the first of these
abbrev pub made_of : Change → List ℕ → Made
made_of change pieces = record {
  begun = change.begun;
  synced = change.synced;
  step = step_of change.kind pieces;
  failed = change.failed;
}

-- changes whose pieces lie one behind the other
abbrev pub log_of : List Change → List ℕ → List Made
log_of [] pieces = []
log_of (change ∷ log) pieces = made_of change pieces ∷ log_of log (drop (size_of change.kind) pieces)

-- how long their pieces are
abbrev pub size_of_all : List Change → ℕ
size_of_all [] = 0
size_of_all (change ∷ log) = size_of change.kind + size_of_all log

abbrev pub memory_of : Inside → Memory
memory_of a = record {
  bytes = a.bytes.items;
  first = if a.is_copied then a.first.items else a.bytes.items;
  log = log_of a.log.items a.pieces.items;
  spare = a.spare;
  moment = a.moment;
  faults = a.faults;
  counts = record { all = a.calls.all; reads = a.calls.reads; writes = a.calls.writes; syncs = a.calls.syncs };
  listed = record { all = a.fails.all.items; reads = a.fails.reads.items; writes = a.fails.writes.items; syncs = a.fails.syncs.items };
}

-- the room and the record of a disk in memory
pub record IsKept (a : Inside) : Type 0 where
  pub bytes_room : vec_len a.bytes + a.spare ≤ vec_capacity a.bytes
  pub pieces_room : vec_len a.pieces + a.spare ≤ vec_capacity a.pieces
  pub log_room : vec_len a.log + a.spare ≤ vec_capacity a.log
  pub pieces : size_of_all a.log.items ≡ length a.pieces.items
  pub untouched : a.is_copied ≡ false → (a.log.items ≡ []) × (a.spare ≡ 0) × (a.first.items ≡ [])
  pub sound : IsSound (memory_of a)
