-- What the recorder's core keeps, and which history it stands for.
use Rattle.std.specs.Prelude.{◌≡◌, ℕ, ◌≤◌, ◌==◌, if◌then◌else◌, List, [], ◌∷◌}
use Rattle.afd_records.specs.Record.{last_nsr}
use Rattle.rep_wire.specs.declared.request.Request.{Request}
use Rattle.rep_wire.specs.declared.request.Entry.{Entry}

-- the core between two calls
pub record Kept : Type 0 where
  -- the entries, by number
  pub entries : List Entry
  -- how many numbers may be given out
  pub limit : ℕ
  -- for how many entries more there is room, beside what each origin needs
  pub room : ℕ
  -- origins, each with the number of entries more of it for which there is room
  pub rooms : List (ℕ × ℕ)

-- for how many entries more of an origin there is room
abbrev pub room_of : List (ℕ × ℕ) → ℕ → ℕ
room_of [] origin = 0
room_of ((o, room) ∷ rooms) origin = if o == origin then room else room_of rooms origin

-- the core stands for the history
unfoldable pub Stands : Kept → List Entry → Type 0
Stands kept h = kept.entries ≡ h

-- the request can be recorded without memory being taken
unfoldable pub IsReady : Kept → Request → Type 0
IsReady kept q = (1 ≤ kept.room) × (1 ≤ room_of kept.rooms q.origin)

-- a limit of numbers that a recorder may be given
abbrev pub IsLimit : ℕ → Type 0
IsLimit limit = (1 ≤ limit) × (limit ≤ last_nsr)
