-- What the fields of a frame, a vacant disk and a journal keep: this project's own.
use Rattle.std.specs.Prelude.{◌≡◌, ℕ, ◌+◌, ◌*◌, ◌<◌, ◌≤◌, Bool, List, [], length, take, IfSome, MatchBool}
use Rattle.rep_disk.specs.Disk.{Shown}
use Rattle.rep_journal.specs.Format.{Framed, IsFrame, IsJournalOf}
use Rattle.rep_journal.specs.Listed.{Listed}
use Rattle.rep_journal.specs.State.{IsSettled}

abbrev pub framed : ℕ → ℕ → List ℕ → ℕ → Framed
framed origin seq cells size = record { origin = origin; seq = seq; line = take size cells }

-- the line lies in the cells
pub record IsKeptFrame (origin seq : ℕ) (cells : List ℕ) (size : ℕ) : Type 0 where
  pub all : length cells ≡ 331
  pub within : size ≤ 331
  pub frame : IsFrame (framed origin seq cells size)

-- the bytes that a frame needs at most: its gate, itself and the next gate
abbrev pub room_of_frame : ℕ
room_of_frame = 345

-- more than 17 bytes, with the magic and a closed first gate
pub record IsLongBlank (bytes : List ℕ) : Type 0 where
  pub long : 17 < length bytes
  pub none : IsJournalOf bytes []

-- told contents are blank: at most 17 bytes, or more, with the magic and a closed first gate
abbrev pub IsBlankBy : Bool → Shown → Type 0
IsBlankBy is_short s = IfSome s.contents (λ bytes. MatchBool is_short (length bytes ≤ 17) (IsLongBlank bytes))

-- the contents are blank, and there is room for the magic and the first frame
pub record IsVacant (s : Shown) (is_short : Bool) (list : Listed) : Type 0 where
  pub blank : IsBlankBy is_short s
  pub no_frames : list.frames ≡ []
  pub list_room : 1 ≤ list.room
  pub disk_room : 17 + room_of_frame ≤ s.spare

-- the frames in memory are those of the disk's contents, and there is room for more
pub record IsKept (s : Shown) (list : Listed) (spare : ℕ) : Type 0 where
  pub settled : IsSettled list.frames s
  pub list_room : spare ≤ list.room
  pub disk_room : spare * room_of_frame ≤ s.spare
