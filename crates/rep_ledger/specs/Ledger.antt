-- The bytes that keep a history: this project's own. A ledger is a journal whose frames are those of a history, by number:
-- each entry's pair of origin and sequence number, and its line.
use Rattle.std.specs.Prelude.{◌≡◌, ◌⊎◌, ℕ, List, [], ◌∷◌, ◌++◌}
use Rattle.rep_wire.specs.declared.request.Entry.{Entry}
use Rattle.rep_core.specs.Chained.{next_line, history_lines}
use Rattle.rep_core.specs.Valid.{Fits, IsFounded}
use Rattle.rep_journal.specs.Format.{Framed, IsJournalOf, IsBlank, IsForeign, BrokenAt, end_of}
use Rattle.rep_ledger.specs.Fitting.{FitsAt, IsEmptyOrFounded}

-- the frame of an entry that has this line
abbrev pub frame_with : Entry → List ℕ → Framed
frame_with e line = record { origin = e.origin; seq = e.seq; line = line }

-- the frames of entries that have these lines, in order
abbrev pub frames_with : List Entry → List (List ℕ) → List Framed
frames_with [] lines = []
frames_with (e ∷ h) [] = []
frames_with (e ∷ h) (line ∷ lines) = frame_with e line ∷ frames_with h lines

-- the frames of a history
abbrev pub frames_of : List Entry → List Framed
frames_of h = frames_with h (history_lines h)

-- the frame of an entry behind a history
abbrev pub next_frame : List Entry → Entry → Framed
next_frame h e = frame_with e (next_line h e.body)

-- the bytes keep the history
pub record IsLedgerOf (bytes : List ℕ) (h : List Entry) : Type 0 where
  pub founded : IsFounded h
  pub journal : IsJournalOf bytes (frames_of h)

-- the same with one entry more that fits, or without it
abbrev pub IsLedgerWithin : List Entry → List ℕ → Type 0
IsLedgerWithin h bytes = IsLedgerOf bytes h ⊎ ((e : Entry) × Fits h e × IsLedgerOf bytes (h ++ e ∷ []))

-- Of these frames one is of no entry that can stand next, where those before it are the frames of a history, and this is
-- the place of the gate in front of it.
pub record MisfitAmong (frames : List Framed) (at : ℕ) : Type 0 where
  pub before : List Entry
  pub begun : IsEmptyOrFounded before
  pub frame : Framed
  pub behind : List Framed
  pub split : frames ≡ frames_of before ++ frame ∷ behind
  pub place : at ≡ end_of (frames_of before)
  pub misfit : (e : Entry) → FitsAt before e → frame ≡ next_frame before e → ⊥

-- the bytes are a journal, and one of its frames doesn't fit
abbrev pub MisfitsAt : ℕ → List ℕ → Type 0
MisfitsAt at bytes = (frames : List Framed) × IsJournalOf bytes frames × MisfitAmong frames at

-- a gate that no whole frame and gate byte follow, and where there is none, the first frame that doesn't fit
abbrev pub IsDamagedAt : ℕ → List ℕ → Type 0
IsDamagedAt at bytes = BrokenAt bytes at ⊎ MisfitsAt at bytes

-- what contents can be
pub data Content : Type 0 where
  Blank : Content
  Foreign : Content
  Damaged : (at : ℕ) → Content
  Keeps : (h : List Entry) → Content

abbrev pub Contains : List ℕ → Content → Type 0
Contains bytes Blank = IsBlank bytes
Contains bytes Foreign = IsForeign bytes
Contains bytes (Damaged at) = IsDamagedAt at bytes
Contains bytes (Keeps h) = IsLedgerOf bytes h
