-- The layout of a journal: this project's own.
--
-- A journal is the magic, then frames, then a closed gate, then anything. In front of each frame stands an open gate.
-- A frame is the length of its line, its origin and its sequence number, each as a big-endian number, and the line.
use Rattle.std.specs.Prelude.{◌≡◌, ◌≢◌, ◌⊎◌, ℕ, ◌+◌, ◌^◌, ◌<◌, ◌≤◌, List, [], ◌∷◌, ◌++◌, length, take, codes}
use Rattle.std.specs.List.{concat}
use Rattle.std.specs.Int.{w16, w64, to_be_bytes}

-- the first 16 bytes: a text with the version `1`, and LF
unfoldable pub magic : List ℕ
magic = codes "REP-P JOURNAL 1" ++ 10 ∷ []

-- the byte of an open gate: every other byte is a closed one
abbrev pub open_gate : ℕ
open_gate = 165

-- the closed gate that is written
abbrev pub closed_gate : ℕ
closed_gate = 0

-- a line of the AFD, without CR LF, and who asked for it by which number
pub record Framed : Type 0 where
  pub origin : ℕ
  pub seq : ℕ
  pub line : List ℕ

-- the lengths of the AFD's record lines of types 6, 4, 5, 7 and 2 (Portaria MTP 671/2021, annex V)
abbrev pub IsLineLength : ℕ → Type 0
IsLineLength n = (n ≡ 36) ⊎ (n ≡ 73) ⊎ (n ≡ 118) ⊎ (n ≡ 137) ⊎ (n ≡ 331)

-- what a frame can hold
pub record IsFrame (frame : Framed) : Type 0 where
  pub origin : frame.origin < 2 ^ 16
  pub seq : frame.seq < 2 ^ 64
  pub line : IsLineLength (length frame.line)

abbrev pub AreFrames : List Framed → Type 0
AreFrames [] = Unit {0}
AreFrames (frame ∷ frames) = IsFrame frame × AreFrames frames

-- a number in two bytes and in eight, the highest byte first
unfoldable pub two_bytes : ℕ → List ℕ
two_bytes n = to_be_bytes w16 n

unfoldable pub eight_bytes : ℕ → List ℕ
eight_bytes n = to_be_bytes w64 n

-- a frame: the length of its line (2 bytes), origin (2), sequence number (8), line
unfoldable pub frame_text : Framed → List ℕ
frame_text frame = concat (two_bytes (length frame.line) ∷ two_bytes frame.origin ∷ eight_bytes frame.seq ∷ frame.line ∷ [])

-- frames, each behind an open gate
abbrev pub frames_text : List Framed → List ℕ
frames_text [] = []
frames_text (frame ∷ frames) = open_gate ∷ (frame_text frame ++ frames_text frames)

-- the magic and frames
abbrev pub front_text : List Framed → List ℕ
front_text frames = magic ++ frames_text frames

-- the place behind them, where the next gate stands
abbrev pub end_of : List Framed → ℕ
end_of frames = 16 + length (frames_text frames)

-- the place of the gate in front of a frame
abbrev pub gate_at : List Framed → ℕ → ℕ
gate_at frames i = end_of (take i frames)

-- the bytes are a journal of these frames
pub record IsJournalOf (bytes : List ℕ) (frames : List Framed) : Type 0 where
  pub well_formed : AreFrames frames
  pub gate : ℕ
  pub closed : gate ≢ open_gate
  pub rest : List ℕ
  pub text : bytes ≡ front_text frames ++ gate ∷ rest

-- at most 17 bytes, whatever they are, or the magic with a closed first gate
abbrev pub IsBlank : List ℕ → Type 0
IsBlank bytes = (length bytes ≤ 17) ⊎ IsJournalOf bytes []

abbrev pub HasMagic : List ℕ → Type 0
HasMagic bytes = (rest : List ℕ) × (bytes ≡ magic ++ rest)

-- not blank, and without the magic
pub record IsForeign (bytes : List ℕ) : Type 0 where
  pub not_blank : ¬ IsBlank bytes
  pub no_magic : ¬ HasMagic bytes

-- not blank, and with the magic
pub record IsPresent (bytes : List ℕ) : Type 0 where
  pub not_blank : ¬ IsBlank bytes
  pub magic : HasMagic bytes

-- Not blank, and an open gate stands at this place, behind some frames, that no whole frame and gate byte follow.
pub record BrokenAt (bytes : List ℕ) (at : ℕ) : Type 0 where
  pub not_blank : ¬ IsBlank bytes
  pub before : List Framed
  pub well_formed : AreFrames before
  pub rest : List ℕ
  pub text : bytes ≡ front_text before ++ open_gate ∷ rest
  pub place : at ≡ end_of before
  pub broken : (frame : Framed) (gate : ℕ) (more : List ℕ) → IsFrame frame → rest ≡ frame_text frame ++ gate ∷ more → ⊥

-- what contents can be
pub data Kind : Type 0 where
  Blank : Kind
  Foreign : Kind
  Damaged : (at : ℕ) → Kind
  Keeps : (frames : List Framed) → Kind

abbrev pub IsOfKind : List ℕ → Kind → Type 0
IsOfKind bytes Blank = IsBlank bytes
IsOfKind bytes Foreign = IsForeign bytes
IsOfKind bytes (Damaged at) = BrokenAt bytes at
IsOfKind bytes (Keeps frames) = IsJournalOf bytes frames × (frames ≢ [])
