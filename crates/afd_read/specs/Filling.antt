-- How much of a source is read before its first line is judged, and what is read behind: this project's own.
use Rattle.std.specs.Prelude.{◌≡◌, ℕ, ◌+◌, ◌<◌, ◌≤◌, ◌⊎◌, Bool, false, IsTrue, List, [], ◌∷◌, ◌++◌, length, Option}
use Rattle.std.specs.Io.KnownBytes.{prepend_known, IsAtEnd}
use Rattle.rep_io.specs.Cutter.{HasNoLineFeed}
use Rattle.rep_io.specs.Lines.{longest_line, longest_text}
use Rattle.afd_read.specs.Beginning.{IsNoHead}
use Rattle.afd_read.specs.declared.fault.AfdFault.{AfdFault}
use Rattle.afd_read.specs.declared.fault.AfdFault.TheVariants.{NotAnAfd, SourceFault, InputLimit, OutOfMemory}

-- how many bytes are asked of a source at a time
abbrev pub piece_size : ℕ
piece_size = 65536

-- the most bytes that are taken before a text is refused: those of a line that is surely too long, and one piece
abbrev pub most_before_refusal : ℕ
most_before_refusal = longest_line + 1 + piece_size

-- the first of the lines; no bytes where there is none
abbrev pub first_of : List (List ℕ) → List ℕ
first_of [] = []
first_of (line ∷ lines) = line

-- a line ends in these bytes, or they are more than a line and the CR before its end may have
abbrev pub ShowsFirst : List ℕ → Type 0
ShowsFirst bytes = (HasNoLineFeed bytes → ⊥) ⊎ (longest_line + 1 < length bytes)

-- the bytes tell whether the text that they begin has a head, if only since the source has ended
abbrev pub TellsFirst : Bool → List ℕ → Type 0
TellsFirst ended bytes = ShowsFirst bytes ⊎ IsTrue ended

-- what one read gave ends these bytes, and without it they don't show the first line
pub record TellsByLast (bytes : List ℕ) : Type 0 where
  pub before : List ℕ
  pub last : List ℕ
  pub split : bytes ≡ before ++ last
  pub untold : ShowsFirst before → ⊥
  pub few : length last ≤ piece_size

-- no more was taken of the source than tells its first line
abbrev pub IsJudgedEarly : Option (List ℕ) → Option (List ℕ) → Type 0
IsJudgedEarly left left' = (bytes : List ℕ) × (left ≡ prepend_known bytes left') × TellsByLast bytes

-- what came in one read was appended, one byte more at most than a text may have; nothing came only at the end
pub record AppendsPiece (left left' : Option (List ℕ)) (old new : List ℕ) (came : Bool) : Type 0 where
  pub bytes : List ℕ
  pub appended : new ≡ old ++ bytes
  pub taken : left ≡ prepend_known bytes left'
  pub few : length bytes ≤ piece_size
  pub in_room : length new ≤ longest_text + 1
  pub some : IsTrue came → 0 < length bytes
  pub none : came ≡ false → (bytes ≡ []) × IsAtEnd left'

-- what was read first: all of it is kept, and it tells what the first line is
pub record FillsFirst (left left' : Option (List ℕ)) (bytes : List ℕ) (ended : Bool) : Type 0 where
  pub taken : left ≡ prepend_known bytes left'
  pub tells : TellsFirst ended bytes
  pub few : length bytes ≤ most_before_refusal
  pub at_end : IsTrue ended → IsAtEnd left'

-- all that the source had left was appended, and nothing where it had ended
pub record FillsRest (left left' : Option (List ℕ)) (old new : List ℕ) (ended : Bool) : Type 0 where
  pub bytes : List ℕ
  pub appended : new ≡ old ++ bytes
  pub taken : left ≡ prepend_known bytes left'
  pub at_end : IsAtEnd left'
  pub in_room : length new ≤ longest_text
  pub none : IsTrue ended → bytes ≡ []

-- so many bytes were taken behind those that were kept, which is one more than a text may have
abbrev pub IsPastLimit : Option (List ℕ) → Option (List ℕ) → List ℕ → Type 0
IsPastLimit left left' old =
    (bytes : List ℕ) × (left ≡ prepend_known bytes left') × (length (old ++ bytes) ≡ longest_text + 1)

-- the fault is one of the outside
abbrev pub IsOfOutside : AfdFault → Type 0
IsOfOutside (NotAnAfd line field) = ⊥
IsOfOutside SourceFault = Unit {0}
IsOfOutside InputLimit = ⊥
IsOfOutside OutOfMemory = Unit {0}

-- the fault doesn't refuse the first line
abbrev pub IsNoRefusal : AfdFault → Type 0
IsNoRefusal (NotAnAfd line field) = ⊥
IsNoRefusal SourceFault = Unit {0}
IsNoRefusal InputLimit = Unit {0}
IsNoRefusal OutOfMemory = Unit {0}

-- the fault refuses this first line
abbrev pub IsRefusalOf : List ℕ → AfdFault → Type 0
IsRefusalOf first (NotAnAfd line field) = (line ≡ 1) × IsNoHead first field
IsRefusalOf first SourceFault = ⊥
IsRefusalOf first InputLimit = ⊥
IsRefusalOf first OutOfMemory = ⊥
