-- The first line of an AFD, which is its head: Portaria MTP 671/2021, annex V (layout 003), as a lenient reader takes
-- it.
use Rattle.std.specs.Prelude.{◌≡◌, ℕ, ◌<◌, List, [], ◌∷◌, length}
use Rattle.afd_records.specs.LenientHead.{IsHeadLaidOut, IsFirstBadOfHead, IsLooseHeadOf}
use Rattle.afd_records.specs.declared.error.Notes.{Notes}
use Rattle.afd_records.specs.declared.header.Head.{Head}
use Rattle.rep_io.specs.Lines.{lines_of, longest_text}
use Rattle.afd_read.specs.declared.fault.AfdFault.{AfdFault}
use Rattle.afd_read.specs.declared.fault.AfdFault.TheVariants.{NotAnAfd, SourceFault, InputLimit, OutOfMemory}

-- the line is that of the head
abbrev pub IsHeadLine : Head → List ℕ → Type 0
IsHeadLine head line = (notes : Notes) × IsLooseHeadOf head notes line

-- the first of the lines is the head
abbrev pub BeginWith : Head → List (List ℕ) → Type 0
BeginWith head [] = ⊥
BeginWith head (line ∷ lines) = IsHeadLine head line

-- the text begins with the head
abbrev pub IsHeadOf : List ℕ → Head → Type 0
IsHeadOf text head = BeginWith head (lines_of text)

-- the text begins with none
abbrev pub HasNoHead : List ℕ → Type 0
HasNoHead text = (head : Head) → IsHeadOf text head → ⊥

-- The line is none of a head: it hasn't the type or the length of one, which counts as field 0, or this is the first of
-- its fields that is off its grammar.
pub record IsNoHead (line : List ℕ) (field : ℕ) : Type 0 where
  pub unknown : (IsHeadLaidOut line → ⊥) → field ≡ 0
  pub first : IsHeadLaidOut line → IsFirstBadOfHead line field

-- there is no first line, which counts as field 0, or it is none of a head
abbrev pub BeginWithout : List (List ℕ) → ℕ → Type 0
BeginWithout [] field = field ≡ 0
BeginWithout (line ∷ lines) field = IsNoHead line field

-- what a fault says of the text that the source had left
abbrev pub SaysOf : List ℕ → AfdFault → Type 0
SaysOf text (NotAnAfd line field) = BeginWithout (lines_of text) field
SaysOf text SourceFault = Unit {0}
SaysOf text InputLimit = (longest_text < length text) × ((head : Head) × IsHeadOf text head)
SaysOf text OutOfMemory = Unit {0}
