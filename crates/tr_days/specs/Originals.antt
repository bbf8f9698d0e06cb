-- The originals of an AFD: its lines of clockings (type 7 of Portaria MTP 671/2021, annex V, layout 003) that a lenient
-- reader takes. What follows the trailer is no record of the file; the trailer is the first line that is one. These rules
-- are this project's own.
use Rattle.std.specs.Prelude.{◌≡◌, ℕ, ◌≤◌, Bool, List, Option, Contains}
use Rattle.std.specs.List.{AllZip}
use Rattle.std.specs.List.Sorted.{IsStrictlyIncreasing}
use Rattle.rep_fields.specs.Moment.{Moment}
use Rattle.afd_records.specs.File.{HasTrailerText, trailer_text}
use Rattle.afd_records.specs.Lenient.{IsLooseLineOf}
use Rattle.afd_records.specs.declared.error.Notes.{Notes}
use Rattle.afd_records.specs.declared.record.Body.TheVariants.{Clocking as ClockingBody}
use Rattle.afd_read.specs.Numbered.{IsLineNumber, run_at, shown_line}
use Rattle.tr_days.specs.declared.clocking.Clocking.{Clocking}

-- the line is a trailer
abbrev pub IsTrailer : List ℕ → Type 0
IsTrailer line = (counts : List ℕ) × HasTrailerText counts × (line ≡ trailer_text counts)

-- the line reads as a record of type 7 with the clocking's number, worker and stamp
pub record ReadsAs (line : List ℕ) (clocking : Clocking) : Type 0 where
  pub recorded : Moment
  pub collector : ℕ
  pub offline : Bool
  pub hash : Option (List ℕ)
  pub notes : Notes
  pub reads : IsLooseLineOf clocking.nsr (ClockingBody clocking.at clocking.cpf recorded collector offline) hash notes line

-- the line of that number in the text, of those up to which none is a trailer, reads as the clocking
pub record IsOriginal (text : List ℕ) (number : ℕ) (clocking : Clocking) : Type 0 where
  pub numbered : IsLineNumber text number
  pub in_front : (earlier : ℕ) → 1 ≤ earlier → earlier ≤ number → IsTrailer (shown_line (run_at text earlier)) → ⊥
  pub reads : ReadsAs (shown_line (run_at text number)) clocking

-- the originals of the text, in the order of their lines: no other line is one
pub record AreOriginals (text : List ℕ) (clockings : List Clocking) : Type 0 where
  pub numbers : List ℕ
  pub in_order : IsStrictlyIncreasing numbers
  pub each : AllZip (IsOriginal text) numbers clockings
  pub all : (number : ℕ) (clocking : Clocking) → IsOriginal text number clocking → Contains numbers number
