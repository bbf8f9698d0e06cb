-- What an extraction over a store's history is: this project's own.
use Rattle.std.specs.Prelude.{◌≡◌, ℕ, List, length}
use Rattle.afd_records.specs.File.{file_text}
use Rattle.afd_records.specs.declared.header.Head.{Head}
use Rattle.afd_extract.specs.Extract.{counts_of_lines}
use Rattle.afd_extract.specs.Period.{IsPeriod, Range, in_range}
use Rattle.rep_wire.specs.declared.request.Entry.{Entry}
use Rattle.rep_core.specs.Chained.{history_lines}
use Rattle.rep_core.specs.History.{days_of}
use Rattle.rep_site.specs.declared.site.Site.{Site}
use Rattle.rep_store.specs.Extracting.{IsAfdOf, IsExtractHead}

-- the AFD of the period, and its size
abbrev pub IsExtractOf : Site → List Entry → ℕ → ℕ → ℕ → ℕ → List ℕ → Type 0
IsExtractOf site h from to minute size afd = IsAfdOf site h from to minute afd × (size ≡ length afd)

-- An extraction over a history, at a reading of the clock: as many lines as the period has, under the head of the AFD, and
-- where the disk tells its contents, the AFD of the period. The size that is told is that of the AFD.
pub record IsExtraction (Told : Type 0) (site : Site) (h : List Entry) (from to minute size : ℕ) (afd : List ℕ) : Type 0 where
  pub range : Range
  pub period : IsPeriod (days_of h) from to range
  pub head : Head
  pub headed : IsExtractHead site h from to minute head
  pub lines : List (List ℕ)
  pub as_many : length lines ≡ length (in_range range (history_lines h))
  pub text : afd ≡ file_text head lines (counts_of_lines lines)
  pub size_is : (then : ℕ) (whole : List ℕ) → IsAfdOf site h from to then whole → size ≡ length whole
  pub told : Told → IsExtractOf site h from to minute size afd
