-- The last lines of the commands that only read a journal: this project's own. LF ends each of them.
use Rattle.std.specs.Prelude.{ℕ, List, [], ◌∷◌, codes, Some, None}
use Rattle.std.specs.List.{concat}
use Rattle.rep_report.specs.Report.{barred}
use Rattle.afd_extract.specs.Period.{Range}

-- the first and the last number of a range, zeros where it has none
abbrev pub numbers_of : Range → ℕ × ℕ
numbers_of None = (0, 0)
numbers_of (Some range) = range

-- `EXTRACT`, then the first and the last number that was written, and how many bytes
unfoldable pub extracted_text : ℕ → ℕ → ℕ → List ℕ
extracted_text first last bytes = concat (codes "EXTRACT" ∷ barred first ∷ barred last ∷ barred bytes ∷ codes "\n" ∷ [])

-- the line of words that name no period
unfoldable pub dates_fault : List ℕ
dates_fault = codes "FAULT|3|DATES\n"

-- the lines of a number that the history doesn't have, and of one that is no clocking's
unfoldable pub no_such_nsr_fault : ℕ → List ℕ
no_such_nsr_fault nsr = concat (codes "FAULT|3|NOSUCHNSR" ∷ barred nsr ∷ codes "\n" ∷ [])

unfoldable pub not_a_clocking_fault : ℕ → List ℕ
not_a_clocking_fault nsr = concat (codes "FAULT|3|NOTACLOCKING" ∷ barred nsr ∷ codes "\n" ∷ [])
