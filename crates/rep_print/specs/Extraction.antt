-- What an extraction is in the lane of a dry run: this project's own, but for the AFD's layout, which is that of Portaria
-- MTP 671/2021, annex V.
use Rattle.std.specs.Prelude.{◌≡◌, ℕ, ℤ, List, length}
use Rattle.afd_records.specs.Record.{last_nsr}
use Rattle.rep_wire.specs.declared.request.Entry.{Entry}
use Rattle.rep_lane.specs.Serving.{Rules, rules_of}
use Rattle.rep_print.specs.Afd.{IsAskedFile}

-- the AFD of all records so far, whatever days are asked for, and the size that is told, which is its length
pub record IsExtraction (zone : ℤ) (h : List Entry) (from to minute size : ℕ) (afd : List ℕ) : Type 0 where
  pub asked : IsAskedFile zone h from to minute afd
  pub sized : size ≡ length afd

-- the rules of a dry run, at an offset from UTC in minutes
abbrev pub rules_at : ℤ → Rules
rules_at zone = rules_of last_nsr zone (λ h from to minute size afd. IsExtraction zone h from to minute size afd)
