-- What the writer of an AFD leaves in its sink: this project's own.
use Rattle.std.specs.Prelude.{◌≡◌, ℕ, List, MatchResult, Option, Result, ℤ}
use Rattle.std.specs.Io.KnownBytes.{append_known}
use Rattle.rep_wire.specs.declared.request.Entry.{Entry}
use Rattle.rep_core.specs.History.{IsLastEmployer}
use Rattle.rep_report.specs.Saying.{IsStrictFront}
use Rattle.rep_print.specs.Afd.{IsPrintedFile}

-- the history has an employer's record
abbrev pub HasEmployer : List Entry → Type 0
HasEmployer h = (nsr : ℕ) × (e : Entry) × IsLastEmployer h nsr e

-- the AFD of the whole history was appended, or where the sink failed, a front of it that lacks a byte at least
pub record WritesAfd {E : Type 0} (zone : ℤ) (h : List Entry) (minute : ℕ) (old new : Option (List ℕ)) (result : Result ℕ E) : Type 0 where
  pub file : List ℕ
  pub printed : IsPrintedFile zone h minute file
  pub bytes : List ℕ
  pub appended : new ≡ append_known old bytes
  pub whole : MatchResult result (λ _. bytes ≡ file) (λ _. IsStrictFront bytes file)
