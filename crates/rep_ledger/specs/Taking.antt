-- What is found of a journal's next line before its entry is recorded: this project's own.
use Rattle.std.specs.Prelude.{ℕ, ◌⊎◌, List, [], ◌∷◌}
use Rattle.afd_records.specs.Record.{last_nsr}
use Rattle.rep_wire.specs.Request.{IsFounding, IsRequest}
use Rattle.rep_wire.specs.declared.request.Request.{Request}
use Rattle.rep_wire.specs.declared.request.Entry.{Entry}
use Rattle.rep_core.specs.Verdict.{IsVerdict}
use Rattle.rep_core.specs.declared.verdict.Verdict.TheVariants.{Fresh}
use Rattle.rep_core.specs.Answered.{entry_of}
use Rattle.rep_ledger.specs.Fitting.{IsNextLine}
use Rattle.rep_ledger.specs.declared.taking.Recording.{Recording}

-- the requests that may become the entry behind these
abbrev pub MayBecomeNext : List Entry → Request → Type 0
MayBecomeNext [] = IsFounding
MayBecomeNext (first ∷ h) = IsRequest

-- the request is to be recorded after these, and its entry has that pair and that line
pub record IsRecording (h : List Entry) (origin seq : ℕ) (line : List ℕ) (r : Recording) : Type 0 where
  pub next : IsNextLine h origin seq line (entry_of r.request r.at)
  pub asked : IsRequest r.request ⊎ IsFounding r.request
  pub fresh : IsVerdict last_nsr h r.request Fresh
