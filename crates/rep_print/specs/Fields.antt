-- How the parts of the recorder in memory belong together: this project's own.
use Rattle.std.specs.Prelude.{◌≡◌, ℤ}
use Rattle.rep_fields.specs.Moment.{IsOffset}
use Rattle.afd_records.specs.Record.{last_nsr}
use Rattle.rep_core.specs.Core.{Kept}
use Rattle.rep_ledger.specs.Ledger.{frames_of}
use Rattle.rep_print.specs.Journal.{KeptFrames}

-- the journal has the frames of the core's history, in order
pub record IsWhole (core : Kept) (journal : KeptFrames) (zone : ℤ) : Type 0 where
  pub limit : core.limit ≡ last_nsr
  pub offset : IsOffset zone
  pub frames : journal.frames ≡ frames_of core.entries
