-- A journal of which so many frames were taken in: this project's own.
use Rattle.std.specs.Prelude.{◌≡◌, ℕ, length, take, IsSome}
use Rattle.afd_records.specs.Record.{last_nsr}
use Rattle.rep_disk.specs.Disk.{Shown}
use Rattle.rep_core.specs.Core.{Kept}
use Rattle.rep_journal.specs.State.{State, IsRead}
use Rattle.rep_ledger.specs.Fitting.{IsEmptyOrFounded}
use Rattle.rep_ledger.specs.Ledger.{frames_of}

-- the core stands for the history of the first frames, and the journal was read at most, without a fault
pub record IsReplayed {D : Type 0} (shown : D → Shown) (taken : ℕ) (core : Kept) (old new : State D) : Type 0 where
  pub limit : core.limit ≡ last_nsr
  pub begun : IsEmptyOrFounded core.entries
  pub count : length core.entries ≡ taken
  pub replayed : IsSome (shown old.disk).contents → take taken old.frames ≡ frames_of core.entries
  pub frames : new.frames ≡ old.frames
  pub faults : new.faults ≡ old.faults
  pub disk : IsRead (shown old.disk) (shown new.disk)
  pub no_fault : (shown new.disk).faults ≡ (shown old.disk).faults
