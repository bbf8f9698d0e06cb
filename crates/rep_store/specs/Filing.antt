-- An entry of a store's history with its hash: this project's own.
use Rattle.std.specs.Prelude.{◌≡◌, ℕ, List, Bool, true, false, if◌then◌else◌, Result, Ok, Err}
use Rattle.rep_disk.specs.Disk.{Shown}
use Rattle.rep_disk.specs.Memory.{counted}
use Rattle.rep_wire.specs.declared.request.Entry.{Entry}
use Rattle.rep_core.specs.Answered.{hash_in}
use Rattle.rep_core.specs.History.{IsNumbered}
use Rattle.rep_journal.specs.State.{IsRead}
use Rattle.rep_store.specs.State.{State}
use Rattle.rep_store.specs.declared.error.SlipFail.{SlipFail}
use Rattle.rep_store.specs.declared.error.SlipFail.TheVariants.{NoSuchNsr, DeviceFault, Stopped}
use Rattle.rep_store.specs.declared.filing.Filed.{Filed}

-- the entry with this number, and the hash of a clocking
pub record IsFiled (h : List Entry) (nsr : ℕ) (filed : Filed) : Type 0 where
  pub numbered : IsNumbered h nsr filed.entry
  pub hash : filed.hash ≡ hash_in h nsr filed.entry.body

-- The disk was read at most, and failed for the store once more, or not. Nothing else changes, but for the clock and the
-- reading that was taken of it.
pub record IsReadBy {D C : Type 0} (shown : D → Shown) (failed : Bool) (old new : State D C) : Type 0 where
  pub site : new.site ≡ old.site
  pub history : new.history ≡ old.history
  pub limit : new.limit ≡ old.limit
  pub offset : new.offset ≡ old.offset
  pub faults : new.faults ≡ (if failed then counted old.faults else old.faults)
  pub stopped : new.stopped ≡ old.stopped
  pub disk : IsRead (shown old.disk) (shown new.disk)

-- whether the disk failed
abbrev pub failed_by_disk : Result Filed SlipFail → Bool
failed_by_disk (Ok filed) = false
failed_by_disk (Err NoSuchNsr) = false
failed_by_disk (Err DeviceFault) = true
failed_by_disk (Err (Stopped faults)) = false
