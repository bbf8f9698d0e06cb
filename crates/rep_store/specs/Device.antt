-- The journal of a store, as contracts see it: this project's own.
use Rattle.std.specs.Prelude.{◌≡◌, ℕ, ◌+◌, List, Option, Some, None}
use Rattle.rep_disk.specs.Disk.{Shown, IsUntouched}
use Rattle.rep_journal.specs.Format.{Framed}
use Rattle.rep_journal.specs.State.{State, Appends, StopsAt}
use Rattle.rep_journal.specs.Recovery.{OpensGate, Puts}

pub record Device (D : Type 0) : Type 0 where
  pub disk : D
  -- the frames that were put; none once it has stopped
  pub frames : List Framed
  -- for how many more there is room
  pub spare : ℕ
  -- how often the disk has failed for it
  pub faults : ℕ
  -- that count, where a failure stopped it
  pub stopped : Option ℕ

-- a journal that goes on
abbrev pub running : {D : Type 0} → State D → Device D
running journal = record {
  disk = journal.disk;
  frames = journal.frames;
  spare = journal.spare;
  faults = journal.faults;
  stopped = None;
}

-- the journal of a device that goes on
abbrev pub journal_of : {D : Type 0} → Device D → State D
journal_of device = record { disk = device.disk; frames = device.frames; spare = device.spare; faults = device.faults }

-- nothing but room changes
pub record Reserves {D : Type 0} (shown : D → Shown) (old new : Device D) : Type 0 where
  pub frames : new.frames ≡ old.frames
  pub faults : new.faults ≡ old.faults
  pub running : new.stopped ≡ None
  pub disk : IsUntouched (shown old.disk) (shown new.disk)

-- the journal has one frame more
pub record PutsFrame {D : Type 0} (shown : D → Shown) (frame : Framed) (old new : Device D) : Type 0 where
  pub running : new.stopped ≡ None
  pub appends : Appends shown frame (journal_of old) (journal_of new)
  pub crash : Puts old.frames frame (shown old.disk) (shown new.disk)
  pub at_gate : OpensGate old.frames frame (shown old.disk) (shown new.disk) ((shown old.disk).moment + 7)

-- the journal has stopped
pub record StopsAtFrame {D : Type 0} (shown : D → Shown) (frame : Framed) (old new : Device D) : Type 0 where
  pub stopped : new.stopped ≡ Some new.faults
  pub count : ℕ
  pub stops : StopsAt shown frame (journal_of old) new.disk new.faults count
  pub crash : Puts old.frames frame (shown old.disk) (shown new.disk)
  pub at_gate : OpensGate old.frames frame (shown old.disk) (shown new.disk) (shown new.disk).moment
