-- What a store keeps, and how its parts belong together: this project's own.
use Rattle.std.specs.Prelude.{◌≡◌, ℕ, ◌≤◌, length, Option, None, IsSome}
use Rattle.afd_records.specs.Record.{last_nsr}
use Rattle.rep_disk.specs.Disk.{Shown}
use Rattle.rep_core.specs.Core.{Kept, IsLimit}
use Rattle.rep_core.specs.Valid.{IsFounded}
use Rattle.rep_site.specs.Site.{IsSite}
use Rattle.rep_site.specs.declared.site.Site.{Site}
use Rattle.rep_ledger.specs.Ledger.{frames_of}
use Rattle.rep_store.specs.Device.{Device}
use Rattle.rep_store.specs.State.{State, IsKept, CountsStop}

-- the store with these parts
abbrev pub state_of : {D C : Type 0} → Kept → Device D → C → Site → Option ℕ → State D C
state_of core device clock site reading = record {
  disk = device.disk;
  clock = clock;
  site = site;
  history = core.entries;
  limit = core.limit;
  offset = site.offset;
  faults = device.faults;
  stopped = device.stopped;
  reading = reading;
}

-- the core stands for the history that the disk keeps
pub record IsWhole {D : Type 0} (shown : D → Shown) (core : Kept) (device : Device D) (site : Site) : Type 0 where
  pub founded : IsFounded core.entries
  pub numbers : length core.entries ≤ last_nsr
  pub limit : IsLimit core.limit
  pub of_site : core.limit ≡ site.last_nsr
  pub is_site : IsSite site
  pub disk : IsKept device.stopped core.entries (shown device.disk)
  pub count : CountsStop device.stopped device.faults
  -- the journal goes on from the history's frames
  pub as_many : device.stopped ≡ None → length device.frames ≡ length core.entries
  pub frames : device.stopped ≡ None → IsSome (shown device.disk).contents → device.frames ≡ frames_of core.entries
