-- A disk in memory with a fuse, as contracts see it: this project's own.
use Rattle.std.specs.Prelude.{◌≡◌, ℕ, Bool, nat_le}
use Rattle.rep_disk.specs.Disk.{Shown}
use Rattle.rep_disk.specs.Memory.{Memory, memory_shown, counted}

pub record Fuse : Type 0 where
  pub disk : Memory
  -- the number of the first call that fails
  pub from : ℕ
  -- how many device calls there were since its making
  pub calls : ℕ

abbrev pub fuse_shown : Fuse → Shown
fuse_shown fuse = memory_shown fuse.disk

-- whether the next device call fails
abbrev pub is_blown : Fuse → Bool
is_blown fuse = nat_le fuse.from fuse.calls

-- one device call more
pub record Burns (old new : Fuse) : Type 0 where
  pub from : new.from ≡ old.from
  pub calls : new.calls ≡ counted old.calls
