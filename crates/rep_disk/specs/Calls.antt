-- What the calls of a disk in memory do beside what those of every disk do: this project's own. A call fails exactly
-- where it is listed, or where it comes from a fuse that has blown; then nothing changes that is seen.
use Rattle.std.specs.Prelude.{◌≡◌, ◌↔◌, ℕ, ◌+◌, ◌≤◌, nat_eq, Bool, if◌then◌else◌, List, [], ◌∷◌, ◌++◌, length, is_err, OnErr, OnOk, MatchResult, Some, Result}
use Rattle.rep_io.specs.Causes.{HasCause}
use Rattle.rep_io.specs.declared.cause.Failed.{Failed}
use Rattle.rep_disk.specs.Disk.{Advances, CutOpen, Cuts, IsAtRest, IsOwnImage, Moves, Opens, OpensUntil, Renames, RenamesSurely, Same, Stays, Torn, Writes, as_named, cut_by_name, written_by_name}
use Rattle.rep_disk.specs.Record.{Put, Shorten}
use Rattle.rep_disk.specs.Changes.{noted, Secured}
use Rattle.rep_disk.specs.Memory.{Memory, Counts, memory_shown, counted}

-- the counts after a call of each kind
abbrev pub length_counted : Counts → Counts
length_counted c = record { all = counted c.all; reads = c.reads; writes = c.writes; syncs = c.syncs }

abbrev pub read_counted : Counts → Counts
read_counted c = record { all = counted c.all; reads = counted c.reads; writes = c.writes; syncs = c.syncs }

abbrev pub write_counted : Counts → Counts
write_counted c = record { all = counted c.all; reads = c.reads; writes = counted c.writes; syncs = c.syncs }

abbrev pub sync_counted : Counts → Counts
sync_counted c = record { all = counted c.all; reads = c.reads; writes = c.writes; syncs = counted c.syncs }

-- how a call goes on: it fails exactly where it is to, it is counted, and the list stays
pub record Goes {T : Type 0} (to_fail : Bool) (after : Counts) (old new : Memory) (result : Result T Failed) : Type 0 where
  pub fails : is_err result ≡ to_fail
  pub counts : new.counts ≡ after
  pub listed : new.listed ≡ old.listed
  pub time : Advances old.moment new.moment
  -- the count rises by one exactly where the call fails
  pub faults : new.faults ≡ (if to_fail then counted old.faults else old.faults)
  pub cause : HasCause old.faults new.faults result
  pub own : IsOwnImage (memory_shown old) ↔ IsOwnImage (memory_shown new)

-- a call that leaves contents and images
pub record Looks (old new : Memory) : Type 0 where
  pub bytes : new.bytes ≡ old.bytes
  pub spare : old.spare ≤ new.spare
  pub crash : Stays (memory_shown old) (memory_shown new)
  pub names : Renames as_named (memory_shown old) (memory_shown new)
  pub first : new.first ≡ old.first
  pub log : new.log ≡ old.log

pub record WritesAt (at : ℕ) (piece : List ℕ) (old new : Memory) (result : Result (Unit {0}) Failed) : Type 0 where
  pub contents : Writes at piece (Some old.bytes) (Some new.bytes) result
  pub unchanged : OnErr result (new.bytes ≡ old.bytes)
  pub spare : old.spare ≤ new.spare + length piece
  pub crash : Moves (Torn at (length piece)) (memory_shown old) (memory_shown new)
  pub opens : Opens (Torn at (length piece)) (memory_shown old) (memory_shown new)
  pub names : Renames (written_by_name at piece) (memory_shown old) (memory_shown new)
  pub first : new.first ≡ old.first
  -- the write is noted, also where it fails, and stays pending
  pub log : new.log ≡ (if nat_eq (length piece) 0 then old.log else old.log ++ noted old.moment (Put at piece) (is_err result) ∷ [])

pub record CutsAt (size : ℕ) (old new : Memory) (result : Result (Unit {0}) Failed) : Type 0 where
  pub contents : Cuts size (Some old.bytes) (Some new.bytes) result
  pub unchanged : OnErr result (new.bytes ≡ old.bytes)
  pub spare : old.spare ≤ new.spare + 1
  pub crash : Moves (CutOpen size) (memory_shown old) (memory_shown new)
  pub opens : Opens (CutOpen size) (memory_shown old) (memory_shown new)
  pub names : Renames (cut_by_name size) (memory_shown old) (memory_shown new)
  pub first : new.first ≡ old.first
  -- the cut is noted, also where it fails, and stays pending
  pub log : new.log ≡ old.log ++ noted old.moment (Shorten size) (is_err result) ∷ []

pub record Syncs (old new : Memory) (result : Result (Unit {0}) Failed) : Type 0 where
  pub rest : OnOk result (IsAtRest (memory_shown new))
  pub bytes : new.bytes ≡ old.bytes
  pub spare : old.spare ≤ new.spare
  pub crash : Moves Same (memory_shown old) (memory_shown new)
  pub opens : OpensUntil (memory_shown old) (memory_shown new) result
  pub names : RenamesSurely (memory_shown old) (memory_shown new) result
  pub first : new.first ≡ old.first
  -- where it fails, what was pending stays so
  pub log : MatchResult result (λ _. Secured new.moment old.log new.log) (λ _. new.log ≡ old.log)
