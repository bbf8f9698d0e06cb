-- A disk in memory, as contracts see it: this project's own.
use Rattle.std.specs.Prelude.{◌≡◌, ℕ, ◌+◌, ◌≤◌, min, nat_eq, Bool, ◌||◌, List, [], Some}
use Rattle.std.specs.List.{list_any}
use Rattle.rep_io.specs.Causes.{last_count}
use Rattle.rep_disk.specs.Disk.{Shown, last_moment}
use Rattle.rep_disk.specs.Record.{Made, State, at_rest, image_of, replay, IsImage, IsDated, IsSoundState}

-- the numbers of the calls that fail, each kind of call numbered from 0
pub record Listed : Type 0 where
  -- among all device calls
  pub all : List ℕ
  pub reads : List ℕ
  pub writes : List ℕ
  pub syncs : List ℕ

-- how many calls there were
pub record Counts : Type 0 where
  pub all : ℕ
  pub reads : ℕ
  pub writes : ℕ
  pub syncs : ℕ

pub record Memory : Type 0 where
  -- what a read gives
  pub bytes : List ℕ
  -- the bytes that it was made with
  pub first : List ℕ
  -- the changes since, in order
  pub log : List Made
  pub spare : ℕ
  pub moment : ℕ
  pub faults : ℕ
  pub counts : Counts
  pub listed : Listed

-- how the disk stood at a moment
abbrev pub state_at : Memory → ℕ → State
state_at disk m = replay m (at_rest disk.first) disk.log

-- what a disk in memory shows
abbrev pub memory_shown : Memory → Shown
memory_shown disk = record {
  contents = Some disk.bytes;
  spare = disk.spare;
  moment = disk.moment;
  may_leave = λ m image. IsImage (state_at disk m) image;
  named = λ name m. Some (image_of name (state_at disk m));
  faults = disk.faults;
}

-- a disk that was just made
abbrev pub fresh : List ℕ → Listed → Memory
fresh bytes listed = record {
  bytes = bytes;
  first = bytes;
  log = [];
  spare = 0;
  moment = 0;
  faults = 0;
  counts = record { all = 0; reads = 0; writes = 0; syncs = 0 };
  listed = listed;
}

-- one more
abbrev pub counted : ℕ → ℕ
counted n = min (n + 1) last_count

-- the number stands in the list
abbrev pub is_in : ℕ → List ℕ → Bool
is_in n list = list_any (λ (m : ℕ). nat_eq m n) list

-- whether the next call fails, by its number among all calls and by that among its kind
abbrev pub length_fails : Memory → Bool
length_fails disk = is_in disk.counts.all disk.listed.all

abbrev pub read_fails : Memory → Bool
read_fails disk = is_in disk.counts.all disk.listed.all || is_in disk.counts.reads disk.listed.reads

abbrev pub write_fails : Memory → Bool
write_fails disk = is_in disk.counts.all disk.listed.all || is_in disk.counts.writes disk.listed.writes

abbrev pub cut_fails : Memory → Bool
cut_fails disk = is_in disk.counts.all disk.listed.all

abbrev pub sync_fails : Memory → Bool
sync_fails disk = is_in disk.counts.all disk.listed.all || is_in disk.counts.syncs disk.listed.syncs

-- no call is listed
abbrev pub nothing_listed : Listed
nothing_listed = record { all = []; reads = []; writes = []; syncs = [] }

-- what holds of every disk in memory
pub record IsSound (disk : Memory) : Type 0 where
  pub in_range : disk.moment ≤ last_moment
  pub faults_in_range : disk.faults ≤ last_count
  pub dated : IsDated disk.moment disk.log
  pub seen : (state_at disk disk.moment).seen ≡ disk.bytes
  pub sound : (m : ℕ) → IsSoundState (state_at disk m)
