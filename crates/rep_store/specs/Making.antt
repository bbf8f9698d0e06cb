-- A store over a disk on which a journal is made or found: this project's own.
use Rattle.std.specs.Prelude.{◌≡◌, ◌⊎◌, ◌↔◌, ℕ, ◌+◌, ◌≤◌, ℤ, List, [], IfSome, Option, Some, None}
use Rattle.rep_io.specs.Causes.{Rose}
use Rattle.rep_disk.specs.Disk.{Shown, Changes, IsAtRest, IsOwnImage}
use Rattle.rep_wire.specs.declared.request.Request.{Request}
use Rattle.rep_site.specs.declared.site.Site.{Site}
use Rattle.rep_journal.specs.Format.{IsBlank}
use Rattle.rep_journal.specs.State.{IsKeptBy, IsRead, Leaves, MakesCalls}
use Rattle.rep_journal.specs.Recovery.{RestsFrom}
use Rattle.rep_journal.specs.declared.error.WhyNot.TheVariants.{DeviceFault}
use Rattle.rep_ledger.specs.Ledger.{IsLedgerOf, frames_of}
use Rattle.rep_ledger.specs.Safety.{IsSafe}
use Rattle.rep_store.specs.Founding.{founding_request}
use Rattle.rep_store.specs.State.{State, Holds}
use Rattle.rep_store.specs.Steps.{Ticks, recorded_at}
use Rattle.rep_store.specs.declared.error.NoStore.{NoStore}
use Rattle.rep_store.specs.declared.error.StoreWhy.{StoreWhy}
use Rattle.rep_store.specs.declared.error.StoreWhy.TheVariants.{ClockFault, Journal}

-- the store is the site's, with its limit and its offset, and no call was made of it
pub record IsNew {D C : Type 0} (site : Site) (s : State D C) : Type 0 where
  pub of_site : s.site ≡ site
  pub limit : s.limit ≡ site.last_nsr
  pub offset : s.offset ≡ site.offset
  pub faults : s.faults ≡ 0
  pub running : s.stopped ≡ None
  pub reading : s.reading ≡ None

-- a journal was made of a request's record, recorded at a reading of the clock
pub record Founds {D C : Type 0} (shown : D → Shown) (readings_of : C → Option (List ℕ)) (faults_of : C → ℕ) (q : Request) (disk : D) (clock : C) (s : State D C) : Type 0 where
  pub minute : ℕ
  pub ticks : Ticks readings_of faults_of minute clock s.clock
  pub history : s.history ≡ recorded_at [] q s.offset (Some minute)
  pub contents : Changes (λ _ bytes. IsLedgerOf bytes s.history) (shown disk).contents (shown s.disk).contents
  pub text : Leaves (frames_of s.history) (shown disk).contents (shown s.disk).contents
  pub rest : IsAtRest (shown s.disk)
  pub later : (shown disk).moment ≤ (shown s.disk).moment
  pub own : IsOwnImage (shown disk) ↔ IsOwnImage (shown s.disk)
  pub no_fault : (shown s.disk).faults ≡ (shown disk).faults

-- a new store of the site, of which the request's record was made the first
pub record FoundsStore {D C : Type 0} (shown : D → Shown) (readings_of : C → Option (List ℕ)) (faults_of : C → ℕ) (site : Site) (q : Request) (disk : D) (clock : C) (s : State D C) : Type 0 where
  pub is_new : IsNew site s
  pub founds : Founds shown readings_of faults_of q disk clock s

-- the journal of a site was made, on a disk that was blank
pub record Creates {D C : Type 0} (shown : D → Shown) (readings_of : C → Option (List ℕ)) (faults_of : C → ℕ) (site : Site) (disk : D) (clock : C) (s : State D C) : Type 0 where
  pub is_new : IsNew site s
  pub blank : IfSome (shown disk).contents IsBlank
  pub founds : Founds shown readings_of faults_of (founding_request site) disk clock s

-- the clock was read, and the disk failed when the journal was made: it is blank still, or keeps the request's record
pub record FailsToFound {D C : Type 0} (shown : D → Shown) (readings_of : C → Option (List ℕ)) (faults_of : C → ℕ) (q : Request) (offset : ℤ) (disk : D) (clock : C) (disk' : D) (clock' : C) : Type 0 where
  pub minute : ℕ
  pub ticks : Ticks readings_of faults_of minute clock clock'
  pub cause : Rose (shown disk).faults (shown disk').faults
  pub contents : Changes
      (λ was now. IsBlank was × (IsBlank now ⊎ IsLedgerOf now (recorded_at [] q offset (Some minute))))
      (shown disk).contents (shown disk').contents
  pub later : (shown disk).moment ≤ (shown disk').moment
  pub own : IsOwnImage (shown disk) ↔ IsOwnImage (shown disk')

-- the clock failed, or the disk
abbrev pub FoundsNone : {D C : Type 0} → (D → Shown) → (C → Option (List ℕ)) → (C → ℕ) → Site → Request → D → C → NoStore D C → Type 0
FoundsNone shown readings_of faults_of site q disk clock none =
    ((none.why ≡ ClockFault) × (none.disk ≡ disk) × (readings_of none.clock ≡ readings_of clock)
    × Rose (faults_of clock) (faults_of none.clock))
    ⊎ ((none.why ≡ Journal DeviceFault) × FailsToFound shown readings_of faults_of q site.offset disk clock none.disk none.clock)

-- a crash leaves a blank disk, or one that keeps the request's record, recorded at the reading that was taken
pub record CrashesSafely {C : Type 0} (readings_of : C → Option (List ℕ)) (faults_of : C → ℕ) (q : Request) (offset : ℤ) (clock clock' : C) (old new : Shown) : Type 0 where
  pub reading : Option ℕ
  pub taken : IfSome reading (λ minute. Ticks readings_of faults_of minute clock clock')
  pub safe : IsSafe old.moment [] (recorded_at [] q offset reading) [] old new

-- the disk failed when it was looked at, or when the journal was made
abbrev pub FailsToCreate : {D C : Type 0} → (D → Shown) → (C → Option (List ℕ)) → (C → ℕ) → Site → D → C → D → C → Type 0
FailsToCreate shown readings_of faults_of site disk clock disk' clock' =
    ((clock' ≡ clock) × IsRead (shown disk) (shown disk') × Rose (shown disk).faults (shown disk').faults)
    ⊎ FailsToFound shown readings_of faults_of (founding_request site) site.offset disk clock disk' clock'

-- Where no store was found: the sync, which comes first, failed and was the only device call, or from that sync on a crash
-- leaves the contents alone.
abbrev pub RestsUnlessFailed : StoreWhy → Shown → Shown → Type 0
RestsUnlessFailed why old new = ((why ≡ Journal DeviceFault) × MakesCalls 1 old new) ⊎ RestsFrom (old.moment + 2) new

-- a store of the history that the disk keeps
pub record Reopens {D C : Type 0} (shown : D → Shown) (site : Site) (disk : D) (clock : C) (s : State D C) : Type 0 where
  pub is_new : IsNew site s
  pub holds : Holds s.history (shown disk)
  pub same_clock : s.clock ≡ clock
  pub kept : IsKeptBy (shown disk) (shown s.disk)
  pub rest : RestsFrom ((shown disk).moment + 2) (shown s.disk)
  pub no_fault : (shown s.disk).faults ≡ (shown disk).faults
