-- A site and its journal, opened to be read alone: this project's own. What is said of a text or of contents holds where
-- they are told.
use Rattle.std.specs.Prelude.{◌≡◌, ◌⊎◌, ℕ, ◌+◌, List, [], IfSome, Option, None}
use Rattle.rep_io.specs.Causes.{Rose}
use Rattle.rep_disk.specs.Disk.{Shown}
use Rattle.rep_wire.specs.declared.request.Entry.{Entry}
use Rattle.rep_journal.specs.Format.{IsBlank, IsForeign}
use Rattle.rep_journal.specs.Recovery.{RestsFrom}
use Rattle.rep_journal.specs.State.{IsKeptBy, MakesCalls}
use Rattle.rep_ledger.specs.Ledger.{IsLedgerOf, IsDamagedAt}
use Rattle.rep_ledger.specs.Safety.{IsSafe}
use Rattle.rep_site.specs.Site.{IsSite}
use Rattle.rep_site.specs.declared.site.Site.{Site}
use Rattle.rep_report.specs.declared.ending.Ending.TheVariants as ending
use Rattle.rep_store.specs.State.{State}
use Rattle.rep_run.specs.Settings.{SaysSite, RefusesSite, EndsReading}
use Rattle.rep_run.specs.declared.refusal.Refusal.{Refusal}
use Rattle.rep_run.specs.declared.refusal.Refusal.TheVariants as refusal
use Rattle.rep_run.specs.declared.stopping.Stopping.{Stopping}
use Rattle.rep_run.specs.declared.stopping.Stopping.TheVariants.{Refused, Ended}

-- the source of the site's text, and the disk of its journal
pub record Inputs (S D : Type 0) : Type 0 where
  pub site : S
  pub disk : D

-- their meanings
pub record Meanings (S D : Type 0) : Type 1 where
  pub left : S → Option (List ℕ)
  pub source_faults : S → ℕ
  pub shown : D → Shown

-- a site was read from its text
pub record HasSite {S D : Type 0} (m : Meanings S D) (old : Inputs S D) (site : Site) : Type 0 where
  pub in_range : IsSite site
  pub said : IfSome (m.left old.site) (λ text. SaysSite text site)

-- the text of the site is refused, and the disk isn't looked at
pub record RefusesText {S D : Type 0} (m : Meanings S D) (old new : Inputs S D) (why : Refusal) : Type 0 where
  pub text : IfSome (m.left old.site) (λ text. RefusesSite text why)
  pub disk : new.disk ≡ old.disk

-- the disk's contents are refused for this reason; a sync was made of them, and from it on a crash leaves nothing else
pub record RefusesContents {S D : Type 0} (m : Meanings S D) (old new : Inputs S D) (IsSo : List ℕ → Type 0) : Type 0 where
  pub site : Site
  pub has_site : HasSite m old site
  pub contents : IfSome (m.shown old.disk).contents IsSo
  pub disk : IsKeptBy (m.shown old.disk) (m.shown new.disk)
  pub rest : RestsFrom ((m.shown old.disk).moment + 2) (m.shown new.disk)

-- The disk failed while its journal was looked for: at the sync, which came first, or later.
pub record FailsToOpen {S D : Type 0} (m : Meanings S D) (old new : Inputs S D) : Type 0 where
  pub site : Site
  pub has_site : HasSite m old site
  pub cause : Rose (m.shown old.disk).faults (m.shown new.disk).faults
  pub disk : IsKeptBy (m.shown old.disk) (m.shown new.disk)
  pub rest : MakesCalls 1 (m.shown old.disk) (m.shown new.disk) ⊎ RestsFrom ((m.shown old.disk).moment + 2) (m.shown new.disk)

-- Memory was short: the disk wasn't looked at, or a sync was made of its contents, from which on a crash leaves nothing else.
pub record LacksMemory {S D : Type 0} (m : Meanings S D) (old new : Inputs S D) : Type 0 where
  pub disk : IsKeptBy (m.shown old.disk) (m.shown new.disk)
  pub rest : (new.disk ≡ old.disk) ⊎ RestsFrom ((m.shown old.disk).moment + 2) (m.shown new.disk)

-- how a command stops before the journal is open
abbrev pub StopsOpening : {S D : Type 0} → Meanings S D → Inputs S D → Inputs S D → Stopping → Type 0
StopsOpening m old new (Refused refusal.SiteText) = RefusesText m old new refusal.SiteText
StopsOpening m old new (Refused (refusal.SiteField key)) = RefusesText m old new (refusal.SiteField key)
StopsOpening m old new (Refused refusal.NoHead) = ⊥
StopsOpening m old new (Refused refusal.Foreign) = RefusesContents m old new IsForeign
StopsOpening m old new (Refused refusal.Blank) = RefusesContents m old new IsBlank
StopsOpening m old new (Refused refusal.Present) = ⊥
StopsOpening m old new (Refused (refusal.Damaged at)) = RefusesContents m old new (IsDamagedAt at)
StopsOpening m old new (Ended ending.SourceFault) =
    EndsReading m.left m.source_faults old.site new.site ending.SourceFault × (new.disk ≡ old.disk)
StopsOpening m old new (Ended ending.InputLimit) =
    EndsReading m.left m.source_faults old.site new.site ending.InputLimit × (new.disk ≡ old.disk)
StopsOpening m old new (Ended ending.OutOfMemory) = LacksMemory m old new
StopsOpening m old new (Ended ending.DeviceFault) = FailsToOpen m old new
StopsOpening m old new (Ended ending.AllAnswered) = ⊥
StopsOpening m old new (Ended ending.SomeRefused) = ⊥
StopsOpening m old new (Ended ending.SinkFault) = ⊥
StopsOpening m old new (Ended ending.ClockFault) = ⊥

-- The disk keeps this history of the site's journal, and is as it was, but that a sync was made of it and it was read. From
-- that sync on a crash leaves nothing but the history.
pub record Opens {S D : Type 0} (m : Meanings S D) (old new : Inputs S D) (site : Site) (h : List Entry) : Type 0 where
  pub has_site : HasSite m old site
  pub keeps : IfSome (m.shown old.disk).contents (λ bytes. IsLedgerOf bytes h)
  pub disk : IsKeptBy (m.shown old.disk) (m.shown new.disk)
  pub safe : IsSafe ((m.shown old.disk).moment + 2) h h [] (m.shown old.disk) (m.shown new.disk)

-- A store was opened over the journal of the site whose text was read; nothing was asked of its clock.
pub record OpensStore {S D C : Type 0} (m : Meanings S D) (was now : S) (disk : D) (clock : C) (store : State D C) : Type 0 where
  pub opens : (let old : Inputs S D = record { site = was; disk = disk } in
      let new : Inputs S D = record { site = now; disk = store.disk } in
      Opens m old new store.site store.history)
  pub rest : RestsFrom ((m.shown disk).moment + 2) (m.shown store.disk)
  pub running : store.stopped ≡ None
  pub same_clock : store.clock ≡ clock
  pub no_fault : (m.shown store.disk).faults ≡ (m.shown disk).faults

-- how a command stops where neither text nor contents are refused: memory was short, or the source or the disk failed
abbrev pub IsForWant : ℕ → ℕ → ℕ → ℕ → Stopping → Type 0
IsForWant source_before source_now disk_before disk_now stopping =
    (stopping ≡ Ended ending.OutOfMemory)
    ⊎ ((stopping ≡ Ended ending.SourceFault) × Rose source_before source_now)
    ⊎ ((stopping ≡ Ended ending.DeviceFault) × Rose disk_before disk_now)
