-- How a command stops before the journal is open, from what its parts say.
use Rattle.std.proofs.Common.{◌≡◌, ◌≢◌, ℕ, ◌<◌, ◌≤◌, ◌⊎◌, ◌+◌, inl, inr, [], Result, Ok, Err, refl, ap, subst, sym, ◌∙◌, arith}
use Rattle.std.specs.Prelude.{IfSome, IsSome}
use Rattle.std.proofs.lemmas.List.Elements.{All-nil}
use Rattle.rep_io.specs.Causes.{Rose}
use Rattle.rep_disk.specs.Disk.{last_moment}
use Rattle.rep_journal.specs.Format.{IsBlank, IsForeign}
use Rattle.rep_journal.specs.State.{IsKeptBy, IsRead}
use Rattle.rep_journal.specs.declared.error.WhyNot.TheVariants as why
use Rattle.rep_ledger.specs.Ledger.{IsDamagedAt}
use Rattle.rep_ledger.specs.Safety.{IsSafe, Receipted}
use Rattle.rep_ledger.proofs.DiskSteps.{IsKeptBy-read}
use Rattle.rep_ledger.proofs.SafetyLemmas.{IsFrontOf-refl, Secures-trans}
use Rattle.rep_site.specs.Site.{IsSite}
use Rattle.rep_site.specs.declared.site.Site.{Site}
use Rattle.rep_store.specs.declared.error.StoreWhy.{StoreWhy}
use Rattle.rep_store.specs.declared.error.StoreWhy.TheVariants.{Journal, ClockFault}
use Rattle.rep_report.specs.declared.ending.Ending.TheVariants as ending
use Rattle.rep_journal.specs.Recovery.{RestsFrom}
use Rattle.rep_store.specs.Making.{Reopens, RestsUnlessFailed}
use Rattle.rep_store.specs.State.{State}
use Rattle.rep_run.specs.Creating.{status_of}
use Rattle.rep_run.specs.Settings.{ReadsSite, SaysSite}
use Rattle.rep_run.specs.Steps.{FailsToRead, stopping_of}
use Rattle.rep_run.specs.declared.refusal.Refusal.TheVariants as refusal
use Rattle.rep_run.specs.declared.stopping.Stopping.{Stopping}
use Rattle.rep_run.specs.declared.stopping.Stopping.TheVariants.{Refused, Ended}
use Rattle.rep_run.proofs.Known.{kept_same, map_some, same_err}
use Rattle.rep_query.specs.Opening.{Inputs, HasSite, IsForWant, Meanings, Opens, OpensStore, StopsOpening}

-- the text of the site stops it
module _ {S D : Type 0} (m : Meanings S D) (was now : S) (disk : D) where
  pub stops_reading : (stopping : Stopping) → ReadsSite m.left m.source_faults was now (Err stopping) → StopsOpening m (record { site = was; disk = disk }) (record { site = now; disk = disk }) stopping
  stops_reading (Refused refusal.SiteText) reads = record { text = reads.1; disk = refl }
  stops_reading (Refused (refusal.SiteField key)) reads = record { text = reads.1; disk = refl }
  stops_reading (Refused refusal.NoHead) reads = absurd reads.0
  stops_reading (Refused refusal.Foreign) reads = absurd reads.0
  stops_reading (Refused refusal.Blank) reads = absurd reads.0
  stops_reading (Refused refusal.Present) reads = absurd reads.0
  stops_reading (Refused (refusal.Damaged at)) reads = absurd reads.0
  stops_reading (Ended ending.SourceFault) reads = (reads, refl)
  stops_reading (Ended ending.InputLimit) reads = (reads, refl)
  stops_reading (Ended ending.OutOfMemory) reads = record { disk = kept_same (m.shown disk); rest = inl refl }
  stops_reading (Ended ending.AllAnswered) reads = absurd reads
  stops_reading (Ended ending.SomeRefused) reads = absurd reads
  stops_reading (Ended ending.SinkFault) reads = absurd reads
  stops_reading (Ended ending.DeviceFault) reads = absurd reads
  stops_reading (Ended ending.ClockFault) reads = absurd reads

-- the disk's contents stop it, or the disk
module _ {S D : Type 0} (m : Meanings S D) (was now : S) (disk disk' : D) (site : Site)
    (has_site : HasSite m (record { site = was; disk = disk }) site) (reason : StoreWhy)
    (blank : IfSome (m.shown disk).contents (λ bytes. reason ≡ Journal why.Blank → IsBlank bytes))
    (foreign : IfSome (m.shown disk).contents (λ bytes. reason ≡ Journal why.Foreign → IsForeign bytes))
    (damaged : (at : ℕ) → IfSome (m.shown disk).contents (λ bytes. reason ≡ Journal (why.Damaged at) → IsDamagedAt at bytes))
    (device_fault : reason ≡ Journal why.DeviceFault → Rose (m.shown disk).faults (m.shown disk').faults)
    (no_other : (reason ≢ Journal why.Present) × (reason ≢ ClockFault)) (kept : IsKeptBy (m.shown disk) (m.shown disk'))
    (rest : RestsUnlessFailed reason (m.shown disk) (m.shown disk')) where
  -- but for a failed device call a sync was made
  rests : reason ≢ Journal why.DeviceFault → RestsFrom ((m.shown disk).moment + 2) (m.shown disk')
  rests working = elim rest [ inl failed ↦ absurd (working failed.0) | inr rested ↦ rested ]

  stops_by : (other : StoreWhy) → reason ≡ other → StopsOpening m (record { site = was; disk = disk }) (record { site = now; disk = disk' }) (stopping_of other)
  stops_by (Journal why.Foreign) is = record {
    site = site;
    has_site = has_site;
    contents = map_some (λ bytes. reason ≡ Journal why.Foreign → IsForeign bytes) IsForeign (m.shown disk).contents (λ bytes so. so is) foreign;
    disk = kept;
    rest = rests (λ failed. absurd cc);
  }
  stops_by (Journal why.Blank) is = record {
    site = site;
    has_site = has_site;
    contents = map_some (λ bytes. reason ≡ Journal why.Blank → IsBlank bytes) IsBlank (m.shown disk).contents (λ bytes so. so is) blank;
    disk = kept;
    rest = rests (λ failed. absurd cc);
  }
  stops_by (Journal why.Present) is = absurd (no_other.0 is)
  stops_by (Journal (why.Damaged at)) is = record {
    site = site;
    has_site = has_site;
    contents = map_some (λ bytes. reason ≡ Journal (why.Damaged at) → IsDamagedAt at bytes) (IsDamagedAt at) (m.shown disk).contents (λ bytes so. so is) (damaged at);
    disk = kept;
    rest = rests (λ failed. absurd cc);
  }
  stops_by (Journal why.DeviceFault) is = record { site = site; has_site = has_site; cause = device_fault is; disk = kept; rest = elim rest [ inl failed ↦ inl failed.1 | inr rested ↦ inr rested ] }
  stops_by (Journal why.OutOfMemory) is = record { disk = kept; rest = inr (rests (λ failed. absurd cc)) }
  stops_by ClockFault is = absurd (no_other.1 is)

  pub stops_at_store : StopsOpening m (record { site = was; disk = disk }) (record { site = now; disk = disk' }) (stopping_of reason)
  stops_at_store = stops_by reason refl

-- neither text nor contents are refused

pub wants_text : (before now disk_before disk_now : ℕ) (stopping : Stopping) {T : Type 0} → FailsToRead {T = T} before now (Err stopping) → IsForWant before now disk_before disk_now stopping
wants_text before now disk_before disk_now stopping (inl short) = inl (same_err _ stopping (Ended ending.OutOfMemory) refl short)
wants_text before now disk_before disk_now stopping (inr failed) = inr (inl (same_err _ stopping (Ended ending.SourceFault) refl failed.0, failed.1))

pub wants_store : (before now disk_before disk_now : ℕ) (reason : StoreWhy) → (reason ≡ Journal why.DeviceFault → Rose disk_before disk_now) → (reason ≡ Journal why.DeviceFault) ⊎ (reason ≡ Journal why.OutOfMemory) → IsForWant before now disk_before disk_now (stopping_of reason)
wants_store before now disk_before disk_now reason cause (inl failed) = inr (inr (ap stopping_of failed, cause failed))
wants_store before now disk_before disk_now reason cause (inr short) = inl (ap stopping_of short)

-- a store was opened
pub opens_store : {S D C : Type 0} (m : Meanings S D) (was now : S) (disk : D) (clock : C) (site : Site) (store : State D C) → IsSite site → IfSome (m.left was) (λ text. SaysSite text site) → Reopens m.shown site disk clock store → IsSafe ((m.shown disk).moment + 2) store.history store.history [] (m.shown disk) (m.shown store.disk) → OpensStore m was now disk clock store
opens_store m was now disk clock site store in_range said reopens safe = record {
  opens = record {
    has_site = record {
      in_range = subst IsSite (sym reopens.is_new.of_site) in_range;
      said = subst (λ (s : Site). IfSome (m.left was) (λ text. SaysSite text s)) (sym reopens.is_new.of_site) said;
    };
    keeps = reopens.holds;
    disk = reopens.kept;
    safe = safe;
  };
  rest = reopens.rest;
  running = reopens.is_new.running;
  same_clock = reopens.same_clock;
  no_fault = reopens.no_fault;
}

-- a store that was opened, and only read since
pub opens_still : {S D C : Type 0} (m : Meanings S D) (was now : S) (disk disk' : D) (clock : C) (store store' : State D C) → OpensStore m was now disk clock store → disk' ≡ store'.disk
    → IsRead (m.shown store.disk) (m.shown store'.disk) → IsSafe (m.shown store.disk).moment store.history store.history [] (m.shown store.disk) (m.shown store'.disk)
    → Opens m (record { site = was; disk = disk }) (record { site = now; disk = disk' }) store.site store.history
opens_still {S} {D} {C} m was now disk disk' clock store store' opened is_disk read safe =
    let opens = opened.opens in
    subst (λ (d : D). Opens m (record { site = was; disk = disk }) (record { site = now; disk = d }) store.site store.history) (sym is_disk) (record {
      has_site = record { in_range = opens.has_site.in_range; said = opens.has_site.said };
      keeps = opens.keeps;
      disk = IsKeptBy-read (m.shown disk) (m.shown store.disk) (m.shown store'.disk) opens.disk read;
      safe = λ told below.
          let before : (m.shown store.disk).moment < last_moment = omega (arith, read.later) in
          Secures-trans ((m.shown disk).moment + 2) store.history store.history store.history [] [] (m.shown disk) (m.shown store.disk) (m.shown store'.disk)
          (opened.rest before).0 (All-nil (λ (r : Receipted). r.moment ≤ (m.shown store.disk).moment)) (IsFrontOf-refl store.history) (IsFrontOf-refl store.history)
          opens.disk.later (opens.safe told before) (safe (subst IsSome (sym opens.disk.contents) told) below);
    })

pub wants_read : (before now disk_before disk_now : ℕ) (result : Result Site Stopping) (stopping : Stopping) (site : Site) → result ≡ Err stopping → (result ≡ Ok site) ⊎ FailsToRead before now result → IsForWant before now disk_before disk_now stopping
wants_read before now disk_before disk_now result stopping site is (inl read) = let no : Err stopping ≡ Ok site = sym is ∙ read in absurd cc
wants_read before now disk_before disk_now result stopping site is (inr fails) =
    wants_text before now disk_before disk_now stopping {T = Site} (subst (λ (r : Result Site Stopping). FailsToRead before now r) is fails)

-- the statuses of what stops a command before the journal is open
module _ {S D : Type 0} (m : Meanings S D) (old new : Inputs S D) where
  pub stops_source : (stopping : Stopping) → StopsOpening m old new stopping → status_of stopping ≡ 4 → Rose (m.source_faults old.site) (m.source_faults new.site)
  stops_source (Refused refusal.SiteText) stops is = absurd (omega arith)
  stops_source (Refused (refusal.SiteField key)) stops is = absurd (omega arith)
  stops_source (Refused refusal.NoHead) stops is = absurd stops
  stops_source (Refused refusal.Foreign) stops is = absurd (omega arith)
  stops_source (Refused refusal.Blank) stops is = absurd (omega arith)
  stops_source (Refused refusal.Present) stops is = absurd stops
  stops_source (Refused (refusal.Damaged at)) stops is = absurd (omega arith)
  stops_source (Ended ending.SourceFault) stops is = stops.0
  stops_source (Ended ending.InputLimit) stops is = absurd (omega arith)
  stops_source (Ended ending.OutOfMemory) stops is = absurd (omega arith)
  stops_source (Ended ending.DeviceFault) stops is = absurd (omega arith)
  stops_source (Ended ending.AllAnswered) stops is = absurd stops
  stops_source (Ended ending.SomeRefused) stops is = absurd stops
  stops_source (Ended ending.SinkFault) stops is = absurd stops
  stops_source (Ended ending.ClockFault) stops is = absurd stops

  pub stops_sink : (stopping : Stopping) → StopsOpening m old new stopping → status_of stopping ≡ 5 → ⊥
  stops_sink (Refused refusal.SiteText) stops is = absurd (omega arith)
  stops_sink (Refused (refusal.SiteField key)) stops is = absurd (omega arith)
  stops_sink (Refused refusal.NoHead) stops is = absurd stops
  stops_sink (Refused refusal.Foreign) stops is = absurd (omega arith)
  stops_sink (Refused refusal.Blank) stops is = absurd (omega arith)
  stops_sink (Refused refusal.Present) stops is = absurd stops
  stops_sink (Refused (refusal.Damaged at)) stops is = absurd (omega arith)
  stops_sink (Ended ending.SourceFault) stops is = absurd (omega arith)
  stops_sink (Ended ending.InputLimit) stops is = absurd (omega arith)
  stops_sink (Ended ending.OutOfMemory) stops is = absurd (omega arith)
  stops_sink (Ended ending.DeviceFault) stops is = absurd (omega arith)
  stops_sink (Ended ending.AllAnswered) stops is = absurd stops
  stops_sink (Ended ending.SomeRefused) stops is = absurd stops
  stops_sink (Ended ending.SinkFault) stops is = absurd stops
  stops_sink (Ended ending.ClockFault) stops is = absurd stops

  pub stops_device : (stopping : Stopping) → StopsOpening m old new stopping → status_of stopping ≡ 6 → Rose (m.shown old.disk).faults (m.shown new.disk).faults
  stops_device (Refused refusal.SiteText) stops is = absurd (omega arith)
  stops_device (Refused (refusal.SiteField key)) stops is = absurd (omega arith)
  stops_device (Refused refusal.NoHead) stops is = absurd stops
  stops_device (Refused refusal.Foreign) stops is = absurd (omega arith)
  stops_device (Refused refusal.Blank) stops is = absurd (omega arith)
  stops_device (Refused refusal.Present) stops is = absurd stops
  stops_device (Refused (refusal.Damaged at)) stops is = absurd (omega arith)
  stops_device (Ended ending.SourceFault) stops is = absurd (omega arith)
  stops_device (Ended ending.InputLimit) stops is = absurd (omega arith)
  stops_device (Ended ending.OutOfMemory) stops is = absurd (omega arith)
  stops_device (Ended ending.DeviceFault) stops is = stops.cause
  stops_device (Ended ending.AllAnswered) stops is = absurd stops
  stops_device (Ended ending.SomeRefused) stops is = absurd stops
  stops_device (Ended ending.SinkFault) stops is = absurd stops
  stops_device (Ended ending.ClockFault) stops is = absurd stops

  pub stops_clock : (stopping : Stopping) → StopsOpening m old new stopping → status_of stopping ≡ 7 → ⊥
  stops_clock (Refused refusal.SiteText) stops is = absurd (omega arith)
  stops_clock (Refused (refusal.SiteField key)) stops is = absurd (omega arith)
  stops_clock (Refused refusal.NoHead) stops is = absurd stops
  stops_clock (Refused refusal.Foreign) stops is = absurd (omega arith)
  stops_clock (Refused refusal.Blank) stops is = absurd (omega arith)
  stops_clock (Refused refusal.Present) stops is = absurd stops
  stops_clock (Refused (refusal.Damaged at)) stops is = absurd (omega arith)
  stops_clock (Ended ending.SourceFault) stops is = absurd (omega arith)
  stops_clock (Ended ending.InputLimit) stops is = absurd (omega arith)
  stops_clock (Ended ending.OutOfMemory) stops is = absurd (omega arith)
  stops_clock (Ended ending.DeviceFault) stops is = absurd (omega arith)
  stops_clock (Ended ending.AllAnswered) stops is = absurd stops
  stops_clock (Ended ending.SomeRefused) stops is = absurd stops
  stops_clock (Ended ending.SinkFault) stops is = absurd stops
  stops_clock (Ended ending.ClockFault) stops is = absurd stops

-- where nothing failed, memory was short
pub short_of : (before now disk_before disk_now : ℕ) (stopping : Stopping) → IsForWant before now disk_before disk_now stopping → (Rose before now → ⊥) → (Rose disk_before disk_now → ⊥) → status_of stopping ≡ 8
short_of before now disk_before disk_now stopping (inl short) no_source no_disk = ap status_of short
short_of before now disk_before disk_now stopping (inr (inl failed)) no_source no_disk = absurd (no_source failed.1)
short_of before now disk_before disk_now stopping (inr (inr failed)) no_source no_disk = absurd (no_disk failed.1)
