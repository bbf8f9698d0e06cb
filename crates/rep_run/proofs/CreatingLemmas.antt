-- how a journal is made, and what is said of it
use Rattle.std.proofs.Common.{◌≡◌, ◌≢◌, ℕ, ◌<◌, ◌≤◌, ◌⊎◌, inl, inr, List, [], Option, Some, None, Err, refl, sym, ap, subst, ◌∙◌, arith}
use Rattle.std.specs.Prelude.{IfSome}
use Rattle.std.proofs.lemmas.List.Elements.{All-nil}
use Rattle.rep_io.specs.Causes.{Rose}
use Rattle.rep_disk.specs.Disk.{Shown, Changes, IsAtRest, last_moment}
use Rattle.rep_journal.specs.Format.{IsBlank, IsForeign, IsPresent}
use Rattle.rep_journal.specs.State.{IsRead, Leaves}
use Rattle.rep_journal.specs.declared.error.WhyNot.TheVariants as why
use Rattle.rep_ledger.specs.Ledger.{IsLedgerOf, frames_of}
use Rattle.rep_ledger.specs.Safety.{IsSafe, Receipted}
use Rattle.rep_ledger.proofs.SafetyLemmas.{Secures-read}
use Rattle.rep_site.specs.declared.site.Site.{Site}
use Rattle.rep_store.specs.Founding.{founding_request}
use Rattle.rep_store.specs.State.{State}
use Rattle.rep_wire.specs.declared.request.Entry.{Entry}
use Rattle.rep_store.specs.Steps.{Ticks, recorded_at}
use Rattle.rep_store.specs.Making.{Creates as CreatesStore, CrashesSafely as StoreCrashes, FailsToCreate}
use Rattle.rep_store.specs.Outcome.{Refuses}
use Rattle.rep_store.specs.declared.error.NoStore.{NoStore}
use Rattle.rep_store.specs.declared.error.StoreWhy.{StoreWhy}
use Rattle.rep_store.specs.declared.error.StoreWhy.TheVariants.{Journal, ClockFault}
use Rattle.rep_store.proofs.Openings.{blank_images}
use Rattle.rep_report.specs.Report.{created_text}
use Rattle.rep_report.specs.Saying.{Concludes, SaysLine, IsFront}
use Rattle.rep_report.specs.declared.ending.Ending.{Ending}
use Rattle.rep_report.specs.declared.ending.Ending.TheVariants as ending
use Rattle.rep_run.specs.declared.stopping.Stopping.{Stopping}
use Rattle.rep_run.specs.declared.stopping.Stopping.TheVariants.{Refused, Ended}
use Rattle.rep_run.specs.Creating.{Meanings, Parts, HasSite, MakesJournal, LooksAtDisk, Creates, CrashesSafely, SaysMade, done_text, last_text, status_of}
use Rattle.rep_run.specs.Steps.{IsMadeOrFails, stopping_of}
use Rattle.rep_run.proofs.Known.{use_some, map_some, Changes-map}

-- what is said

pub says_concluded : (told : Ending) (old new : Option (List ℕ)) (before now : ℕ) → Concludes ending.AllAnswered created_text old new before now told → SaysMade (Ended told) old new before now
says_concluded ending.AllAnswered old new before now c = record {
  put = c.put;
  closing = c.closing;
  said = c.said;
  middle = c.middle;
  since = c.since;
  until = c.until;
  put_front = c.put_front;
  closing_front = c.closing_front;
  made = λ _. c.counted tt;
  cut = λ never. absurd cc;
  put_whole = c.put_whole;
  closing_whole = c.closing_whole;
}
says_concluded ending.SinkFault old new before now c = record {
  put = c.put;
  closing = c.closing;
  said = c.said;
  middle = c.middle;
  since = c.since;
  until = c.until;
  put_front = c.put_front;
  closing_front = c.closing_front;
  made = λ never. absurd cc;
  cut = λ _. elim c.told [
    | inl same ↦ absurd cc
    | inr t ↦ (t.3, t.2)
  ];
  put_whole = c.put_whole;
  closing_whole = c.closing_whole;
}
says_concluded ending.SomeRefused old new before now c = elim c.told [ inl same ↦ absurd cc | inr t ↦ let is = t.0 in absurd cc ]
says_concluded ending.SourceFault old new before now c = elim c.told [ inl same ↦ absurd cc | inr t ↦ let is = t.0 in absurd cc ]
says_concluded ending.DeviceFault old new before now c = elim c.told [ inl same ↦ absurd cc | inr t ↦ let is = t.0 in absurd cc ]
says_concluded ending.ClockFault old new before now c = elim c.told [ inl same ↦ absurd cc | inr t ↦ let is = t.0 in absurd cc ]
says_concluded ending.OutOfMemory old new before now c = elim c.told [ inl same ↦ absurd cc | inr t ↦ let is = t.0 in absurd cc ]
says_concluded ending.InputLimit old new before now c = elim c.told [ inl same ↦ absurd cc | inr t ↦ let is = t.0 in absurd cc ]

-- nothing was to be said but the last line
undone : (stopping : Stopping) → stopping ≢ Ended ending.AllAnswered → stopping ≢ Ended ending.SinkFault → done_text stopping ≡ []
undone (Refused reason) unmade uncut = refl
undone (Ended ending.AllAnswered) unmade uncut = absurd (unmade refl)
undone (Ended ending.SinkFault) unmade uncut = absurd (uncut refl)
undone (Ended ending.SomeRefused) unmade uncut = refl
undone (Ended ending.SourceFault) unmade uncut = refl
undone (Ended ending.DeviceFault) unmade uncut = refl
undone (Ended ending.ClockFault) unmade uncut = refl
undone (Ended ending.OutOfMemory) unmade uncut = refl
undone (Ended ending.InputLimit) unmade uncut = refl

pub says_undone : (stopping : Stopping) (line : List ℕ) (old new : Option (List ℕ)) (before now : ℕ) → stopping ≢ Ended ending.AllAnswered → stopping ≢ Ended ending.SinkFault
    → line ≡ last_text stopping → before ≤ now → SaysLine line old new (Rose before now) → SaysMade stopping old new before now
says_undone stopping line old new before now unmade uncut is later said =
    let none = undone stopping unmade uncut in
    record {
      put = [];
      closing = said.put;
      said = said.said;
      middle = before;
      since = omega arith;
      until = later;
      put_front = (done_text stopping, refl);
      closing_front = subst (λ (l : List ℕ). IsFront said.put l) is said.front;
      made = λ same. absurd (unmade same);
      cut = λ same. absurd (uncut same);
      put_whole = λ _. sym none;
      closing_whole = λ whole. said.whole whole ∙ is;
    }

-- why contents were refused
pub refused_only : (A : Type 0) {D C : Type 0} (Is : List ℕ → Type 0) (reason : StoreWhy) (o : Option (List ℕ)) (none : NoStore D C) → Refuses {A = A} {D = D} {C = C} Is reason o (Err none)
    → IfSome o (λ bytes. none.why ≡ reason → Is bytes)
refused_only A Is reason None none refuses = tt
refused_only A Is reason (Some bytes) none refuses = refuses.only

-- what a crash leaves

-- a blank disk at rest that was read at most
pub blank_stays : (old new : Shown) → IsAtRest old → IfSome old.contents IsBlank → IsRead old new → IsSafe old.moment [] [] [] old new
blank_stays old new rest blank read told below =
    let earlier : old.moment < last_moment = let later = read.later in omega arith in
    Secures-read [] [] old new (blank_images old rest blank told earlier) read below (All-nil (λ (r : Receipted). (r.moment ≡ new.moment) × (r.nsr ≤ 0)))

module _ {S D C : Type 0} (m : Meanings S D C) (source source' : S) (disk disk' : D) (clock clock' : C) (site : Site)
    (has : HasSite m (record { source = source; disk = disk; clock = clock }) site) where
  pub makes_journal : (s : State D C) → CreatesStore m.shown m.readings m.clock_faults site disk clock s → disk' ≡ s.disk → clock' ≡ s.clock
      → MakesJournal m (record { source = source; disk = disk; clock = clock }) (record { source = source'; disk = disk'; clock = clock' })
  makes_journal s creates same_disk same_clock =
      let founds = creates.founds in
      let history : s.history ≡ recorded_at [] (founding_request site) site.offset (Some founds.minute) =
      founds.history ∙ ap (λ o. recorded_at [] (founding_request site) o (Some founds.minute)) creates.is_new.offset in
      record {
        site = site;
        has_site = has;
        minute = founds.minute;
        ticks = subst (λ (k : C). Ticks m.readings m.clock_faults founds.minute clock k) (sym same_clock) founds.ticks;
        contents = subst (λ (d : D). Changes (λ was now. IsBlank was × IsLedgerOf now (recorded_at [] (founding_request site) site.offset (Some founds.minute)))
            (m.shown disk).contents (m.shown d).contents) (sym same_disk)
            (Changes-map (λ was now. IsLedgerOf now s.history)
            (λ was now. IsBlank was × IsLedgerOf now (recorded_at [] (founding_request site) site.offset (Some founds.minute)))
            (m.shown disk).contents (m.shown s.disk).contents
            (λ was now told ledger. (use_some IsBlank (m.shown disk).contents was told creates.blank, subst (λ (h : List Entry). IsLedgerOf now h) history ledger)) founds.contents);
        text = subst (λ (d : D). Leaves (frames_of (recorded_at [] (founding_request site) site.offset (Some founds.minute))) (m.shown disk).contents (m.shown d).contents) (sym same_disk)
            (subst (λ (h : List Entry). Leaves (frames_of h) (m.shown disk).contents (m.shown s.disk).contents) history founds.text);
        rest = subst (λ (d : D). IsAtRest (m.shown d)) (sym same_disk) founds.rest;
      }

  pub makes_safe : (s : State D C) → CreatesStore m.shown m.readings m.clock_faults site disk clock s → disk' ≡ s.disk → clock' ≡ s.clock
      → IsSafe (m.shown disk).moment [] s.history [] (m.shown disk) (m.shown s.disk)
      → CrashesSafely m (record { source = source; disk = disk; clock = clock }) (record { source = source'; disk = disk'; clock = clock' })
  makes_safe s creates same_disk same_clock safe =
      let founds = creates.founds in
      let history : s.history ≡ recorded_at [] (founding_request site) site.offset (Some founds.minute) =
      founds.history ∙ ap (λ o. recorded_at [] (founding_request site) o (Some founds.minute)) creates.is_new.offset in
      record {
        whole = s.history;
        begun = inr (
          site,
          founds.minute,
          has,
          subst (λ (k : C). Ticks m.readings m.clock_faults founds.minute clock k) (sym same_clock) founds.ticks,
          history,
        );
        safe = subst (λ (d : D). IsSafe (m.shown disk).moment [] s.history [] (m.shown disk) (m.shown d)) (sym same_disk) safe;
      }

  pub fails_safe : StoreCrashes m.readings m.clock_faults (founding_request site) site.offset clock clock' (m.shown disk) (m.shown disk')
      → CrashesSafely m (record { source = source; disk = disk; clock = clock }) (record { source = source'; disk = disk'; clock = clock' })
  fails_safe crash = by crash.reading crash.taken crash.safe
    where
      by : (reading : Option ℕ) → IfSome reading (λ minute. Ticks m.readings m.clock_faults minute clock clock')
          → IsSafe (m.shown disk).moment [] (recorded_at [] (founding_request site) site.offset reading) [] (m.shown disk) (m.shown disk')
          → CrashesSafely m (record { source = source; disk = disk; clock = clock }) (record { source = source'; disk = disk'; clock = clock' })
      by None taken safe = record { whole = []; begun = inl refl; safe = safe }
      by (Some minute) taken safe = record {
        whole = recorded_at [] (founding_request site) site.offset (Some minute);
        begun = inr (site, minute, has, taken, refl);
        safe = safe;
      }

  -- why no store was made
  module _ (reason : StoreWhy)
      (foreign : IfSome (m.shown disk).contents (λ bytes. reason ≡ Journal why.Foreign → IsForeign bytes))
      (present : IfSome (m.shown disk).contents (λ bytes. reason ≡ Journal why.Present → IsPresent bytes))
      (device_fault : reason ≡ Journal why.DeviceFault → FailsToCreate m.shown m.readings m.clock_faults site disk clock disk' clock')
      (clock_fault : reason ≡ ClockFault → Rose (m.clock_faults clock) (m.clock_faults clock') × IfSome (m.shown disk).contents IsBlank)
      (kept : reason ≢ Journal why.DeviceFault → IsRead (m.shown disk) (m.shown disk') × (m.readings clock' ≡ m.readings clock))
      (looked_at_first : reason ≢ ClockFault → reason ≢ Journal why.DeviceFault → clock' ≡ clock)
      (no_other : (reason ≢ Journal why.Blank) × ((at : ℕ) → reason ≢ Journal (why.Damaged at))) where
    looks : reason ≢ ClockFault → reason ≢ Journal why.DeviceFault → LooksAtDisk m (record { source = source; disk = disk; clock = clock }) (record { source = source'; disk = disk'; clock = clock' })
    looks untimed working = record { disk = (kept working).0; clock = looked_at_first untimed working }

    by_reason : (other : StoreWhy) → reason ≡ other → Creates m (record { source = source; disk = disk; clock = clock }) (record { source = source'; disk = disk'; clock = clock' }) (stopping_of other)
    by_reason (Journal why.Foreign) is = record {
      site = site;
      has_site = has;
      contents = map_some (λ bytes. reason ≡ Journal why.Foreign → IsForeign bytes) IsForeign (m.shown disk).contents (λ bytes so. so is) foreign;
      looks = looks (λ timed. absurd cc) (λ failed. absurd cc);
    }
    by_reason (Journal why.Present) is = record {
      site = site;
      has_site = has;
      contents = map_some (λ bytes. reason ≡ Journal why.Present → IsPresent bytes) IsPresent (m.shown disk).contents (λ bytes so. so is) present;
      looks = looks (λ timed. absurd cc) (λ failed. absurd cc);
    }
    by_reason (Journal why.Blank) is = absurd (no_other.0 is)
    by_reason (Journal (why.Damaged at)) is = absurd (no_other.1 at is)
    by_reason (Journal why.DeviceFault) is = elim (device_fault is) [
      | inl t ↦ inl (record { site = site; has_site = has; looks = record { disk = t.1; clock = t.0 }; cause = t.2 })
      | inr t ↦ inr (record { site = site; has_site = has; minute = t.minute; ticks = t.ticks; cause = t.cause; contents = t.contents })
    ]
    by_reason (Journal why.OutOfMemory) is = looks (λ timed. absurd cc) (λ failed. absurd cc)
    by_reason ClockFault is = record {
      site = site;
      has_site = has;
      blank = (clock_fault is).1;
      cause = (clock_fault is).0;
      readings = (kept (λ failed. absurd cc)).1;
      disk = (kept (λ failed. absurd cc)).0;
    }

    pub fails_to_make : Creates m (record { source = source; disk = disk; clock = clock }) (record { source = source'; disk = disk'; clock = clock' }) (stopping_of reason)
    fails_to_make = by_reason reason refl

    -- over a blank disk
    fails_by : (other : StoreWhy) → reason ≡ other → (bytes : List ℕ) → IsBlank bytes → (reason ≡ Journal why.Foreign → IsForeign bytes) → (reason ≡ Journal why.Present → IsPresent bytes) → IsMadeOrFails (stopping_of other)
    fails_by (Journal why.Foreign) is bytes blank f p = absurd ((f is).not_blank blank)
    fails_by (Journal why.Present) is bytes blank f p = absurd ((p is).not_blank blank)
    fails_by (Journal why.Blank) is bytes blank f p = absurd (no_other.0 is)
    fails_by (Journal (why.Damaged at)) is bytes blank f p = absurd (no_other.1 at is)
    fails_by (Journal why.DeviceFault) is bytes blank f p = inr (inr (inr (inl refl)))
    fails_by (Journal why.OutOfMemory) is bytes blank f p = inr (inl refl)
    fails_by ClockFault is bytes blank f p = inr (inr (inr (inr refl)))

    pub fails_blank : IfSome (m.shown disk).contents (λ bytes. IsBlank bytes → IsMadeOrFails (stopping_of reason))
    fails_blank = both (m.shown disk).contents foreign present
      where
        both : (o : Option (List ℕ)) → IfSome o (λ bytes. reason ≡ Journal why.Foreign → IsForeign bytes) → IfSome o (λ bytes. reason ≡ Journal why.Present → IsPresent bytes)
            → IfSome o (λ bytes. IsBlank bytes → IsMadeOrFails (stopping_of reason))
        both None f p = tt
        both (Some bytes) f p = λ blank. fails_by reason refl bytes blank f p

-- what a call told, where it had stopped by a fault
pub fault_told : (stopping told : Stopping) → (told ≡ stopping) ⊎ ((stopping ≡ Ended ending.AllAnswered) × (told ≡ Ended ending.SinkFault)) → (fault : Ending) → fault ≢ ending.AllAnswered
    → stopping ≡ Ended fault → status_of told ≡ status_of (Ended fault)
fault_told stopping told (inl same) fault failed is = ap status_of (same ∙ is)
fault_told stopping told (inr t) fault failed is = let made = t.0 in absurd (failed cc)

-- a call of `create` in which nothing of the outside fails
pub complete_made : {S D C : Type 0} (m : Meanings S D C) (old new : Parts S D C) (stopping told : Stopping) (out_old out_new : Option (List ℕ)) (before now : ℕ)
    → IsMadeOrFails stopping → Creates m old new stopping → SaysMade told out_old out_new before now
    → (told ≡ stopping) ⊎ ((stopping ≡ Ended ending.AllAnswered) × (told ≡ Ended ending.SinkFault))
    → (Rose (m.source_faults old.source) (m.source_faults new.source) → ⊥) → (Rose (m.clock_faults old.clock) (m.clock_faults new.clock) → ⊥)
    → (Rose before now → ⊥) → (Rose (m.shown old.disk).faults (m.shown new.disk).faults → ⊥) → (status_of told ≡ 0) ⊎ (status_of told ≡ 8)
complete_made m old new stopping told out_old out_new before now made creates says (inr cut) no_source no_clock no_out no_disk =
    let rose : Rose before says.middle = (says.cut cut.1).1 in
    let until = says.until in
    absurd (no_out (omega arith))
complete_made m old new stopping told out_old out_new before now (inl made) creates says (inl same) no_source no_clock no_out no_disk = inl (ap status_of (same ∙ made))
complete_made m old new stopping told out_old out_new before now (inr (inl short)) creates says (inl same) no_source no_clock no_out no_disk = inr (ap status_of (same ∙ short))
complete_made m old new stopping told out_old out_new before now (inr (inr (inl failed))) creates says (inl same) no_source no_clock no_out no_disk =
    absurd (no_source (subst (λ (s : Stopping). Creates m old new s) failed creates).0)
complete_made m old new stopping told out_old out_new before now (inr (inr (inr (inl failed)))) creates says (inl same) no_source no_clock no_out no_disk =
    elim (subst (λ (s : Stopping). Creates m old new s) failed creates) [
      | inl looks ↦ absurd (no_disk looks.cause)
      | inr part ↦ absurd (no_disk part.cause)
    ]
complete_made m old new stopping told out_old out_new before now (inr (inr (inr (inr failed)))) creates says (inl same) no_source no_clock no_out no_disk =
    absurd (no_clock (subst (λ (s : Stopping). Creates m old new s) failed creates).cause)
