-- A store over a journal that was made, and what is left where none was.
use Rattle.std.proofs.Common.{◌≡◌, ◌≢◌, ℕ, ◌-◌, ◌≤◌, ◌⊎◌, inl, inr, ℤ, List, [], ◌∷◌, length, Option, Some, None, Result, Ok, Err, refl, sym, ap, subst, ◌∙◌, arith}
use Rattle.std.specs.Prelude.{IfErr, IfOk, IfSome, IsSome, MatchResult}
use Rattle.std.proofs.lemmas.List.Elements.{All-nil}
use Rattle.rep_fields.specs.Moment.{Moment, IsMoment, moment_at}
use Rattle.afd_records.specs.Record.{last_nsr}
use Rattle.rep_disk.specs.Disk.{Shown, Changes, IsAtRest}
use Rattle.rep_wire.specs.Request.{IsFounding}
use Rattle.rep_wire.specs.declared.request.Entry.{Entry}
use Rattle.rep_wire.specs.declared.request.Request.{Request}
use Rattle.rep_core.specs.Answered.{entry_of}
use Rattle.rep_core.specs.Core.{Kept, IsLimit}
use Rattle.rep_core.specs.Valid.{IsFounded}
use Rattle.rep_core.proofs.Validity.{IsFounded-first}
use Rattle.rep_site.specs.Site.{IsSite}
use Rattle.rep_site.specs.declared.site.Site.{Site}
use Rattle.rep_journal.specs.Format.{Framed, IsBlank, IsJournalOf}
use Rattle.rep_journal.specs.State.{Begins, FailsToBegin, IsLeftBefore, IsRead, Leaves}
use Rattle.rep_journal.specs.State as journal
use Rattle.rep_journal.specs.Recovery.{CreateMoments}
use Rattle.rep_journal.specs.Recovery as recovery
use Rattle.rep_journal.specs.declared.error.WhyNot.{WhyNot}
use Rattle.rep_journal.specs.declared.error.WhyNot.TheVariants as why
use Rattle.rep_ledger.specs.Ledger.{IsLedgerOf, frames_of, next_frame}
use Rattle.rep_ledger.specs.Safety.{IsSafe, Receipted}
use Rattle.rep_ledger.proofs.DiskSteps.{Changes-weaker, IsAtRest-read}
use Rattle.rep_ledger.proofs.LedgerLemmas.{frames_of-push}
use Rattle.rep_ledger.proofs.SafetyLemmas.{IsFrontOf-nil, IsFrontOf-refl, Secures-create, Secures-read, Secures-trans}
use Rattle.rep_store.specs.Device.{Device, running}
use Rattle.rep_store.specs.Fields.{IsWhole, state_of}
use Rattle.rep_store.specs.Founding.{founding_request}
use Rattle.rep_store.specs.Making.{CrashesSafely, Creates, FailsToCreate, FailsToFound, FoundsNone, FoundsStore}
use Rattle.rep_store.specs.Outcome.{Refuses}
use Rattle.rep_store.specs.State.{State}
use Rattle.rep_store.specs.Steps.{Ticks, recorded_at}
use Rattle.rep_store.specs.declared.error.NoStore.{NoStore}
use Rattle.rep_store.specs.declared.error.StoreWhy.TheVariants.{ClockFault, Journal}
use Rattle.rep_store.proofs.Contents.{after_change}
use Rattle.rep_store.proofs.Openings.{blank_images}

-- on a blank disk at rest that was read at most a crash leaves the empty history
pub IsSafe-blank : (a b : Shown) → IsAtRest a → IfSome a.contents IsBlank → IsRead a b → IsSafe a.moment [] [] [] a b
IsSafe-blank a b rest blank read told below =
    Secures-read [] [] a b (blank_images a rest blank told (omega (arith, read.later))) read below (All-nil (λ (r : Receipted). (r.moment ≡ b.moment) × (r.nsr ≤ 0)))

pub CrashesSafely-blank : {C : Type 0} (readings_of : C → Option (List ℕ)) (faults_of : C → ℕ) (q : Request) (offset : ℤ) (clock clock' : C) (a b : Shown) → IsAtRest a → IfSome a.contents IsBlank → IsRead a b → CrashesSafely readings_of faults_of q offset clock clock' a b
CrashesSafely-blank readings_of faults_of q offset clock clock' a b rest blank read = record { reading = None; taken = tt; safe = IsSafe-blank a b rest blank read }

-- what a crash leaves of a blank disk that was read before
IsSafe-read_before : (h : List Entry) (a b c : Shown) → IsAtRest a → IfSome a.contents IsBlank → IsRead a b → b.moment ≤ c.moment → (IsAtRest b → IsSafe b.moment [] h [] b c) → IsSafe a.moment [] h [] a c
IsSafe-read_before h a b c rest blank read later safe told below =
    Secures-trans a.moment [] [] h [] [] a b c read.later (All-nil (λ (r : Receipted). r.moment ≤ b.moment)) (IsFrontOf-refl []) (IsFrontOf-nil h) read.later
    (IsSafe-blank a b rest blank read told (omega arith))
    (safe (IsAtRest-read a b rest read) (subst IsSome (sym read.contents) told) below)

module _ {D C : Type 0} (shown : D → Shown) (readings_of : C → Option (List ℕ)) (faults_of : C → ℕ) (site : Site) (is_site : IsSite site) (q : Request) (founding : IsFounding q) (vacant : D) (clock clock' : C) (minute : ℕ) (now : Moment) (stamp : IsMoment now) (ticks : Ticks readings_of faults_of minute clock clock') (at : now ≡ moment_at minute site.offset) (frame : Framed) (is_frame : frame ≡ next_frame [] (entry_of q now)) where
  first : Entry
  first = entry_of q now

  is_founded : IsFounded (entry_of q now ∷ [])
  is_founded = IsFounded-first q now founding stamp

  kept_frames : frame ∷ [] ≡ frames_of (entry_of q now ∷ [])
  kept_frames = ap (λ (f : Framed). f ∷ []) is_frame ∙ sym (frames_of-push [] (entry_of q now))

  history_at : entry_of q now ∷ [] ≡ recorded_at [] q site.offset (Some minute)
  history_at = ap (λ m. entry_of q m ∷ []) at

  ledger : (bytes : List ℕ) → IsJournalOf bytes (frame ∷ []) → IsLedgerOf bytes (entry_of q now ∷ [])
  ledger bytes journal = record { founded = is_founded; journal = subst (IsJournalOf bytes) kept_frames journal }

  safe_founded : (after : Shown) → recovery.Creates frame (shown vacant) after → IsAtRest (shown vacant) → IsSafe (shown vacant).moment [] (entry_of q now ∷ []) [] (shown vacant) after
  safe_founded after crash rest told below =
      Secures-create (entry_of q now) (shown vacant) after is_founded
      (subst (λ (f : Framed). CreateMoments f (shown vacant) after) is_frame (crash told rest below))

  module _ (core' : Kept) (entries : core'.entries ≡ entry_of q now ∷ []) (limit : core'.limit ≡ site.last_nsr) (made : journal.State D) (device : Device D) (is_running : device ≡ running made) (copy : Site) (is_copy : copy ≡ site) (begins : Begins shown frame vacant made) where
    contents : Changes (λ _ bytes. IsLedgerOf bytes core'.entries) (shown vacant).contents (shown made.disk).contents
    contents =
        Changes-weaker (shown vacant).contents (shown made.disk).contents
        (λ _ bytes. IsJournalOf bytes (frame ∷ [])) (λ _ bytes. IsLedgerOf bytes core'.entries)
        (λ was bytes told journal. subst (IsLedgerOf bytes) (sym entries) (ledger bytes journal))
        begins.contents

    pub IsWhole-founded : IsWhole shown core' device copy
    IsWhole-founded =
        subst (λ (d : Device D). IsWhole shown core' d copy) (sym is_running) (record {
          founded = subst IsFounded (sym entries) is_founded;
          numbers = omega (arith, ap length entries);
          limit = subst IsLimit (sym limit) (is_site.some_nsr, is_site.last_nsr);
          of_site = limit ∙ ap (λ (s : Site). s.last_nsr) (sym is_copy);
          is_site = subst IsSite (sym is_copy) is_site;
          disk = record {
            holds = after_change (shown vacant).contents (shown made.disk).contents (λ bytes. IsLedgerOf bytes core'.entries) contents;
            rest = begins.rest;
          };
          count = tt;
          as_many = λ runs. ap length begins.frames ∙ sym (ap length entries);
          frames = λ runs told. begins.frames ∙ kept_frames ∙ ap frames_of (sym entries);
        })

    pub FoundsStore-founded : FoundsStore shown readings_of faults_of site q vacant clock (state_of core' device clock' copy None)
    FoundsStore-founded =
        subst (λ (d : Device D). FoundsStore shown readings_of faults_of site q vacant clock (state_of core' d clock' copy None)) (sym is_running) (record {
          is_new = record { of_site = is_copy; limit = limit; offset = ap (λ (s : Site). s.offset) is_copy; faults = begins.faults; running = refl; reading = refl };
          founds = record {
            minute = minute;
            ticks = ticks;
            history = entries ∙ history_at ∙ ap (λ (s : Site). recorded_at [] q s.offset (Some minute)) (sym is_copy);
            contents = contents;
            text = subst (λ (fs : List Framed). Leaves fs (shown vacant).contents (shown made.disk).contents) (kept_frames ∙ ap frames_of (sym entries)) begins.text;
            rest = begins.rest;
            later = begins.later;
            own = begins.own;
            no_fault = begins.no_fault;
          };
        })

    pub IsSafe-founded : recovery.Creates frame (shown vacant) (shown made.disk) → IsAtRest (shown vacant) → IsSafe (shown vacant).moment [] core'.entries [] (shown vacant) (shown device.disk)
    IsSafe-founded crash rest =
        subst (λ (d : Device D). IsSafe (shown vacant).moment [] core'.entries [] (shown vacant) (shown d.disk)) (sym is_running)
        (subst (λ h. IsSafe (shown vacant).moment [] h [] (shown vacant) (shown made.disk)) (sym entries) (safe_founded (shown made.disk) crash rest))

  module _ (disk' : D) (blank : IfSome (shown vacant).contents IsBlank) (fails : FailsToBegin frame (shown vacant) (shown disk')) where
    was_blank : (bytes : List ℕ) → (shown vacant).contents ≡ Some bytes → IsBlank bytes
    was_blank bytes told = subst (λ o. IfSome o IsBlank) told blank

    pub FailsToFound-begin : FailsToFound shown readings_of faults_of q site.offset vacant clock disk' clock'
    FailsToFound-begin = record {
      minute = minute;
      ticks = ticks;
      cause = fails.cause;
      contents = Changes-weaker (shown vacant).contents (shown disk').contents
          (λ _ bytes. IsLeftBefore (fails.due - fails.fails.failed) frame bytes)
          (λ was bytes. IsBlank was × (IsBlank bytes ⊎ IsLedgerOf bytes (recorded_at [] q site.offset (Some minute))))
          (λ was bytes told left. (
            was_blank was told,
            elim left.either [
              | inl still ↦ inl still
              | inr journal ↦ inr (subst (IsLedgerOf bytes) history_at (ledger bytes journal))
            ],
          ))
          fails.fails.contents;
      later = let calls = fails.fails.calls in omega arith;
      own = fails.own;
    }

    pub CrashesSafely-begin : recovery.Creates frame (shown vacant) (shown disk') → IsAtRest (shown vacant) → CrashesSafely readings_of faults_of q site.offset clock clock' (shown vacant) (shown disk')
    CrashesSafely-begin crash rest = record {
      reading = Some minute;
      taken = ticks;
      safe = subst (λ h. IsSafe (shown vacant).moment [] h [] (shown vacant) (shown disk')) history_at (safe_founded (shown disk') crash rest);
    }

-- what a store's founding answers, where the disk was read before
module _ {D C : Type 0} (shown : D → Shown) (readings_of : C → Option (List ℕ)) (faults_of : C → ℕ) (site : Site) (disk vacant : D) (clock : C) (read : IsRead (shown disk) (shown vacant)) (no_fault : (shown vacant).faults ≡ (shown disk).faults) (blank : IfSome (shown disk).contents IsBlank) where
  Creates-read : (s : State D C) → FoundsStore shown readings_of faults_of site (founding_request site) vacant clock s → Creates shown readings_of faults_of site disk clock s
  Creates-read s founded =
      let founds = founded.founds in
      record {
        is_new = founded.is_new;
        blank = blank;
        founds = record {
          minute = founds.minute;
          ticks = founds.ticks;
          history = founds.history;
          contents = subst (λ o. Changes (λ _ bytes. IsLedgerOf bytes s.history) o (shown s.disk).contents) read.contents founds.contents;
          text = subst (λ o. Leaves (frames_of s.history) o (shown s.disk).contents) read.contents founds.text;
          rest = founds.rest;
          later = omega (arith, founds.later, read.later);
          own = (λ own. founds.own.0 (read.own.0 own), λ own. read.own.1 (founds.own.1 own));
          no_fault = founds.no_fault ∙ no_fault;
        };
      }

  FailsToFound-read : (disk' : D) (clock' : C) → FailsToFound shown readings_of faults_of (founding_request site) site.offset vacant clock disk' clock' → FailsToFound shown readings_of faults_of (founding_request site) site.offset disk clock disk' clock'
  FailsToFound-read disk' clock' fails = record {
    minute = fails.minute;
    ticks = fails.ticks;
    cause = omega (arith, fails.cause, read.faults);
    contents = subst (λ o. Changes (λ was now. IsBlank was × (IsBlank now ⊎ IsLedgerOf now (recorded_at [] (founding_request site) site.offset (Some fails.minute)))) o (shown disk').contents) read.contents fails.contents;
    later = omega (arith, fails.later, read.later);
    own = (λ own. fails.own.0 (read.own.0 own), λ own. read.own.1 (fails.own.1 own));
  }

  why_of_none : (none : NoStore D C) → FoundsNone shown readings_of faults_of site (founding_request site) vacant clock none → (none.why ≡ ClockFault) ⊎ (none.why ≡ Journal why.DeviceFault)
  why_of_none none (inl no_time) = inl no_time.0
  why_of_none none (inr fault) = inr fault.0

  -- not for another reason
  no_reason : (none : NoStore D C) (reason : WhyNot) → FoundsNone shown readings_of faults_of site (founding_request site) vacant clock none → (reason ≡ why.DeviceFault → ⊥) → none.why ≡ Journal reason → ⊥
  no_reason none reason is other same = elim (why_of_none none is) [
    | inl no_time ↦ let differs : ClockFault ≡ Journal reason = sym no_time ∙ same in absurd cc
    | inr fault ↦ let differs : Journal why.DeviceFault ≡ Journal reason = sym fault ∙ same in let reasons : reason ≡ why.DeviceFault = cc in absurd (other reasons)
  ]

  pub created_by : (result : Result (State D C) (NoStore D C)) → IfOk result (FoundsStore shown readings_of faults_of site (founding_request site) vacant clock) → IfOk result (Creates shown readings_of faults_of site disk clock)
  created_by (Ok s) founded = Creates-read s founded
  created_by (Err none) founded = tt

  pub refuses_by : (Is : List ℕ → Type 0) (reason : WhyNot) (result : Result (State D C) (NoStore D C)) → ((bytes : List ℕ) → Is bytes → IsBlank bytes → ⊥) → (reason ≡ why.DeviceFault → ⊥) → IfErr result (FoundsNone shown readings_of faults_of site (founding_request site) vacant clock) → Refuses Is (Journal reason) (shown disk).contents result
  refuses_by Is reason result excluded other refused = by_contents (shown disk).contents blank result refused
    where
      by_contents : (o : Option (List ℕ)) → IfSome o IsBlank → (r : Result (State D C) (NoStore D C)) → IfErr r (FoundsNone shown readings_of faults_of site (founding_request site) vacant clock) → Refuses Is (Journal reason) o r
      by_contents None empty r is = tt
      by_contents (Some bytes) empty (Ok s) is = record { only = λ same. absurd same; all = λ so. absurd (excluded bytes so empty) }
      by_contents (Some bytes) empty (Err none) is = record {
        only = λ same. absurd (no_reason none reason is other same);
        all = λ so. absurd (excluded bytes so empty);
      }

  pub device_fault_by : (result : Result (State D C) (NoStore D C)) → IfErr result (FoundsNone shown readings_of faults_of site (founding_request site) vacant clock) → IfErr result (λ e. e.why ≡ Journal why.DeviceFault → FailsToCreate shown readings_of faults_of site disk clock e.disk e.clock)
  device_fault_by (Ok s) refused = tt
  device_fault_by (Err none) (inl no_time) = λ same. let differs : ClockFault ≡ Journal why.DeviceFault = sym no_time.0 ∙ same in absurd cc
  device_fault_by (Err none) (inr fault) = λ same. inr (FailsToFound-read none.disk none.clock fault.1)

  pub no_device_fault_by : (result : Result (State D C) (NoStore D C)) → IfErr result (FoundsNone shown readings_of faults_of site (founding_request site) vacant clock) → IfErr result (λ e. e.why ≢ Journal why.DeviceFault → (shown e.disk).faults ≡ (shown disk).faults)
  no_device_fault_by (Ok s) refused = tt
  no_device_fault_by (Err none) (inl no_time) = λ other. ap (λ d. (shown d).faults) no_time.1 ∙ no_fault
  no_device_fault_by (Err none) (inr fault) = λ other. absurd (other fault.0)

  pub no_clock_fault_by : (result : Result (State D C) (NoStore D C)) → IfErr result (FoundsNone shown readings_of faults_of site (founding_request site) vacant clock) → IfErr result (λ e. e.why ≢ ClockFault → faults_of e.clock ≡ faults_of clock)
  no_clock_fault_by (Ok s) refused = tt
  no_clock_fault_by (Err none) (inl no_time) = λ other. absurd (other no_time.0)
  no_clock_fault_by (Err none) (inr fault) = λ other. fault.1.ticks.no_fault

  pub kept_by : (result : Result (State D C) (NoStore D C)) → IfErr result (FoundsNone shown readings_of faults_of site (founding_request site) vacant clock) → IfErr result (λ e. e.why ≢ Journal why.DeviceFault → IsRead (shown disk) (shown e.disk) × (readings_of e.clock ≡ readings_of clock))
  kept_by (Ok s) refused = tt
  kept_by (Err none) (inl no_time) = λ other. (subst (λ d. IsRead (shown disk) (shown d)) (sym no_time.1) read, no_time.2)
  kept_by (Err none) (inr fault) = λ other. absurd (other fault.0)

  pub looked_at_first_by : (result : Result (State D C) (NoStore D C)) → IfErr result (FoundsNone shown readings_of faults_of site (founding_request site) vacant clock) → IfErr result (λ e. e.why ≢ ClockFault → e.why ≢ Journal why.DeviceFault → e.clock ≡ clock)
  looked_at_first_by (Ok s) refused = tt
  looked_at_first_by (Err none) (inl no_time) = λ other not_fault. absurd (other no_time.0)
  looked_at_first_by (Err none) (inr fault) = λ other not_fault. absurd (not_fault fault.0)

  pub no_other_by : (result : Result (State D C) (NoStore D C)) → IfErr result (FoundsNone shown readings_of faults_of site (founding_request site) vacant clock) → IfErr result (λ e. (e.why ≢ Journal why.Blank) × ((at : ℕ) → e.why ≢ Journal (why.Damaged at)))
  no_other_by (Ok s) refused = tt
  no_other_by (Err none) refused = (
    λ same. no_reason none why.Blank refused (λ is. absurd cc) same,
    λ at same. no_reason none (why.Damaged at) refused (λ is. absurd cc) same,
  )

  pub safe_by : (result : Result (State D C) (NoStore D C)) → IfOk result (FoundsStore shown readings_of faults_of site (founding_request site) vacant clock) → IfErr result (FoundsNone shown readings_of faults_of site (founding_request site) vacant clock)
      → (IsAtRest (shown vacant) → MatchResult result
      (λ store. IsSafe (shown vacant).moment [] store.history [] (shown vacant) (shown store.disk))
      (λ e. CrashesSafely readings_of faults_of (founding_request site) site.offset clock e.clock (shown vacant) (shown e.disk)))
      → IsAtRest (shown disk) → MatchResult result
      (λ store. IsSafe (shown disk).moment [] store.history [] (shown disk) (shown store.disk))
      (λ e. CrashesSafely readings_of faults_of (founding_request site) site.offset clock e.clock (shown disk) (shown e.disk))
  safe_by (Ok s) founded refused safe rest = IsSafe-read_before s.history (shown disk) (shown vacant) (shown s.disk) rest blank read founded.founds.later safe
  safe_by (Err none) founded (inl no_time) safe rest =
      CrashesSafely-blank readings_of faults_of (founding_request site) site.offset clock none.clock (shown disk) (shown none.disk) rest blank
      (subst (λ d. IsRead (shown disk) (shown d)) (sym no_time.1) read)
  safe_by (Err none) founded (inr fault) safe rest =
      let crashes = safe (IsAtRest-read (shown disk) (shown vacant) rest read) in
      record {
        reading = crashes.reading;
        taken = crashes.taken;
        safe = IsSafe-read_before (recorded_at [] (founding_request site) site.offset crashes.reading) (shown disk) (shown vacant) (shown none.disk) rest blank read fault.1.later
            (λ vacant_rest. crashes.safe);
      }
