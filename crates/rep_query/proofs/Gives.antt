-- What `receipt` leaves, from what its parts leave.
use Rattle.std.proofs.Common.{◌≡◌, ◌≢◌, ℕ, ◌⊎◌, inl, inr, List, [], length, Option, Some, Result, Ok, Err, sym, ap, subst, ◌∙◌, arith}
use Rattle.std.specs.Prelude.{IfSome, IfOk, IfErr}
use Rattle.rep_io.specs.Causes.{Rose}
use Rattle.afd_records.specs.Record.{IsClocking}
use Rattle.rep_wire.specs.declared.request.Entry.{Entry}
use Rattle.rep_core.specs.History.{IsNumbered}
use Rattle.rep_core.proofs.Numbered.{IsNumbered-unique}
use Rattle.rep_ledger.specs.Ledger.{IsLedgerOf}
use Rattle.rep_ledger.specs.Safety.{IsSafe}
use Rattle.rep_ledger.proofs.ContentLemmas.{one_ledger}
use Rattle.rep_store.specs.State.{State}
use Rattle.rep_report.specs.Saying.{status_of as ending_status}
use Rattle.rep_report.specs.declared.ending.Ending.TheVariants.{AllAnswered}
use Rattle.rep_query.specs.Opening.{Inputs, Meanings, Opens, OpensStore}
use Rattle.rep_query.specs.Receipt.{IsReceiptOf, IsWhyNone, LooksInto, SaysNone, SaysReceipt, none_status}
use Rattle.rep_query.specs.Giving.{Answered, Gives, GivesNone}
use Rattle.rep_query.specs.declared.finding.NoReceipt.{NoReceipt}
use Rattle.rep_query.specs.declared.finding.NoReceipt.TheVariants.{NoSuchNsr, NotAClocking, DeviceFault, OutOfMemory}
use Rattle.rep_query.proofs.Extracts.{told_of}
use Rattle.rep_query.proofs.Finds.{longer_why, number_inside}
use Rattle.rep_query.proofs.Openings.{opens_still, stops_clock, stops_device, stops_sink, stops_source}

module _ {S D C V : Type 0} (m : Meanings S D) (nsr : ℕ) (was now : S) (disk disk' : D) (clock : C) (store store' : State D C) (opened : OpensStore m was now disk clock store) (is_disk : disk' ≡ store'.disk)
    (looks : LooksInto m.shown store store') (safe : IsSafe (m.shown store.disk).moment store.history store.history [] (m.shown store.disk) (m.shown store'.disk))
    (out_old out_new : Option (List ℕ)) (before after status : ℕ) (items : V → List ℕ) where
  opens : Opens m (record { site = was; disk = disk }) (record { site = now; disk = disk' }) store.site store.history
  opens = opens_still m was now disk disk' clock store store' opened is_disk looks.disk safe

  pub answered_by : (found : Result V NoReceipt) → IfOk found (λ v. IsReceiptOf store.site store.history nsr (items v))
      → IfErr found (IsWhyNone store.history nsr (m.shown store.disk).faults (m.shown store'.disk).faults)
      → IfOk found (λ v. SaysReceipt (items v) out_old out_new before after status)
      → IfErr found (λ why. SaysNone why nsr out_old out_new (Rose before after) status)
      → Gives m nsr (record { site = was; disk = disk }) (record { site = now; disk = disk' }) out_old out_new before after status
      ⊎ GivesNone m nsr (record { site = was; disk = disk }) (record { site = now; disk = disk' }) out_old out_new before after status
  answered_by (Ok v) is none says other = inl (record { site = store.site; history = store.history; opens = opens; text = items v; is_receipt = is; says = says })
  answered_by (Err why) is none says other = inr (record {
    site = store.site;
    history = store.history;
    opens = opens;
    why = why;
    is_why = subst (λ (d : D). IsWhyNone store.history nsr (m.shown disk).faults (m.shown d).faults why) (sym is_disk)
        (longer_why store.history nsr (m.shown disk).faults (m.shown store.disk).faults (m.shown store'.disk).faults (m.shown store'.disk).faults why (omega (arith, opened.no_fault)) (omega arith) none);
    says = other;
  })

-- the disk's fault at a receipt is told by its status
pub answered_failed : {V : Type 0} (nsr : ℕ) (out_old out_new : Option (List ℕ)) (Failed : Type 0) (status : ℕ) (found : Result V NoReceipt) → found ≡ Err DeviceFault
    → IfErr found (λ why. SaysNone why nsr out_old out_new Failed status) → status ≡ 6
answered_failed {V} nsr out_old out_new Failed status found is none =
    (subst (λ (r : Result V NoReceipt). IfErr r (λ why. SaysNone why nsr out_old out_new Failed status)) is none).status_is

-- The statuses

module _ {S D : Type 0} (m : Meanings S D) (nsr : ℕ) (old new : Inputs S D) (out_old out_new : Option (List ℕ)) (before now status : ℕ) where
  -- a receipt is given wholly, or the output failed at it
  given : Gives m nsr old new out_old out_new before now status → (status ≡ 0) ⊎ ((status ≡ 5) × Rose before now)
  given gives = elim (told_of AllAnswered gives.text out_old out_new before now gives.says.told gives.says.concludes) [
    | inl same ↦ inl (gives.says.status_is ∙ ap ending_status same)
    | inr failed ↦ inr (gives.says.status_is ∙ ap ending_status failed.0, failed.1)
  ]

  none_of : GivesNone m nsr old new out_old out_new before now status → (status ≡ 3) ⊎ ((status ≡ 6) × Rose (m.shown old.disk).faults (m.shown new.disk).faults) ⊎ (status ≡ 8)
  none_of none = by none.why none.is_why none.says.status_is
    where
      by : (why : NoReceipt) → IsWhyNone none.history nsr (m.shown old.disk).faults (m.shown new.disk).faults why → status ≡ none_status why
          → (status ≡ 3) ⊎ ((status ≡ 6) × Rose (m.shown old.disk).faults (m.shown new.disk).faults) ⊎ (status ≡ 8)
      by NoSuchNsr is status_is = inl status_is
      by NotAClocking is status_is = inl status_is
      by DeviceFault is status_is = inr (inl (status_is, is))
      by OutOfMemory is status_is = inr (inr status_is)

  pub answered_source : Answered m nsr old new out_old out_new before now status → status ≡ 4 → Rose (m.source_faults old.site) (m.source_faults new.site)
  answered_source (inl early) is = stops_source m old new early.stopping early.stops (sym early.status_is ∙ is)
  answered_source (inr (inl gives)) is = elim (given gives) [
    | inl whole ↦ absurd (omega arith)
    | inr failed ↦ absurd (omega (arith, failed.0))
  ]
  answered_source (inr (inr none)) is = elim (none_of none) [
    | inl refused ↦ absurd (omega arith)
    | inr other ↦ elim other [
      | inl failed ↦ absurd (omega (arith, failed.0))
      | inr short ↦ absurd (omega arith)
    ]
  ]

  pub answered_sink : Answered m nsr old new out_old out_new before now status → status ≡ 5 → Rose before now
  answered_sink (inl early) is = absurd (stops_sink m old new early.stopping early.stops (sym early.status_is ∙ is))
  answered_sink (inr (inl gives)) is = elim (given gives) [
    | inl whole ↦ absurd (omega arith)
    | inr failed ↦ failed.1
  ]
  answered_sink (inr (inr none)) is = elim (none_of none) [
    | inl refused ↦ absurd (omega arith)
    | inr other ↦ elim other [
      | inl failed ↦ absurd (omega (arith, failed.0))
      | inr short ↦ absurd (omega arith)
    ]
  ]

  pub answered_device : Answered m nsr old new out_old out_new before now status → status ≡ 6 → Rose (m.shown old.disk).faults (m.shown new.disk).faults
  answered_device (inl early) is = stops_device m old new early.stopping early.stops (sym early.status_is ∙ is)
  answered_device (inr (inl gives)) is = elim (given gives) [
    | inl whole ↦ absurd (omega arith)
    | inr failed ↦ absurd (omega (arith, failed.0))
  ]
  answered_device (inr (inr none)) is = elim (none_of none) [
    | inl refused ↦ absurd (omega arith)
    | inr other ↦ elim other [
      | inl failed ↦ failed.1
      | inr short ↦ absurd (omega arith)
    ]
  ]

  pub answered_clock : Answered m nsr old new out_old out_new before now status → status ≢ 7
  answered_clock (inl early) is = stops_clock m old new early.stopping early.stops (sym early.status_is ∙ is)
  answered_clock (inr (inl gives)) is = elim (given gives) [
    | inl whole ↦ omega arith
    | inr failed ↦ omega (arith, failed.0)
  ]
  answered_clock (inr (inr none)) is = elim (none_of none) [
    | inl refused ↦ omega arith
    | inr other ↦ elim other [
      | inl failed ↦ omega (arith, failed.0)
      | inr short ↦ omega arith
    ]
  ]

  one_history : (contents : List ℕ) (h history : List Entry) → (m.shown old.disk).contents ≡ Some contents → IsLedgerOf contents h
      → IfSome (m.shown old.disk).contents (λ bytes. IsLedgerOf bytes history) → history ≡ h
  one_history contents h history told keeps held =
      one_ledger contents history h (subst (λ (c : Option (List ℕ)). IfSome c (λ bytes. IsLedgerOf bytes history)) told held) keeps

  -- a clocking of the history has its receipt
  pub answered_whole : (contents : List ℕ) (h : List Entry) (e : Entry) → Gives m nsr old new out_old out_new before now status ⊎ GivesNone m nsr old new out_old out_new before now status
      → (m.shown old.disk).contents ≡ Some contents → IsLedgerOf contents h → IsNumbered h nsr e → IsClocking e.body
      → (Rose before now → ⊥) → (Rose (m.shown old.disk).faults (m.shown new.disk).faults → ⊥) → (status ≡ 0) ⊎ (status ≡ 8)
  answered_whole contents h e (inl gives) told keeps numbered clocking no_out no_disk = elim (given gives) [
    | inl whole ↦ inl whole
    | inr failed ↦ absurd (no_out failed.1)
  ]
  answered_whole contents h e (inr none) told keeps numbered clocking no_out no_disk = by none.why none.is_why none.says.status_is
    where
      same : none.history ≡ h
      same = one_history contents h none.history told keeps none.opens.keeps

      by : (why : NoReceipt) → IsWhyNone none.history nsr (m.shown old.disk).faults (m.shown new.disk).faults why → status ≡ none_status why → (status ≡ 0) ⊎ (status ≡ 8)
      by NoSuchNsr is status_is =
          let inside = number_inside h nsr e numbered in
          let long = ap length same in
          absurd (omega (arith, is, inside.1, long))
      by NotAClocking is status_is =
          let one : is.0 ≡ e = IsNumbered-unique h nsr is.0 e (subst (λ (l : List Entry). IsNumbered l nsr is.0) same is.1) numbered in
          absurd (is.2 (subst (λ (x : Entry). IsClocking x.body) (sym one) clocking))
      by DeviceFault is status_is = absurd (no_disk is)
      by OutOfMemory is status_is = inr status_is
