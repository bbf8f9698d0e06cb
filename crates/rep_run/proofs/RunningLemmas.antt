-- how `run` stops where no store was found
use Rattle.std.proofs.Common.{◌≡◌, ◌≢◌, ℕ, ◌+◌, ◌⊎◌, inl, inr, List, Option, Some, refl, ap}
use Rattle.std.specs.Prelude.{IfSome}
use Rattle.rep_io.specs.Causes.{Rose}
use Rattle.rep_wire.specs.declared.request.Entry.{Entry}
use Rattle.rep_journal.specs.Format.{IsBlank, IsForeign}
use Rattle.rep_journal.specs.State.{IsKeptBy}
use Rattle.rep_journal.specs.Recovery.{RestsFrom}
use Rattle.rep_journal.specs.declared.error.WhyNot.TheVariants as why
use Rattle.rep_ledger.specs.Ledger.{IsDamagedAt, IsLedgerOf}
use Rattle.rep_store.specs.Making.{RestsUnlessFailed}
use Rattle.rep_store.specs.declared.error.StoreWhy.{StoreWhy}
use Rattle.rep_store.specs.declared.error.StoreWhy.TheVariants.{Journal, ClockFault}
use Rattle.rep_run.specs.Creating.{status_of}
use Rattle.rep_run.specs.Running.{Meanings, HasTexts, StaysBeyond, StopsBefore}
use Rattle.rep_run.specs.Steps.{stopping_of}
use Rattle.rep_run.proofs.Known.{map_some, use_some}

module _ {S K D C : Type 0} (m : Meanings S K D C) (site site' lane lane' : S) (disk disk' : D) (clock clock' : C) (replies : K)
    (texts : HasTexts m (record { site = site; lane = lane; disk = disk; clock = clock; replies = replies })) (reason : StoreWhy)
    (blank : IfSome (m.shown disk).contents (λ bytes. reason ≡ Journal why.Blank → IsBlank bytes))
    (foreign : IfSome (m.shown disk).contents (λ bytes. reason ≡ Journal why.Foreign → IsForeign bytes))
    (damaged : (at : ℕ) → IfSome (m.shown disk).contents (λ bytes. reason ≡ Journal (why.Damaged at) → IsDamagedAt at bytes))
    (device_fault : reason ≡ Journal why.DeviceFault → Rose (m.shown disk).faults (m.shown disk').faults)
    (no_other : (reason ≢ Journal why.Present) × (reason ≢ ClockFault)) (kept : IsKeptBy (m.shown disk) (m.shown disk') × (clock' ≡ clock))
    (rest : RestsUnlessFailed reason (m.shown disk) (m.shown disk')) where
  beyond : StaysBeyond {S = S} {K = K} {D = D} {C = C} (record { site = site; lane = lane; disk = disk; clock = clock; replies = replies })
      (record { site = site'; lane = lane'; disk = disk'; clock = clock'; replies = replies })
  beyond = record { clock = kept.1; replies = refl }

  -- but for a failed device call a sync was made
  rests : reason ≢ Journal why.DeviceFault → RestsFrom ((m.shown disk).moment + 2) (m.shown disk')
  rests working = elim rest [ inl failed ↦ absurd (working failed.0) | inr rested ↦ rested ]

  stops_by : (other : StoreWhy) → reason ≡ other → StopsBefore m (record { site = site; lane = lane; disk = disk; clock = clock; replies = replies })
      (record { site = site'; lane = lane'; disk = disk'; clock = clock'; replies = replies }) (stopping_of other)
  stops_by (Journal why.Foreign) is = record {
    texts = texts;
    contents = map_some (λ bytes. reason ≡ Journal why.Foreign → IsForeign bytes) IsForeign (m.shown disk).contents (λ bytes so. so is) foreign;
    disk = kept.0;
    rest = rests (λ failed. absurd cc);
    beyond = beyond;
  }
  stops_by (Journal why.Blank) is = record {
    texts = texts;
    contents = map_some (λ bytes. reason ≡ Journal why.Blank → IsBlank bytes) IsBlank (m.shown disk).contents (λ bytes so. so is) blank;
    disk = kept.0;
    rest = rests (λ failed. absurd cc);
    beyond = beyond;
  }
  stops_by (Journal why.Present) is = absurd (no_other.0 is)
  stops_by (Journal (why.Damaged at)) is = record {
    texts = texts;
    contents = map_some (λ bytes. reason ≡ Journal (why.Damaged at) → IsDamagedAt at bytes) (IsDamagedAt at) (m.shown disk).contents (λ bytes so. so is) (damaged at);
    disk = kept.0;
    rest = rests (λ failed. absurd cc);
    beyond = beyond;
  }
  stops_by (Journal why.DeviceFault) is = record {
    texts = texts;
    cause = device_fault is;
    disk = kept.0;
    rest = elim rest [ inl failed ↦ inl failed.1 | inr rested ↦ inr rested ];
    beyond = beyond;
  }
  stops_by (Journal why.OutOfMemory) is = record { disk = kept.0; rest = inr (rests (λ failed. absurd cc)); beyond = beyond }
  stops_by ClockFault is = absurd (no_other.1 is)

  pub stops_at_store : StopsBefore m (record { site = site; lane = lane; disk = disk; clock = clock; replies = replies })
      (record { site = site'; lane = lane'; disk = disk'; clock = clock'; replies = replies }) (stopping_of reason)
  stops_at_store = stops_by reason refl

-- over a history, where no device call fails
pub complete_store : (reason : StoreWhy) (Failed : Type 0) → (reason ≡ Journal why.DeviceFault → Failed) → (Failed → ⊥)
    → (reason ≡ Journal why.DeviceFault) ⊎ (reason ≡ Journal why.OutOfMemory) → status_of (stopping_of reason) ≡ 8
complete_store reason Failed cause working (inl failed) = absurd (working (cause failed))
complete_store reason Failed cause working (inr short) = ap (λ (r : StoreWhy). status_of (stopping_of r)) short

-- contents that keep a history are no reason
pub cut_short : (reason : StoreWhy) (h : List Entry) (o : Option (List ℕ)) (contents : List ℕ) → o ≡ Some contents → IsLedgerOf contents h
    → IfSome o (λ bytes. IsLedgerOf bytes h → ⊥ ⊎ ((reason ≡ Journal why.DeviceFault) ⊎ (reason ≡ Journal why.OutOfMemory)))
    → (reason ≡ Journal why.DeviceFault) ⊎ (reason ≡ Journal why.OutOfMemory)
cut_short reason h o contents told keeps found =
    elim (use_some (λ bytes. IsLedgerOf bytes h → ⊥ ⊎ ((reason ≡ Journal why.DeviceFault) ⊎ (reason ≡ Journal why.OutOfMemory))) o contents told found keeps) [
      | inl never ↦ absurd never
      | inr short ↦ short
    ]
