use Rattle.std.proofs.Common.{◌≡◌, ◌+◌, inr, None, Err, ap, sym, subst, refl}
use Rattle.std.specs.Prelude.{IsSome}
use Rattle.rep_journal.specs.Format.{IsBlank, IsForeign}
use Rattle.rep_journal.specs.State.{IsKeptBy}
use Rattle.rep_journal.specs.State as journal
use Rattle.rep_journal.specs.Recovery.{RestsFrom}
use Rattle.rep_journal.specs.declared.error.WhyNot.TheVariants as why
use Rattle.rep_core.proofs.Standing.{Stands-own}
use Rattle.rep_ledger.specs.Ledger.{IsDamagedAt}
use Rattle.rep_ledger.specs.declared.replaying.NotReplayed.TheVariants as replayed
use Rattle.rep_ledger.proofs.DiskSteps.{IsKeptBy-read, RestsFrom-read}
use Rattle.rep_store.specs.Fields.{state_of}
use Rattle.rep_store.specs.Making.{RestsUnlessFailed}
use Rattle.rep_store.specs.State.{State}
use Rattle.rep_store.specs.declared.error.NoStore.{NoStore}
use Rattle.rep_store.specs.declared.error.StoreWhy.TheVariants.{Journal}
use Rattle.rep_store.proofs.Openings.{lift, damaged_refused, found_refused, kept_not_blank_told, kept_not_foreign_told, ledger_not_damaged_told, made_refuses, made_found, rest_refused, unread_refuses, unread_damaged, unread_found, why_of-blank, why_of-foreign}
use Rattle.rep_store.proofs.Reopenings.{IsSafe-reopened, IsSafe-reopened_from_rest, IsWhole-reopened, Reopens-reopened, ledger_held}
use Rattle.rep_store.proofs.store.Store.reopen.Goals as goal

pub returns-in-Err-clause-found : goal.returns-in-Err-clause-found
returns-in-Err-clause-found g c = λ h.
    found_refused (journal.State g.row.D.Denot) (State g.row.D.Denot g.row.C.Denot) c.in-Err.none c.of.result (ap (λ (n : NoStore g.row.D.Denot g.row.C.Denot). n.why) c.of.ensures) (g.D.Disk.shown c.args.disk).contents (λ s. s.history ≡ h) h
    c.in-Err.ensures.blank c.in-Err.ensures.foreign c.in-Err.ensures.damaged c.in-Err.ensures.not_present

pub returns-in-Err-clause-blank : goal.returns-in-Err-clause-blank
returns-in-Err-clause-blank g c = lift (journal.State g.row.D.Denot) (State g.row.D.Denot g.row.C.Denot) IsBlank why.Blank (g.D.Disk.shown c.args.disk).contents c.in-Err.none c.of.result (ap (λ (n : NoStore g.row.D.Denot g.row.C.Denot). n.why) c.of.ensures) c.in-Err.ensures.blank

pub returns-in-Err-clause-foreign : goal.returns-in-Err-clause-foreign
returns-in-Err-clause-foreign g c = lift (journal.State g.row.D.Denot) (State g.row.D.Denot g.row.C.Denot) IsForeign why.Foreign (g.D.Disk.shown c.args.disk).contents c.in-Err.none c.of.result (ap (λ (n : NoStore g.row.D.Denot g.row.C.Denot). n.why) c.of.ensures) c.in-Err.ensures.foreign

pub returns-in-Err-clause-damaged : goal.returns-in-Err-clause-damaged
returns-in-Err-clause-damaged g c = λ at.
    damaged_refused (journal.State g.row.D.Denot) (State g.row.D.Denot g.row.C.Denot) c.in-Err.none c.of.result (ap (λ (n : NoStore g.row.D.Denot g.row.C.Denot). n.why) c.of.ensures) (g.D.Disk.shown c.args.disk).contents at
    c.in-Err.ensures.blank c.in-Err.ensures.foreign c.in-Err.ensures.damaged c.in-Err.ensures.not_present

pub returns-in-Err-clause-rest : goal.returns-in-Err-clause-rest
returns-in-Err-clause-rest g c =
    subst (λ (n : NoStore g.row.D.Denot g.row.C.Denot). RestsUnlessFailed n.why (g.D.Disk.shown c.args.disk) (g.D.Disk.shown n.disk)) (sym c.of.ensures)
    (rest_refused c.in-Err.none.why (g.D.Disk.shown c.args.disk) (g.D.Disk.shown c.in-Err.none.disk) c.in-Err.ensures.rest)

pub invariant_of-result : goal.invariant_of-result
invariant_of-result g c = (
  IsWhole-reopened g.D.Disk.shown c.args.disk c.args.site.now c.requires c.in-Ok.journal c.replay.new.journal c.in-Ok-replay.core c.set_limit.new.self c.new.result c.args.site.now c.in-Ok.ensures.reopened
      c.in-Ok.ensures.kept c.in-Ok.ensures.rest c.in-Ok.ensures.no_faults c.in-Ok-replay.ensures.founded c.in-Ok-replay.ensures.replayed c.in-Ok-replay.ensures.count c.in-Ok-replay.ensures.frames c.in-Ok-replay.ensures.faults
      c.in-Ok-replay.ensures.disk c.in-Ok.ensures.no_fault (c.in-Ok-replay.ensures.no_fault (λ is. absurd cc)) c.set_limit.ensures.same c.set_limit.ensures.limit c.new.ensures refl,
  record { same = c.in-Ok-days_of.ensures c.set_limit.new.self.entries (Stands-own c.set_limit.new.self) },
)

pub returns-in-Ok-days_of-clause-reopened : goal.returns-in-Ok-days_of-clause-reopened
returns-in-Ok-days_of-clause-reopened g c =
    Reopens-reopened g.D.Disk.shown c.args.disk c.args.site.now c.requires c.in-Ok.journal c.replay.new.journal c.in-Ok-replay.core c.set_limit.new.self c.new.result c.args.site.now c.in-Ok.ensures.reopened
    c.in-Ok.ensures.kept c.in-Ok.ensures.rest c.in-Ok.ensures.no_faults c.in-Ok-replay.ensures.founded c.in-Ok-replay.ensures.replayed c.in-Ok-replay.ensures.count c.in-Ok-replay.ensures.frames c.in-Ok-replay.ensures.faults
    c.in-Ok-replay.ensures.disk c.in-Ok.ensures.no_fault (c.in-Ok-replay.ensures.no_fault (λ is. absurd cc)) c.set_limit.ensures.same c.set_limit.ensures.limit c.new.ensures refl c.args.clock

pub returns-in-Ok-days_of-clause-found : goal.returns-in-Ok-days_of-clause-found
returns-in-Ok-days_of-clause-found g c = λ h.
    made_found g.row.D.Denot g.row.C.Denot (g.D.Disk.shown c.args.disk).contents (λ xs (s : State g.row.D.Denot g.row.C.Denot). s.history ≡ xs) h c.set_limit.new.self.entries (state_of c.set_limit.new.self c.new.result c.args.clock c.args.site.now None)
    (ledger_held g.D.Disk.shown c.args.disk c.args.site.now c.requires c.in-Ok.journal c.replay.new.journal c.in-Ok-replay.core c.set_limit.new.self c.new.result c.args.site.now c.in-Ok.ensures.reopened
    c.in-Ok.ensures.kept c.in-Ok.ensures.rest c.in-Ok.ensures.no_faults c.in-Ok-replay.ensures.founded c.in-Ok-replay.ensures.replayed c.in-Ok-replay.ensures.count c.in-Ok-replay.ensures.frames c.in-Ok-replay.ensures.faults
    c.in-Ok-replay.ensures.disk c.in-Ok.ensures.no_fault (c.in-Ok-replay.ensures.no_fault (λ is. absurd cc)) c.set_limit.ensures.same c.set_limit.ensures.limit c.new.ensures refl) (λ is. is)

pub returns-in-Ok-days_of-clause-blank : goal.returns-in-Ok-days_of-clause-blank
returns-in-Ok-days_of-clause-blank g c =
    made_refuses g.row.D.Denot g.row.C.Denot IsBlank (Journal why.Blank) (g.D.Disk.shown c.args.disk).contents _ (kept_not_blank_told (g.D.Disk.shown c.args.disk).contents c.in-Ok.journal.frames c.in-Ok.ensures.reopened)

pub returns-in-Ok-days_of-clause-foreign : goal.returns-in-Ok-days_of-clause-foreign
returns-in-Ok-days_of-clause-foreign g c =
    made_refuses g.row.D.Denot g.row.C.Denot IsForeign (Journal why.Foreign) (g.D.Disk.shown c.args.disk).contents _ (kept_not_foreign_told (g.D.Disk.shown c.args.disk).contents c.in-Ok.journal.frames c.in-Ok.ensures.reopened)

pub returns-in-Ok-days_of-clause-damaged : goal.returns-in-Ok-days_of-clause-damaged
returns-in-Ok-days_of-clause-damaged g c = λ at.
    made_refuses g.row.D.Denot g.row.C.Denot (IsDamagedAt at) (Journal (why.Damaged at)) (g.D.Disk.shown c.args.disk).contents _
    (ledger_not_damaged_told (g.D.Disk.shown c.args.disk).contents c.set_limit.new.self.entries at
    (ledger_held g.D.Disk.shown c.args.disk c.args.site.now c.requires c.in-Ok.journal c.replay.new.journal c.in-Ok-replay.core c.set_limit.new.self c.new.result c.args.site.now c.in-Ok.ensures.reopened
    c.in-Ok.ensures.kept c.in-Ok.ensures.rest c.in-Ok.ensures.no_faults c.in-Ok-replay.ensures.founded c.in-Ok-replay.ensures.replayed c.in-Ok-replay.ensures.count c.in-Ok-replay.ensures.frames c.in-Ok-replay.ensures.faults
    c.in-Ok-replay.ensures.disk c.in-Ok.ensures.no_fault (c.in-Ok-replay.ensures.no_fault (λ is. absurd cc)) c.set_limit.ensures.same c.set_limit.ensures.limit c.new.ensures refl))

pub returns-in-Ok-days_of-clause-safe : goal.returns-in-Ok-days_of-clause-safe
returns-in-Ok-days_of-clause-safe g c =
    IsSafe-reopened g.D.Disk.shown c.args.disk c.args.site.now c.requires c.in-Ok.journal c.replay.new.journal c.in-Ok-replay.core c.set_limit.new.self c.new.result c.args.site.now c.in-Ok.ensures.reopened
    c.in-Ok.ensures.kept c.in-Ok.ensures.rest c.in-Ok.ensures.no_faults c.in-Ok-replay.ensures.founded c.in-Ok-replay.ensures.replayed c.in-Ok-replay.ensures.count c.in-Ok-replay.ensures.frames c.in-Ok-replay.ensures.faults
    c.in-Ok-replay.ensures.disk c.in-Ok.ensures.no_fault (c.in-Ok-replay.ensures.no_fault (λ is. absurd cc)) c.set_limit.ensures.same c.set_limit.ensures.limit c.new.ensures refl

pub returns-in-Ok-days_of-clause-safe_from_rest : goal.returns-in-Ok-days_of-clause-safe_from_rest
returns-in-Ok-days_of-clause-safe_from_rest g c =
    IsSafe-reopened_from_rest g.D.Disk.shown c.args.disk c.args.site.now c.requires c.in-Ok.journal c.replay.new.journal c.in-Ok-replay.core c.set_limit.new.self c.new.result c.args.site.now c.in-Ok.ensures.reopened
    c.in-Ok.ensures.kept c.in-Ok.ensures.rest c.in-Ok.ensures.no_faults c.in-Ok-replay.ensures.founded c.in-Ok-replay.ensures.replayed c.in-Ok-replay.ensures.count c.in-Ok-replay.ensures.frames c.in-Ok-replay.ensures.faults
    c.in-Ok-replay.ensures.disk c.in-Ok.ensures.no_fault (c.in-Ok-replay.ensures.no_fault (λ is. absurd cc)) c.set_limit.ensures.same c.set_limit.ensures.limit c.new.ensures refl

pub returns-in-Err-replay-clause-found : goal.returns-in-Err-replay-clause-found
returns-in-Err-replay-clause-found g c = λ h.
    let none : NoStore g.row.D.Denot g.row.C.Denot = record { disk = c.into_disk-in-Err-replay.result; clock = c.args.clock; why = Journal c.why_not.result } in
    unread_found c.in-Err-replay.why none (g.D.Disk.shown c.args.disk).contents c.in-Ok.journal.frames (λ (s : State g.row.D.Denot g.row.C.Denot). s.history ≡ h) h (ap Journal c.why_not.ensures) c.in-Ok.ensures.reopened
    (λ n same told. c.in-Err-replay.ensures.misfit n (ap Err same) (subst IsSome (sym c.in-Ok.ensures.kept.contents) told))

pub returns-in-Err-replay-clause-blank : goal.returns-in-Err-replay-clause-blank
returns-in-Err-replay-clause-blank g c =
    unread_refuses c.in-Err-replay.why _ (ap Journal c.why_not.ensures) (State g.row.D.Denot g.row.C.Denot) IsBlank why.Blank (g.D.Disk.shown c.args.disk).contents (why_of-blank c.in-Err-replay.why)
    (kept_not_blank_told (g.D.Disk.shown c.args.disk).contents c.in-Ok.journal.frames c.in-Ok.ensures.reopened)

pub returns-in-Err-replay-clause-foreign : goal.returns-in-Err-replay-clause-foreign
returns-in-Err-replay-clause-foreign g c =
    unread_refuses c.in-Err-replay.why _ (ap Journal c.why_not.ensures) (State g.row.D.Denot g.row.C.Denot) IsForeign why.Foreign (g.D.Disk.shown c.args.disk).contents (why_of-foreign c.in-Err-replay.why)
    (kept_not_foreign_told (g.D.Disk.shown c.args.disk).contents c.in-Ok.journal.frames c.in-Ok.ensures.reopened)

pub returns-in-Err-replay-clause-damaged : goal.returns-in-Err-replay-clause-damaged
returns-in-Err-replay-clause-damaged g c = λ at.
    unread_damaged (State g.row.D.Denot g.row.C.Denot) c.in-Err-replay.why _ (g.D.Disk.shown c.args.disk).contents c.in-Ok.journal.frames at (ap Journal c.why_not.ensures) c.in-Ok.ensures.reopened
    (λ n same told. c.in-Err-replay.ensures.misfit n (ap Err same) (subst IsSome (sym c.in-Ok.ensures.kept.contents) told))

pub returns-in-Err-replay-clause-kept : goal.returns-in-Err-replay-clause-kept
returns-in-Err-replay-clause-kept g c = (
  subst (λ (d : g.row.D.Denot). IsKeptBy (g.D.Disk.shown c.args.disk) (g.D.Disk.shown d)) (sym c.into_disk-in-Err-replay.ensures.disk)
      (IsKeptBy-read (g.D.Disk.shown c.args.disk) (g.D.Disk.shown c.in-Ok.journal.disk) (g.D.Disk.shown c.replay.new.journal.disk) c.in-Ok.ensures.kept c.in-Err-replay.ensures.disk),
  refl,
)

pub returns-in-Err-replay-clause-rest : goal.returns-in-Err-replay-clause-rest
returns-in-Err-replay-clause-rest g c =
    inr (subst (λ (d : g.row.D.Denot). RestsFrom ((g.D.Disk.shown c.args.disk).moment + 2) (g.D.Disk.shown d)) (sym c.into_disk-in-Err-replay.ensures.disk)
    (RestsFrom-read ((g.D.Disk.shown c.args.disk).moment + 2) (g.D.Disk.shown c.in-Ok.journal.disk) (g.D.Disk.shown c.replay.new.journal.disk) c.in-Ok.ensures.rest c.in-Err-replay.ensures.disk))

pub returns-in_default-clause-found : goal.returns-in_default-clause-found
returns-in_default-clause-found g c = λ h.
    let none : NoStore g.row.D.Denot g.row.C.Denot = record { disk = c.into_disk.result; clock = c.args.clock; why = Journal why.OutOfMemory } in
    unread_found replayed.OutOfMemory none (g.D.Disk.shown c.args.disk).contents c.in-Ok.journal.frames (λ (s : State g.row.D.Denot g.row.C.Denot). s.history ≡ h) h refl c.in-Ok.ensures.reopened
    (λ n same told. absurd cc)

pub returns-in_default-clause-blank : goal.returns-in_default-clause-blank
returns-in_default-clause-blank g c =
    let none : NoStore g.row.D.Denot g.row.C.Denot = record { disk = c.into_disk.result; clock = c.args.clock; why = Journal why.OutOfMemory } in
    unread_refuses replayed.OutOfMemory none refl (State g.row.D.Denot g.row.C.Denot) IsBlank why.Blank (g.D.Disk.shown c.args.disk).contents (why_of-blank replayed.OutOfMemory)
    (kept_not_blank_told (g.D.Disk.shown c.args.disk).contents c.in-Ok.journal.frames c.in-Ok.ensures.reopened)

pub returns-in_default-clause-foreign : goal.returns-in_default-clause-foreign
returns-in_default-clause-foreign g c =
    let none : NoStore g.row.D.Denot g.row.C.Denot = record { disk = c.into_disk.result; clock = c.args.clock; why = Journal why.OutOfMemory } in
    unread_refuses replayed.OutOfMemory none refl (State g.row.D.Denot g.row.C.Denot) IsForeign why.Foreign (g.D.Disk.shown c.args.disk).contents (why_of-foreign replayed.OutOfMemory)
    (kept_not_foreign_told (g.D.Disk.shown c.args.disk).contents c.in-Ok.journal.frames c.in-Ok.ensures.reopened)

pub returns-in_default-clause-damaged : goal.returns-in_default-clause-damaged
returns-in_default-clause-damaged g c = λ at.
    let none : NoStore g.row.D.Denot g.row.C.Denot = record { disk = c.into_disk.result; clock = c.args.clock; why = Journal why.OutOfMemory } in
    unread_damaged (State g.row.D.Denot g.row.C.Denot) replayed.OutOfMemory none (g.D.Disk.shown c.args.disk).contents c.in-Ok.journal.frames at refl c.in-Ok.ensures.reopened
    (λ n same told. absurd cc)

pub returns-in_default-clause-kept : goal.returns-in_default-clause-kept
returns-in_default-clause-kept g c = (
  subst (λ (d : g.row.D.Denot). IsKeptBy (g.D.Disk.shown c.args.disk) (g.D.Disk.shown d)) (sym c.into_disk.ensures.disk)
      (IsKeptBy-read (g.D.Disk.shown c.args.disk) (g.D.Disk.shown c.in-Ok.journal.disk) (g.D.Disk.shown c.replay.new.journal.disk) c.in-Ok.ensures.kept c.in-Ok-replay.ensures.disk),
  refl,
)

pub returns-in_default-clause-rest : goal.returns-in_default-clause-rest
returns-in_default-clause-rest g c =
    inr (subst (λ (d : g.row.D.Denot). RestsFrom ((g.D.Disk.shown c.args.disk).moment + 2) (g.D.Disk.shown d)) (sym c.into_disk.ensures.disk)
    (RestsFrom-read ((g.D.Disk.shown c.args.disk).moment + 2) (g.D.Disk.shown c.in-Ok.journal.disk) (g.D.Disk.shown c.replay.new.journal.disk) c.in-Ok.ensures.rest c.in-Ok-replay.ensures.disk))
