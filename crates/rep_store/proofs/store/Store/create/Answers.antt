use Rattle.std.proofs.Common.{[], ap, sym, subst}
use Rattle.std.specs.Prelude.{IfErr, IfOk, MatchResult}
use Rattle.rep_disk.specs.Disk.{IsAtRest}
use Rattle.rep_wire.specs.declared.request.Request.{Request}
use Rattle.rep_journal.specs.Format.{IsForeign, IsPresent}
use Rattle.rep_journal.specs.declared.error.WhyNot.TheVariants as why
use Rattle.rep_ledger.specs.Safety.{IsSafe}
use Rattle.rep_store.specs.Founding.{founding_request}
use Rattle.rep_store.specs.Making.{CrashesSafely, FoundsNone, FoundsStore}
use Rattle.rep_store.specs.State.{State}
use Rattle.rep_store.specs.declared.error.NoStore.{NoStore}
use Rattle.rep_store.proofs.Foundings.{CrashesSafely-blank, created_by, device_fault_by, kept_by, looked_at_first_by, no_clock_fault_by, no_device_fault_by, no_other_by, refuses_by, safe_by}
use Rattle.rep_store.proofs.Openings.{lift}
use Rattle.rep_store.proofs.store.Store.create.Goals as goal

pub returns-in-Err-clause-foreign : goal.returns-in-Err-clause-foreign
returns-in-Err-clause-foreign g c = lift (g.row.D.Denot) (State g.row.D.Denot g.row.C.Denot) IsForeign why.Foreign (g.D.Disk.shown c.args.disk).contents c.in-Err.none c.of.result (ap (λ (n : NoStore g.row.D.Denot g.row.C.Denot). n.why) c.of.ensures) c.in-Err.ensures.foreign

pub returns-in-Err-clause-present : goal.returns-in-Err-clause-present
returns-in-Err-clause-present g c = lift (g.row.D.Denot) (State g.row.D.Denot g.row.C.Denot) IsPresent why.Present (g.D.Disk.shown c.args.disk).contents c.in-Err.none c.of.result (ap (λ (n : NoStore g.row.D.Denot g.row.C.Denot). n.why) c.of.ensures) c.in-Err.ensures.present

pub returns-in-Err-clause-safe : goal.returns-in-Err-clause-safe
returns-in-Err-clause-safe g c = λ rest blank.
    subst (λ (n : NoStore g.row.D.Denot g.row.C.Denot). CrashesSafely g.C.Clock.readings g.C.Clock.faults (founding_request c.args.site.now) c.args.site.now.offset c.args.clock n.clock (g.D.Disk.shown c.args.disk) (g.D.Disk.shown n.disk)) (sym c.of.ensures)
    (CrashesSafely-blank g.C.Clock.readings g.C.Clock.faults (founding_request c.args.site.now) c.args.site.now.offset c.args.clock c.args.clock (g.D.Disk.shown c.args.disk) (g.D.Disk.shown c.in-Err.none.disk) rest blank c.in-Err.ensures.kept)

pub returns-in_default-clause-safe : goal.returns-in_default-clause-safe
returns-in_default-clause-safe g c = λ rest blank.
    subst (λ (d : g.row.D.Denot). CrashesSafely g.C.Clock.readings g.C.Clock.faults (founding_request c.args.site.now) c.args.site.now.offset c.args.clock c.args.clock (g.D.Disk.shown c.args.disk) (g.D.Disk.shown d)) (sym c.into_disk.ensures.disk)
    (CrashesSafely-blank g.C.Clock.readings g.C.Clock.faults (founding_request c.args.site.now) c.args.site.now.offset c.args.clock c.args.clock (g.D.Disk.shown c.args.disk) (g.D.Disk.shown c.in-Ok.vacant) rest blank c.in-Ok.ensures.kept)

pub returns-clause-created : goal.returns-clause-created
returns-clause-created g c =
    let founded = subst (λ (q : Request). IfOk c.found.result (FoundsStore g.D.Disk.shown g.C.Clock.readings g.C.Clock.faults c.args.site.now q c.in-Ok.vacant c.args.clock)) c.founding_request-request.ensures.value c.found.ensures.founded in
    created_by g.D.Disk.shown g.C.Clock.readings g.C.Clock.faults c.args.site.now c.args.disk c.in-Ok.vacant c.args.clock c.in-Ok.ensures.kept c.in-Ok.ensures.no_fault c.in-Ok.ensures.vacant c.found.result founded

pub returns-clause-foreign : goal.returns-clause-foreign
returns-clause-foreign g c =
    let refused = subst (λ (q : Request). IfErr c.found.result (FoundsNone g.D.Disk.shown g.C.Clock.readings g.C.Clock.faults c.args.site.now q c.in-Ok.vacant c.args.clock)) c.founding_request-request.ensures.value c.found.ensures.refused in
    refuses_by g.D.Disk.shown g.C.Clock.readings g.C.Clock.faults c.args.site.now c.args.disk c.in-Ok.vacant c.args.clock c.in-Ok.ensures.kept c.in-Ok.ensures.no_fault c.in-Ok.ensures.vacant IsForeign why.Foreign c.found.result (λ bytes is blank. is.not_blank blank) (λ same. absurd cc) refused

pub returns-clause-present : goal.returns-clause-present
returns-clause-present g c =
    let refused = subst (λ (q : Request). IfErr c.found.result (FoundsNone g.D.Disk.shown g.C.Clock.readings g.C.Clock.faults c.args.site.now q c.in-Ok.vacant c.args.clock)) c.founding_request-request.ensures.value c.found.ensures.refused in
    refuses_by g.D.Disk.shown g.C.Clock.readings g.C.Clock.faults c.args.site.now c.args.disk c.in-Ok.vacant c.args.clock c.in-Ok.ensures.kept c.in-Ok.ensures.no_fault c.in-Ok.ensures.vacant IsPresent why.Present c.found.result (λ bytes is blank. is.not_blank blank) (λ same. absurd cc) refused

pub returns-clause-device_fault : goal.returns-clause-device_fault
returns-clause-device_fault g c =
    let refused = subst (λ (q : Request). IfErr c.found.result (FoundsNone g.D.Disk.shown g.C.Clock.readings g.C.Clock.faults c.args.site.now q c.in-Ok.vacant c.args.clock)) c.founding_request-request.ensures.value c.found.ensures.refused in
    device_fault_by g.D.Disk.shown g.C.Clock.readings g.C.Clock.faults c.args.site.now c.args.disk c.in-Ok.vacant c.args.clock c.in-Ok.ensures.kept c.in-Ok.ensures.no_fault c.in-Ok.ensures.vacant c.found.result refused

pub returns-clause-no_device_fault : goal.returns-clause-no_device_fault
returns-clause-no_device_fault g c =
    let refused = subst (λ (q : Request). IfErr c.found.result (FoundsNone g.D.Disk.shown g.C.Clock.readings g.C.Clock.faults c.args.site.now q c.in-Ok.vacant c.args.clock)) c.founding_request-request.ensures.value c.found.ensures.refused in
    no_device_fault_by g.D.Disk.shown g.C.Clock.readings g.C.Clock.faults c.args.site.now c.args.disk c.in-Ok.vacant c.args.clock c.in-Ok.ensures.kept c.in-Ok.ensures.no_fault c.in-Ok.ensures.vacant c.found.result refused

pub returns-clause-no_clock_fault : goal.returns-clause-no_clock_fault
returns-clause-no_clock_fault g c =
    let refused = subst (λ (q : Request). IfErr c.found.result (FoundsNone g.D.Disk.shown g.C.Clock.readings g.C.Clock.faults c.args.site.now q c.in-Ok.vacant c.args.clock)) c.founding_request-request.ensures.value c.found.ensures.refused in
    no_clock_fault_by g.D.Disk.shown g.C.Clock.readings g.C.Clock.faults c.args.site.now c.args.disk c.in-Ok.vacant c.args.clock c.in-Ok.ensures.kept c.in-Ok.ensures.no_fault c.in-Ok.ensures.vacant c.found.result refused

pub returns-clause-kept : goal.returns-clause-kept
returns-clause-kept g c =
    let refused = subst (λ (q : Request). IfErr c.found.result (FoundsNone g.D.Disk.shown g.C.Clock.readings g.C.Clock.faults c.args.site.now q c.in-Ok.vacant c.args.clock)) c.founding_request-request.ensures.value c.found.ensures.refused in
    kept_by g.D.Disk.shown g.C.Clock.readings g.C.Clock.faults c.args.site.now c.args.disk c.in-Ok.vacant c.args.clock c.in-Ok.ensures.kept c.in-Ok.ensures.no_fault c.in-Ok.ensures.vacant c.found.result refused

pub returns-clause-looked_at_first : goal.returns-clause-looked_at_first
returns-clause-looked_at_first g c =
    let refused = subst (λ (q : Request). IfErr c.found.result (FoundsNone g.D.Disk.shown g.C.Clock.readings g.C.Clock.faults c.args.site.now q c.in-Ok.vacant c.args.clock)) c.founding_request-request.ensures.value c.found.ensures.refused in
    looked_at_first_by g.D.Disk.shown g.C.Clock.readings g.C.Clock.faults c.args.site.now c.args.disk c.in-Ok.vacant c.args.clock c.in-Ok.ensures.kept c.in-Ok.ensures.no_fault c.in-Ok.ensures.vacant c.found.result refused

pub returns-clause-no_other : goal.returns-clause-no_other
returns-clause-no_other g c =
    let refused = subst (λ (q : Request). IfErr c.found.result (FoundsNone g.D.Disk.shown g.C.Clock.readings g.C.Clock.faults c.args.site.now q c.in-Ok.vacant c.args.clock)) c.founding_request-request.ensures.value c.found.ensures.refused in
    no_other_by g.D.Disk.shown g.C.Clock.readings g.C.Clock.faults c.args.site.now c.args.disk c.in-Ok.vacant c.args.clock c.in-Ok.ensures.kept c.in-Ok.ensures.no_fault c.in-Ok.ensures.vacant c.found.result refused

pub returns-clause-safe : goal.returns-clause-safe
returns-clause-safe g c = λ rest blank.
    let founded = subst (λ (q : Request). IfOk c.found.result (FoundsStore g.D.Disk.shown g.C.Clock.readings g.C.Clock.faults c.args.site.now q c.in-Ok.vacant c.args.clock)) c.founding_request-request.ensures.value c.found.ensures.founded in
    let refused = subst (λ (q : Request). IfErr c.found.result (FoundsNone g.D.Disk.shown g.C.Clock.readings g.C.Clock.faults c.args.site.now q c.in-Ok.vacant c.args.clock)) c.founding_request-request.ensures.value c.found.ensures.refused in
    let safe = subst (λ (q : Request). IsAtRest (g.D.Disk.shown c.in-Ok.vacant) → MatchResult c.found.result
    (λ (s : State g.row.D.Denot g.row.C.Denot). IsSafe (g.D.Disk.shown c.in-Ok.vacant).moment [] s.history [] (g.D.Disk.shown c.in-Ok.vacant) (g.D.Disk.shown s.disk))
    (λ (n : NoStore g.row.D.Denot g.row.C.Denot). CrashesSafely g.C.Clock.readings g.C.Clock.faults q c.args.site.now.offset c.args.clock n.clock (g.D.Disk.shown c.in-Ok.vacant) (g.D.Disk.shown n.disk))) c.founding_request-request.ensures.value c.found.ensures.safe in
    safe_by g.D.Disk.shown g.C.Clock.readings g.C.Clock.faults c.args.site.now c.args.disk c.in-Ok.vacant c.args.clock c.in-Ok.ensures.kept c.in-Ok.ensures.no_fault c.in-Ok.ensures.vacant c.found.result founded refused safe rest
