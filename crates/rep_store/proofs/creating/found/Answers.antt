use Rattle.std.proofs.Common.{◌≡◌, ◌∙◌, ℕ, ◌++◌, ◌∷◌, ℤ, w16, to_z, of_z, List, [], length, Some, inr, rules, refl, ap, sym, subst, arith}
use Rattle.rep_fields.specs.Moment.{IsMoment, IsOffset, moment_at}
use Rattle.rep_wire.specs.declared.request.Entry.{Entry}
use Rattle.rep_core.specs.Answered.{recorded_after}
use Rattle.rep_core.specs.Verdict.{IsVerdict}
use Rattle.rep_core.specs.declared.verdict.Verdict.TheVariants.{Fresh}
use Rattle.rep_core.proofs.Standing.{Stands-unique, entries_of}
use Rattle.rep_journal.specs.declared.error.WhyNot.{WhyNot}
use Rattle.rep_ledger.proofs.DiskSteps.{IsRead-refl}
use Rattle.rep_ledger.proofs.Nexts.{founding_fresh}
use Rattle.rep_store.specs.Making.{CrashesSafely, FoundsNone}
use Rattle.rep_store.specs.Steps.{Ticks}
use Rattle.rep_store.specs.declared.error.NoStore.{NoStore}
use Rattle.rep_store.specs.declared.error.StoreWhy.TheVariants.{Journal}
use Rattle.rep_core.specs.History.{days_of}
use Rattle.rep_store.proofs.Dates.{days_of-recorded}
use Rattle.rep_store.proofs.Foundings.{CrashesSafely-begin, CrashesSafely-blank, FailsToFound-begin, FoundsStore-founded, IsSafe-founded, IsWhole-founded}
use Rattle.rep_store.proofs.creating.found.Goals as goal

pub returns-in_default-clause-safe : goal.returns-in_default-clause-safe
returns-in_default-clause-safe g c = λ rest.
    subst (λ (d : g.row.D.Denot). CrashesSafely g.C.Clock.readings g.C.Clock.faults c.args.request.now c.args.site.now.offset c.args.clock c.now.new.self (g.D.Disk.shown c.args.vacant) (g.D.Disk.shown d)) (sym c.into_disk.ensures.disk)
    (CrashesSafely-blank g.C.Clock.readings g.C.Clock.faults c.args.request.now c.args.site.now.offset c.args.clock c.now.new.self (g.D.Disk.shown c.args.vacant) (g.D.Disk.shown c.args.vacant) rest c.requires.blank (IsRead-refl (g.D.Disk.shown c.args.vacant)))

pub frame_of-frame-requires-clause-number : goal.frame_of-frame-requires-clause-number
frame_of-frame-requires-clause-number g c = λ h stands.
    omega (arith, ap length (Stands-unique c.args.core [] h c.requires.stands stands))

pub accept-requires-clause-fresh : goal.accept-requires-clause-fresh
accept-requires-clause-fresh g c = λ h stands.
    subst (λ (xs : List Entry). IsVerdict c.args.core.limit xs c.args.request.now Fresh) (Stands-unique c.args.core [] h c.requires.stands stands)
    (founding_fresh c.args.core.limit c.args.request.now (omega (arith, c.requires.limit, c.requires.site.some_nsr)) c.requires.founding)

pub invariant_of-result : goal.invariant_of-result
invariant_of-result g c =
    let offset : to_z w16 (of_z w16 c.args.site.now.offset) ≡ c.args.site.now.offset = search rules in
    let ticks : Ticks g.C.Clock.readings g.C.Clock.faults c.in-Ok.minute c.args.clock c.now.new.self = record { in_range = c.in-Ok.ensures.reading.0; given = c.in-Ok.ensures.reading.1; no_fault = c.in-Ok.ensures.cause.kept } in
    let told : Some c.in-Some.now ≡ Some (moment_at c.in-Ok.minute c.args.site.now.offset) =
    subst (λ (z : ℤ). Some c.in-Some.now ≡ Some (moment_at c.in-Ok.minute z)) offset
    (c.in-Some.ensures.reading ticks.in_range.0 ticks.in_range.1 (subst IsOffset (sym offset) c.requires.site.offset)) in
    let at : c.in-Some.now ≡ moment_at c.in-Ok.minute c.args.site.now.offset = cc in
    let stamp : IsMoment c.in-Some.now = search rules in
    let entries = entries_of c.accept.new.self (recorded_after [] c.args.request.now c.in-Some.now) (c.accept.ensures.recorded [] c.requires.stands) in (
      IsWhole-founded g.D.Disk.shown g.C.Clock.readings g.C.Clock.faults c.args.site.now c.requires.site c.args.request.now c.requires.founding c.args.vacant c.args.clock c.now.new.self c.in-Ok.minute c.in-Some.now stamp ticks at
          c.frame_of-frame.result (c.frame_of-frame.ensures [] c.requires.stands) c.accept.new.self entries (c.accept.ensures.limit ∙ c.requires.limit) c.in-Ok-create.journal c.new.result c.new.ensures c.args.site.now refl c.in-Ok-create.ensures.created,
      record {
        same = c.push.ensures ∙ ap (λ (xs : List ℕ). xs ++ c.day.result ∷ []) c.requires.days ∙ ap (λ (d : ℕ). d ∷ []) c.day.ensures.day
            ∙ sym (days_of-recorded [] c.args.request.now c.in-Some.now) ∙ ap (λ (xs : List Entry). days_of xs) (sym entries);
      },
    )

pub returns-in-Ok-create-clause-founded : goal.returns-in-Ok-create-clause-founded
returns-in-Ok-create-clause-founded g c =
    let offset : to_z w16 (of_z w16 c.args.site.now.offset) ≡ c.args.site.now.offset = search rules in
    let ticks : Ticks g.C.Clock.readings g.C.Clock.faults c.in-Ok.minute c.args.clock c.now.new.self = record { in_range = c.in-Ok.ensures.reading.0; given = c.in-Ok.ensures.reading.1; no_fault = c.in-Ok.ensures.cause.kept } in
    let told : Some c.in-Some.now ≡ Some (moment_at c.in-Ok.minute c.args.site.now.offset) =
    subst (λ (z : ℤ). Some c.in-Some.now ≡ Some (moment_at c.in-Ok.minute z)) offset
    (c.in-Some.ensures.reading ticks.in_range.0 ticks.in_range.1 (subst IsOffset (sym offset) c.requires.site.offset)) in
    let at : c.in-Some.now ≡ moment_at c.in-Ok.minute c.args.site.now.offset = cc in
    let stamp : IsMoment c.in-Some.now = search rules in
    let entries = entries_of c.accept.new.self (recorded_after [] c.args.request.now c.in-Some.now) (c.accept.ensures.recorded [] c.requires.stands) in
    FoundsStore-founded g.D.Disk.shown g.C.Clock.readings g.C.Clock.faults c.args.site.now c.requires.site c.args.request.now c.requires.founding c.args.vacant c.args.clock c.now.new.self c.in-Ok.minute c.in-Some.now stamp ticks at
    c.frame_of-frame.result (c.frame_of-frame.ensures [] c.requires.stands) c.accept.new.self entries (c.accept.ensures.limit ∙ c.requires.limit) c.in-Ok-create.journal c.new.result c.new.ensures c.args.site.now refl c.in-Ok-create.ensures.created

pub returns-in-Ok-create-clause-safe : goal.returns-in-Ok-create-clause-safe
returns-in-Ok-create-clause-safe g c =
    let offset : to_z w16 (of_z w16 c.args.site.now.offset) ≡ c.args.site.now.offset = search rules in
    let ticks : Ticks g.C.Clock.readings g.C.Clock.faults c.in-Ok.minute c.args.clock c.now.new.self = record { in_range = c.in-Ok.ensures.reading.0; given = c.in-Ok.ensures.reading.1; no_fault = c.in-Ok.ensures.cause.kept } in
    let told : Some c.in-Some.now ≡ Some (moment_at c.in-Ok.minute c.args.site.now.offset) =
    subst (λ (z : ℤ). Some c.in-Some.now ≡ Some (moment_at c.in-Ok.minute z)) offset
    (c.in-Some.ensures.reading ticks.in_range.0 ticks.in_range.1 (subst IsOffset (sym offset) c.requires.site.offset)) in
    let at : c.in-Some.now ≡ moment_at c.in-Ok.minute c.args.site.now.offset = cc in
    let stamp : IsMoment c.in-Some.now = search rules in
    let entries = entries_of c.accept.new.self (recorded_after [] c.args.request.now c.in-Some.now) (c.accept.ensures.recorded [] c.requires.stands) in
    IsSafe-founded g.D.Disk.shown g.C.Clock.readings g.C.Clock.faults c.args.site.now c.requires.site c.args.request.now c.requires.founding c.args.vacant c.args.clock c.now.new.self c.in-Ok.minute c.in-Some.now stamp ticks at
    c.frame_of-frame.result (c.frame_of-frame.ensures [] c.requires.stands) c.accept.new.self entries (c.accept.ensures.limit ∙ c.requires.limit) c.in-Ok-create.journal c.new.result c.new.ensures c.args.site.now refl c.in-Ok-create.ensures.created c.in-Ok-create.ensures.crash

pub returns-in-Err-clause-refused : goal.returns-in-Err-clause-refused
returns-in-Err-clause-refused g c =
    let offset : to_z w16 (of_z w16 c.args.site.now.offset) ≡ c.args.site.now.offset = search rules in
    let ticks : Ticks g.C.Clock.readings g.C.Clock.faults c.in-Ok.minute c.args.clock c.now.new.self = record { in_range = c.in-Ok.ensures.reading.0; given = c.in-Ok.ensures.reading.1; no_fault = c.in-Ok.ensures.cause.kept } in
    let told : Some c.in-Some.now ≡ Some (moment_at c.in-Ok.minute c.args.site.now.offset) =
    subst (λ (z : ℤ). Some c.in-Some.now ≡ Some (moment_at c.in-Ok.minute z)) offset
    (c.in-Some.ensures.reading ticks.in_range.0 ticks.in_range.1 (subst IsOffset (sym offset) c.requires.site.offset)) in
    let at : c.in-Some.now ≡ moment_at c.in-Ok.minute c.args.site.now.offset = cc in
    let stamp : IsMoment c.in-Some.now = search rules in
    subst (λ (n : NoStore g.row.D.Denot g.row.C.Denot). FoundsNone g.D.Disk.shown g.C.Clock.readings g.C.Clock.faults c.args.site.now c.args.request.now c.args.vacant c.args.clock n) (sym c.of.ensures)
    (inr (
      ap (λ (w : WhyNot). Journal w) c.in-Err.ensures.device_fault.0,
      FailsToFound-begin g.D.Disk.shown g.C.Clock.readings g.C.Clock.faults c.args.site.now c.requires.site c.args.request.now c.requires.founding c.args.vacant c.args.clock c.now.new.self c.in-Ok.minute c.in-Some.now stamp ticks at
          c.frame_of-frame.result (c.frame_of-frame.ensures [] c.requires.stands) c.in-Err.none.disk c.requires.blank c.in-Err.ensures.device_fault.1,
    ))

pub returns-in-Err-clause-safe : goal.returns-in-Err-clause-safe
returns-in-Err-clause-safe g c = λ rest.
    let offset : to_z w16 (of_z w16 c.args.site.now.offset) ≡ c.args.site.now.offset = search rules in
    let ticks : Ticks g.C.Clock.readings g.C.Clock.faults c.in-Ok.minute c.args.clock c.now.new.self = record { in_range = c.in-Ok.ensures.reading.0; given = c.in-Ok.ensures.reading.1; no_fault = c.in-Ok.ensures.cause.kept } in
    let told : Some c.in-Some.now ≡ Some (moment_at c.in-Ok.minute c.args.site.now.offset) =
    subst (λ (z : ℤ). Some c.in-Some.now ≡ Some (moment_at c.in-Ok.minute z)) offset
    (c.in-Some.ensures.reading ticks.in_range.0 ticks.in_range.1 (subst IsOffset (sym offset) c.requires.site.offset)) in
    let at : c.in-Some.now ≡ moment_at c.in-Ok.minute c.args.site.now.offset = cc in
    let stamp : IsMoment c.in-Some.now = search rules in
    subst (λ (n : NoStore g.row.D.Denot g.row.C.Denot). CrashesSafely g.C.Clock.readings g.C.Clock.faults c.args.request.now c.args.site.now.offset c.args.clock n.clock (g.D.Disk.shown c.args.vacant) (g.D.Disk.shown n.disk)) (sym c.of.ensures)
    (CrashesSafely-begin g.D.Disk.shown g.C.Clock.readings g.C.Clock.faults c.args.site.now c.requires.site c.args.request.now c.requires.founding c.args.vacant c.args.clock c.now.new.self c.in-Ok.minute c.in-Some.now stamp ticks at
    c.frame_of-frame.result (c.frame_of-frame.ensures [] c.requires.stands) c.in-Err.none.disk c.requires.blank c.in-Err.ensures.device_fault.1 c.in-Err.ensures.crash rest)
