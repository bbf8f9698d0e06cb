use Rattle.std.proofs.Common.{◌≡◌, ◌∙◌, ◌++◌, ◌∷◌, ℕ, ℤ, w16, to_z, of_z, List, [], Some, None, rules, ap, sym, subst, refl}
use Rattle.std.proofs.lemmas.List.Elements.{All-nil}
use Rattle.rep_fields.specs.Moment.{IsMoment, IsOffset, day_of, moment_at}
use Rattle.rep_wire.specs.declared.request.Entry.{Entry}
use Rattle.rep_core.specs.Answered.{IsReply, entry_of, recorded_after}
use Rattle.rep_core.specs.Core.{Stands}
use Rattle.rep_core.specs.Verdict.{IsVerdict}
use Rattle.rep_core.specs.declared.verdict.Verdict.TheVariants.{Fresh}
use Rattle.rep_core.proofs.Standing.{Stands-own, entries_of}
use Rattle.rep_ledger.specs.Ledger.{next_frame}
use Rattle.rep_ledger.specs.Safety.{IsSafe, receipted_at}
use Rattle.rep_ledger.proofs.DiskSteps.{IsRead-untouched}
use Rattle.rep_store.specs.Device.{PutsFrame, StopsAtFrame}
use Rattle.rep_store.specs.Fields.{state_of}
use Rattle.rep_store.specs.State.{State}
use Rattle.rep_store.specs.Steps.{LeavesAll, MissesTime, Records, Stops, Ticks, recorded_at}
use Rattle.rep_store.proofs.Dates.{AreDaysOf-kept, AreDaysOf-recorded}
use Rattle.rep_store.proofs.Parts.{IsKeptAsWas-reserved, IsWhole-reserved, same_entries, settled_of}
use Rattle.rep_store.proofs.Requests.{IsSafe-read, IsSafe-recorded, IsSafe-stopped, Records-put, Stops-put, contents_recorded, of_err, of_ok, whole_put, whole_stopped}
use Rattle.rep_store.proofs.store.Store.record.Goals as goal

pub invariant_of-self : goal.invariant_of-self
invariant_of-self g c =
    let running = ap (λ (s : State g.row.D.Denot g.row.C.Denot). s.stopped) c.self.view_is ∙ c.requires.running in (
      IsWhole-reserved g.D.Disk.shown c.self.inside.core c.take_room.new.core c.self.inside.device c.take_room.new.device c.self.inside.site c.take_room.ensures.core c.take_room.ensures.limit c.take_room.ensures.device running c.self.invariant.0,
      AreDaysOf-kept c.self.inside.core c.take_room.new.core c.self.inside.days c.take_room.new.days (same_entries g.D.Disk.shown c.self.inside.core c.take_room.new.core c.self.inside.device c.take_room.new.device c.self.inside.site c.take_room.ensures.core c.take_room.ensures.limit c.take_room.ensures.device running) c.take_room.ensures.days c.self.invariant.1,
    )

pub returns-then-is_err-clause-step : goal.returns-then-is_err-clause-step
returns-then-is_err-clause-step g c =
    let running = ap (λ (s : State g.row.D.Denot g.row.C.Denot). s.stopped) c.self.view_is ∙ c.requires.running in
    subst (λ (s : State g.row.D.Denot g.row.C.Denot). LeavesAll g.D.Disk.shown s (state_of c.take_room.new.core c.take_room.new.device c.self.inside.clock c.self.inside.site None)) c.self.view_is
    (record { kept = IsKeptAsWas-reserved g.D.Disk.shown c.self.inside.core c.take_room.new.core c.self.inside.device c.take_room.new.device c.self.inside.site c.take_room.ensures.core c.take_room.ensures.limit c.take_room.ensures.device running c.self.inside.clock c.self.inside.clock c.self.inside.reading None; no_fault = c.take_room.ensures.device.disk.faults; clock = refl; reading = refl })

pub returns-then-is_err-clause-safe : goal.returns-then-is_err-clause-safe
returns-then-is_err-clause-safe g c =
    let running = ap (λ (s : State g.row.D.Denot g.row.C.Denot). s.stopped) c.self.view_is ∙ c.requires.running in
    subst (λ (s : State g.row.D.Denot g.row.C.Denot). IsSafe (g.D.Disk.shown s.disk).moment s.history s.history [] (g.D.Disk.shown s.disk) (g.D.Disk.shown c.take_room.new.device.disk)) c.self.view_is
    (IsSafe-read c.self.inside.core.entries [] (g.D.Disk.shown c.self.inside.device.disk) (g.D.Disk.shown c.take_room.new.device.disk)
    (settled_of g.D.Disk.shown c.self.inside.core c.self.inside.device c.self.inside.site c.self.invariant.0 running)
    (IsRead-untouched (g.D.Disk.shown c.self.inside.device.disk) (g.D.Disk.shown c.take_room.new.device.disk) c.take_room.ensures.device.disk) (All-nil _))

pub invariant_of-self-in_default : goal.invariant_of-self-in_default
invariant_of-self-in_default g c =
    let running = ap (λ (s : State g.row.D.Denot g.row.C.Denot). s.stopped) c.self.view_is ∙ c.requires.running in (
      IsWhole-reserved g.D.Disk.shown c.self.inside.core c.take_room.new.core c.self.inside.device c.take_room.new.device c.self.inside.site c.take_room.ensures.core c.take_room.ensures.limit c.take_room.ensures.device running c.self.invariant.0,
      AreDaysOf-kept c.self.inside.core c.take_room.new.core c.self.inside.days c.take_room.new.days (same_entries g.D.Disk.shown c.self.inside.core c.take_room.new.core c.self.inside.device c.take_room.new.device c.self.inside.site c.take_room.ensures.core c.take_room.ensures.limit c.take_room.ensures.device running) c.take_room.ensures.days c.self.invariant.1,
    )

pub returns-in_default-clause-step : goal.returns-in_default-clause-step
returns-in_default-clause-step g c =
    let running = ap (λ (s : State g.row.D.Denot g.row.C.Denot). s.stopped) c.self.view_is ∙ c.requires.running in
    subst (λ (s : State g.row.D.Denot g.row.C.Denot). MissesTime g.D.Disk.shown g.C.Clock.readings g.C.Clock.faults s (state_of c.take_room.new.core c.take_room.new.device c.now.new.self c.self.inside.site None)) c.self.view_is
    (record {
      kept = IsKeptAsWas-reserved g.D.Disk.shown c.self.inside.core c.take_room.new.core c.self.inside.device c.take_room.new.device c.self.inside.site c.take_room.ensures.core c.take_room.ensures.limit c.take_room.ensures.device running c.self.inside.clock c.now.new.self c.self.inside.reading None;
      no_disk_fault = c.take_room.ensures.device.disk.faults;
      readings = c.in_default.ensures.reading;
      cause = c.in_default.ensures.cause.failed;
      reading = refl;
    })

pub returns-in_default-clause-safe : goal.returns-in_default-clause-safe
returns-in_default-clause-safe g c =
    let running = ap (λ (s : State g.row.D.Denot g.row.C.Denot). s.stopped) c.self.view_is ∙ c.requires.running in
    subst (λ (s : State g.row.D.Denot g.row.C.Denot). IsSafe (g.D.Disk.shown s.disk).moment s.history s.history [] (g.D.Disk.shown s.disk) (g.D.Disk.shown c.take_room.new.device.disk)) c.self.view_is
    (IsSafe-read c.self.inside.core.entries [] (g.D.Disk.shown c.self.inside.device.disk) (g.D.Disk.shown c.take_room.new.device.disk)
    (settled_of g.D.Disk.shown c.self.inside.core c.self.inside.device c.self.inside.site c.self.invariant.0 running)
    (IsRead-untouched (g.D.Disk.shown c.self.inside.device.disk) (g.D.Disk.shown c.take_room.new.device.disk) c.take_room.ensures.device.disk) (All-nil _))

pub put_entry-requires-clause-fresh : goal.put_entry-requires-clause-fresh
put_entry-requires-clause-fresh g c =
    let fresh = subst (λ (s : State g.row.D.Denot g.row.C.Denot). IsVerdict s.limit s.history c.args.q.now Fresh) (sym c.self.view_is) c.requires.fresh in
    λ h stands.
    subst (λ (n : ℕ). IsVerdict n h c.args.q.now Fresh) (sym c.take_room.ensures.limit)
    (subst (λ (xs : List Entry). IsVerdict c.self.inside.core.limit xs c.args.q.now Fresh) (entries_of c.self.inside.core h ((c.take_room.ensures.core h).1 stands)) fresh)

pub invariant_of-self-then-is_err-2 : goal.invariant_of-self-then-is_err-2
invariant_of-self-then-is_err-2 g c =
    let running = ap (λ (s : State g.row.D.Denot g.row.C.Denot). s.stopped) c.self.view_is ∙ c.requires.running in
    let fresh = subst (λ (s : State g.row.D.Denot g.row.C.Denot). IsVerdict s.limit s.history c.args.q.now Fresh) (sym c.self.view_is) c.requires.fresh in
    let whole = IsWhole-reserved g.D.Disk.shown c.self.inside.core c.take_room.new.core c.self.inside.device c.take_room.new.device c.self.inside.site c.take_room.ensures.core c.take_room.ensures.limit c.take_room.ensures.device running c.self.invariant.0 in
    let same = same_entries g.D.Disk.shown c.self.inside.core c.take_room.new.core c.self.inside.device c.take_room.new.device c.self.inside.site c.take_room.ensures.core c.take_room.ensures.limit c.take_room.ensures.device running in
    let ticks : Ticks g.C.Clock.readings g.C.Clock.faults c.in-Ok.minute c.self.inside.clock c.now.new.self = record { in_range = c.in-Ok.ensures.reading.0; given = c.in-Ok.ensures.reading.1; no_fault = c.in-Ok.ensures.cause.kept } in
    let offset : to_z w16 (of_z w16 c.self.inside.site.offset) ≡ c.self.inside.site.offset = search rules in
    let told : Some c.in-Some.now ≡ Some (moment_at c.in-Ok.minute c.self.inside.site.offset) =
    subst (λ (z : ℤ). Some c.in-Some.now ≡ Some (moment_at c.in-Ok.minute z)) offset
    (c.in-Some.ensures.reading ticks.in_range.0 ticks.in_range.1 (subst IsOffset (sym offset) c.self.invariant.0.is_site.offset)) in
    let at : c.in-Some.now ≡ moment_at c.in-Ok.minute c.self.inside.site.offset = cc in
    let stamp : IsMoment c.in-Some.now = search rules in
    let stops = of_err c.put_entry.result ((h : List Entry) → Stands c.take_room.new.core h → Stands c.put_entry.new.core h × StopsAtFrame g.D.Disk.shown (next_frame h (entry_of c.args.q.now c.in-Some.now)) c.take_room.new.device c.put_entry.new.device) (sym c.is_err-2.ensures.value ∙ c.if-is_err-2.true) c.put_entry.ensures.stopped c.take_room.new.core.entries (Stands-own c.take_room.new.core) in
    let kept = entries_of c.put_entry.new.core c.take_room.new.core.entries stops.0 in (
      whole_stopped g.D.Disk.shown g.C.Clock.readings g.C.Clock.faults c.self.inside.core c.take_room.new.core c.put_entry.new.core c.self.inside.device c.take_room.new.device c.put_entry.new.device c.self.inside.clock c.now.new.self
          c.self.inside.site c.self.inside.reading c.args.q.now c.in-Ok.minute c.in-Some.now whole same c.take_room.ensures.limit c.take_room.ensures.device ticks at c.requires.asked stamp fresh c.put_entry.ensures.limit stops.1 kept,
      AreDaysOf-kept c.take_room.new.core c.put_entry.new.core c.take_room.new.days c.put_entry.new.days kept
          (of_err c.put_entry.result (c.put_entry.new.days.days ≡ c.take_room.new.days.days) (sym c.is_err-2.ensures.value ∙ c.if-is_err-2.true) c.put_entry.ensures.days)
          (AreDaysOf-kept c.self.inside.core c.take_room.new.core c.self.inside.days c.take_room.new.days same c.take_room.ensures.days c.self.invariant.1),
    )

pub returns-then-is_err-2-clause-step : goal.returns-then-is_err-2-clause-step
returns-then-is_err-2-clause-step g c =
    let running = ap (λ (s : State g.row.D.Denot g.row.C.Denot). s.stopped) c.self.view_is ∙ c.requires.running in
    let fresh = subst (λ (s : State g.row.D.Denot g.row.C.Denot). IsVerdict s.limit s.history c.args.q.now Fresh) (sym c.self.view_is) c.requires.fresh in
    let whole = IsWhole-reserved g.D.Disk.shown c.self.inside.core c.take_room.new.core c.self.inside.device c.take_room.new.device c.self.inside.site c.take_room.ensures.core c.take_room.ensures.limit c.take_room.ensures.device running c.self.invariant.0 in
    let same = same_entries g.D.Disk.shown c.self.inside.core c.take_room.new.core c.self.inside.device c.take_room.new.device c.self.inside.site c.take_room.ensures.core c.take_room.ensures.limit c.take_room.ensures.device running in
    let ticks : Ticks g.C.Clock.readings g.C.Clock.faults c.in-Ok.minute c.self.inside.clock c.now.new.self = record { in_range = c.in-Ok.ensures.reading.0; given = c.in-Ok.ensures.reading.1; no_fault = c.in-Ok.ensures.cause.kept } in
    let offset : to_z w16 (of_z w16 c.self.inside.site.offset) ≡ c.self.inside.site.offset = search rules in
    let told : Some c.in-Some.now ≡ Some (moment_at c.in-Ok.minute c.self.inside.site.offset) =
    subst (λ (z : ℤ). Some c.in-Some.now ≡ Some (moment_at c.in-Ok.minute z)) offset
    (c.in-Some.ensures.reading ticks.in_range.0 ticks.in_range.1 (subst IsOffset (sym offset) c.self.invariant.0.is_site.offset)) in
    let at : c.in-Some.now ≡ moment_at c.in-Ok.minute c.self.inside.site.offset = cc in
    let stamp : IsMoment c.in-Some.now = search rules in
    let stops = of_err c.put_entry.result ((h : List Entry) → Stands c.take_room.new.core h → Stands c.put_entry.new.core h × StopsAtFrame g.D.Disk.shown (next_frame h (entry_of c.args.q.now c.in-Some.now)) c.take_room.new.device c.put_entry.new.device) (sym c.is_err-2.ensures.value ∙ c.if-is_err-2.true) c.put_entry.ensures.stopped c.take_room.new.core.entries (Stands-own c.take_room.new.core) in
    let kept = entries_of c.put_entry.new.core c.take_room.new.core.entries stops.0 in
    subst (λ (s : State g.row.D.Denot g.row.C.Denot). Stops g.D.Disk.shown g.C.Clock.readings g.C.Clock.faults c.args.q.now s (state_of c.put_entry.new.core c.put_entry.new.device c.now.new.self c.self.inside.site (Some c.in-Ok.minute))) c.self.view_is
    (Stops-put g.D.Disk.shown g.C.Clock.readings g.C.Clock.faults c.self.inside.core c.take_room.new.core c.put_entry.new.core c.self.inside.device c.take_room.new.device c.put_entry.new.device c.self.inside.clock c.now.new.self
    c.self.inside.site c.self.inside.reading c.args.q.now c.in-Ok.minute c.in-Some.now whole same c.take_room.ensures.limit c.take_room.ensures.device ticks at c.requires.asked stamp fresh c.put_entry.ensures.limit stops.1 kept)

pub returns-then-is_err-2-clause-safe : goal.returns-then-is_err-2-clause-safe
returns-then-is_err-2-clause-safe g c =
    let running = ap (λ (s : State g.row.D.Denot g.row.C.Denot). s.stopped) c.self.view_is ∙ c.requires.running in
    let fresh = subst (λ (s : State g.row.D.Denot g.row.C.Denot). IsVerdict s.limit s.history c.args.q.now Fresh) (sym c.self.view_is) c.requires.fresh in
    let whole = IsWhole-reserved g.D.Disk.shown c.self.inside.core c.take_room.new.core c.self.inside.device c.take_room.new.device c.self.inside.site c.take_room.ensures.core c.take_room.ensures.limit c.take_room.ensures.device running c.self.invariant.0 in
    let same = same_entries g.D.Disk.shown c.self.inside.core c.take_room.new.core c.self.inside.device c.take_room.new.device c.self.inside.site c.take_room.ensures.core c.take_room.ensures.limit c.take_room.ensures.device running in
    let ticks : Ticks g.C.Clock.readings g.C.Clock.faults c.in-Ok.minute c.self.inside.clock c.now.new.self = record { in_range = c.in-Ok.ensures.reading.0; given = c.in-Ok.ensures.reading.1; no_fault = c.in-Ok.ensures.cause.kept } in
    let offset : to_z w16 (of_z w16 c.self.inside.site.offset) ≡ c.self.inside.site.offset = search rules in
    let told : Some c.in-Some.now ≡ Some (moment_at c.in-Ok.minute c.self.inside.site.offset) =
    subst (λ (z : ℤ). Some c.in-Some.now ≡ Some (moment_at c.in-Ok.minute z)) offset
    (c.in-Some.ensures.reading ticks.in_range.0 ticks.in_range.1 (subst IsOffset (sym offset) c.self.invariant.0.is_site.offset)) in
    let at : c.in-Some.now ≡ moment_at c.in-Ok.minute c.self.inside.site.offset = cc in
    let stamp : IsMoment c.in-Some.now = search rules in
    let stops = of_err c.put_entry.result ((h : List Entry) → Stands c.take_room.new.core h → Stands c.put_entry.new.core h × StopsAtFrame g.D.Disk.shown (next_frame h (entry_of c.args.q.now c.in-Some.now)) c.take_room.new.device c.put_entry.new.device) (sym c.is_err-2.ensures.value ∙ c.if-is_err-2.true) c.put_entry.ensures.stopped c.take_room.new.core.entries (Stands-own c.take_room.new.core) in
    let kept = entries_of c.put_entry.new.core c.take_room.new.core.entries stops.0 in
    subst (λ (s : State g.row.D.Denot g.row.C.Denot). IsSafe (g.D.Disk.shown s.disk).moment s.history (recorded_at s.history c.args.q.now s.offset (Some c.in-Ok.minute)) [] (g.D.Disk.shown s.disk) (g.D.Disk.shown c.put_entry.new.device.disk)) c.self.view_is
    (IsSafe-stopped g.D.Disk.shown g.C.Clock.readings g.C.Clock.faults c.self.inside.core c.take_room.new.core c.put_entry.new.core c.self.inside.device c.take_room.new.device c.put_entry.new.device c.self.inside.clock c.now.new.self
    c.self.inside.site c.self.inside.reading c.args.q.now c.in-Ok.minute c.in-Some.now whole same c.take_room.ensures.limit c.take_room.ensures.device ticks at c.requires.asked stamp fresh c.put_entry.ensures.limit stops.1.crash)

pub invariant_of-self-2 : goal.invariant_of-self-2
invariant_of-self-2 g c =
    let running = ap (λ (s : State g.row.D.Denot g.row.C.Denot). s.stopped) c.self.view_is ∙ c.requires.running in
    let fresh = subst (λ (s : State g.row.D.Denot g.row.C.Denot). IsVerdict s.limit s.history c.args.q.now Fresh) (sym c.self.view_is) c.requires.fresh in
    let whole = IsWhole-reserved g.D.Disk.shown c.self.inside.core c.take_room.new.core c.self.inside.device c.take_room.new.device c.self.inside.site c.take_room.ensures.core c.take_room.ensures.limit c.take_room.ensures.device running c.self.invariant.0 in
    let same = same_entries g.D.Disk.shown c.self.inside.core c.take_room.new.core c.self.inside.device c.take_room.new.device c.self.inside.site c.take_room.ensures.core c.take_room.ensures.limit c.take_room.ensures.device running in
    let ticks : Ticks g.C.Clock.readings g.C.Clock.faults c.in-Ok.minute c.self.inside.clock c.now.new.self = record { in_range = c.in-Ok.ensures.reading.0; given = c.in-Ok.ensures.reading.1; no_fault = c.in-Ok.ensures.cause.kept } in
    let offset : to_z w16 (of_z w16 c.self.inside.site.offset) ≡ c.self.inside.site.offset = search rules in
    let told : Some c.in-Some.now ≡ Some (moment_at c.in-Ok.minute c.self.inside.site.offset) =
    subst (λ (z : ℤ). Some c.in-Some.now ≡ Some (moment_at c.in-Ok.minute z)) offset
    (c.in-Some.ensures.reading ticks.in_range.0 ticks.in_range.1 (subst IsOffset (sym offset) c.self.invariant.0.is_site.offset)) in
    let at : c.in-Some.now ≡ moment_at c.in-Ok.minute c.self.inside.site.offset = cc in
    let stamp : IsMoment c.in-Some.now = search rules in
    let put = of_ok c.put_entry.result ((h : List Entry) → Stands c.take_room.new.core h → Stands c.put_entry.new.core (recorded_after h c.args.q.now c.in-Some.now) × PutsFrame g.D.Disk.shown (next_frame h (entry_of c.args.q.now c.in-Some.now)) c.take_room.new.device c.put_entry.new.device) (sym c.is_err-2.ensures.value ∙ c.if-is_err-2.false) c.put_entry.ensures.put c.take_room.new.core.entries (Stands-own c.take_room.new.core) in
    let recorded = entries_of c.put_entry.new.core (recorded_after c.take_room.new.core.entries c.args.q.now c.in-Some.now) put.0 in (
      whole_put g.D.Disk.shown g.C.Clock.readings g.C.Clock.faults c.self.inside.core c.take_room.new.core c.put_entry.new.core c.self.inside.device c.take_room.new.device c.put_entry.new.device c.self.inside.clock c.now.new.self
          c.self.inside.site c.self.inside.reading c.args.q.now c.in-Ok.minute c.in-Some.now whole same c.take_room.ensures.limit c.take_room.ensures.device ticks at c.requires.asked stamp fresh c.put_entry.ensures.limit put.1 recorded,
      AreDaysOf-recorded c.take_room.new.core c.put_entry.new.core c.take_room.new.days c.put_entry.new.days c.args.q.now c.in-Some.now recorded
          (of_ok c.put_entry.result (c.put_entry.new.days.days ≡ c.take_room.new.days.days ++ day_of c.in-Some.now ∷ []) (sym c.is_err-2.ensures.value ∙ c.if-is_err-2.false) c.put_entry.ensures.day)
          (AreDaysOf-kept c.self.inside.core c.take_room.new.core c.self.inside.days c.take_room.new.days same c.take_room.ensures.days c.self.invariant.1),
    )

pub returns-clause-step : goal.returns-clause-step
returns-clause-step g c =
    let running = ap (λ (s : State g.row.D.Denot g.row.C.Denot). s.stopped) c.self.view_is ∙ c.requires.running in
    let fresh = subst (λ (s : State g.row.D.Denot g.row.C.Denot). IsVerdict s.limit s.history c.args.q.now Fresh) (sym c.self.view_is) c.requires.fresh in
    let whole = IsWhole-reserved g.D.Disk.shown c.self.inside.core c.take_room.new.core c.self.inside.device c.take_room.new.device c.self.inside.site c.take_room.ensures.core c.take_room.ensures.limit c.take_room.ensures.device running c.self.invariant.0 in
    let same = same_entries g.D.Disk.shown c.self.inside.core c.take_room.new.core c.self.inside.device c.take_room.new.device c.self.inside.site c.take_room.ensures.core c.take_room.ensures.limit c.take_room.ensures.device running in
    let ticks : Ticks g.C.Clock.readings g.C.Clock.faults c.in-Ok.minute c.self.inside.clock c.now.new.self = record { in_range = c.in-Ok.ensures.reading.0; given = c.in-Ok.ensures.reading.1; no_fault = c.in-Ok.ensures.cause.kept } in
    let offset : to_z w16 (of_z w16 c.self.inside.site.offset) ≡ c.self.inside.site.offset = search rules in
    let told : Some c.in-Some.now ≡ Some (moment_at c.in-Ok.minute c.self.inside.site.offset) =
    subst (λ (z : ℤ). Some c.in-Some.now ≡ Some (moment_at c.in-Ok.minute z)) offset
    (c.in-Some.ensures.reading ticks.in_range.0 ticks.in_range.1 (subst IsOffset (sym offset) c.self.invariant.0.is_site.offset)) in
    let at : c.in-Some.now ≡ moment_at c.in-Ok.minute c.self.inside.site.offset = cc in
    let stamp : IsMoment c.in-Some.now = search rules in
    let put = of_ok c.put_entry.result ((h : List Entry) → Stands c.take_room.new.core h → Stands c.put_entry.new.core (recorded_after h c.args.q.now c.in-Some.now) × PutsFrame g.D.Disk.shown (next_frame h (entry_of c.args.q.now c.in-Some.now)) c.take_room.new.device c.put_entry.new.device) (sym c.is_err-2.ensures.value ∙ c.if-is_err-2.false) c.put_entry.ensures.put c.take_room.new.core.entries (Stands-own c.take_room.new.core) in
    let recorded = entries_of c.put_entry.new.core (recorded_after c.take_room.new.core.entries c.args.q.now c.in-Some.now) put.0 in
    let answered = subst (λ (n : ℕ). IsReply n c.put_entry.new.core.entries c.args.q.now c.receipt.result) (c.put_entry.ensures.limit ∙ c.take_room.ensures.limit) (c.receipt.ensures c.put_entry.new.core.entries (Stands-own c.put_entry.new.core)) in
    subst (λ (s : State g.row.D.Denot g.row.C.Denot). Records g.D.Disk.shown g.C.Clock.readings g.C.Clock.faults c.args.q.now s (state_of c.put_entry.new.core c.put_entry.new.device c.now.new.self c.self.inside.site (Some c.in-Ok.minute)) × IsReply s.limit c.put_entry.new.core.entries c.args.q.now c.receipt.result) c.self.view_is (
      Records-put g.D.Disk.shown g.C.Clock.readings g.C.Clock.faults c.self.inside.core c.take_room.new.core c.put_entry.new.core c.self.inside.device c.take_room.new.device c.put_entry.new.device c.self.inside.clock c.now.new.self
          c.self.inside.site c.self.inside.reading c.args.q.now c.in-Ok.minute c.in-Some.now whole same c.take_room.ensures.limit c.take_room.ensures.device ticks at c.requires.asked stamp fresh c.put_entry.ensures.limit put.1 recorded,
      answered,
    )

pub returns-clause-safe : goal.returns-clause-safe
returns-clause-safe g c =
    let running = ap (λ (s : State g.row.D.Denot g.row.C.Denot). s.stopped) c.self.view_is ∙ c.requires.running in
    let fresh = subst (λ (s : State g.row.D.Denot g.row.C.Denot). IsVerdict s.limit s.history c.args.q.now Fresh) (sym c.self.view_is) c.requires.fresh in
    let whole = IsWhole-reserved g.D.Disk.shown c.self.inside.core c.take_room.new.core c.self.inside.device c.take_room.new.device c.self.inside.site c.take_room.ensures.core c.take_room.ensures.limit c.take_room.ensures.device running c.self.invariant.0 in
    let same = same_entries g.D.Disk.shown c.self.inside.core c.take_room.new.core c.self.inside.device c.take_room.new.device c.self.inside.site c.take_room.ensures.core c.take_room.ensures.limit c.take_room.ensures.device running in
    let ticks : Ticks g.C.Clock.readings g.C.Clock.faults c.in-Ok.minute c.self.inside.clock c.now.new.self = record { in_range = c.in-Ok.ensures.reading.0; given = c.in-Ok.ensures.reading.1; no_fault = c.in-Ok.ensures.cause.kept } in
    let offset : to_z w16 (of_z w16 c.self.inside.site.offset) ≡ c.self.inside.site.offset = search rules in
    let told : Some c.in-Some.now ≡ Some (moment_at c.in-Ok.minute c.self.inside.site.offset) =
    subst (λ (z : ℤ). Some c.in-Some.now ≡ Some (moment_at c.in-Ok.minute z)) offset
    (c.in-Some.ensures.reading ticks.in_range.0 ticks.in_range.1 (subst IsOffset (sym offset) c.self.invariant.0.is_site.offset)) in
    let at : c.in-Some.now ≡ moment_at c.in-Ok.minute c.self.inside.site.offset = cc in
    let stamp : IsMoment c.in-Some.now = search rules in
    let put = of_ok c.put_entry.result ((h : List Entry) → Stands c.take_room.new.core h → Stands c.put_entry.new.core (recorded_after h c.args.q.now c.in-Some.now) × PutsFrame g.D.Disk.shown (next_frame h (entry_of c.args.q.now c.in-Some.now)) c.take_room.new.device c.put_entry.new.device) (sym c.is_err-2.ensures.value ∙ c.if-is_err-2.false) c.put_entry.ensures.put c.take_room.new.core.entries (Stands-own c.take_room.new.core) in
    let recorded = entries_of c.put_entry.new.core (recorded_after c.take_room.new.core.entries c.args.q.now c.in-Some.now) put.0 in
    let answered = subst (λ (n : ℕ). IsReply n c.put_entry.new.core.entries c.args.q.now c.receipt.result) (c.put_entry.ensures.limit ∙ c.take_room.ensures.limit) (c.receipt.ensures c.put_entry.new.core.entries (Stands-own c.put_entry.new.core)) in
    let whole_after = whole_put g.D.Disk.shown g.C.Clock.readings g.C.Clock.faults c.self.inside.core c.take_room.new.core c.put_entry.new.core c.self.inside.device c.take_room.new.device c.put_entry.new.device c.self.inside.clock c.now.new.self
    c.self.inside.site c.self.inside.reading c.args.q.now c.in-Ok.minute c.in-Some.now whole same c.take_room.ensures.limit c.take_room.ensures.device ticks at c.requires.asked stamp fresh c.put_entry.ensures.limit put.1 recorded in
    subst (λ (s : State g.row.D.Denot g.row.C.Denot). IsSafe (g.D.Disk.shown s.disk).moment s.history (recorded_at s.history c.args.q.now s.offset (Some c.in-Ok.minute)) (receipted_at (g.D.Disk.shown c.put_entry.new.device.disk).moment c.receipt.result.answer) (g.D.Disk.shown s.disk) (g.D.Disk.shown c.put_entry.new.device.disk)) c.self.view_is
    (IsSafe-recorded g.D.Disk.shown g.C.Clock.readings g.C.Clock.faults c.self.inside.core c.take_room.new.core c.put_entry.new.core c.self.inside.device c.take_room.new.device c.put_entry.new.device c.self.inside.clock c.now.new.self
    c.self.inside.site c.self.inside.reading c.args.q.now c.in-Ok.minute c.in-Some.now whole same c.take_room.ensures.limit c.take_room.ensures.device ticks at c.requires.asked stamp fresh c.put_entry.ensures.limit put.1.crash c.receipt.result whole_after put.1.running
    (contents_recorded g.D.Disk.shown g.C.Clock.readings g.C.Clock.faults c.self.inside.core c.take_room.new.core c.put_entry.new.core c.self.inside.device c.take_room.new.device c.put_entry.new.device c.self.inside.clock c.now.new.self
    c.self.inside.site c.self.inside.reading c.args.q.now c.in-Ok.minute c.in-Some.now whole same c.take_room.ensures.limit c.take_room.ensures.device ticks at c.requires.asked stamp fresh c.put_entry.ensures.limit put.1 recorded) answered)
