use Rattle.std.proofs.Common.{◌≡◌, ◌∙◌, ℕ, ℤ, w16, to_z, of_z, List, [], Some, None, Result, Ok, Err, rules, ap, sym, subst, refl}
use Rattle.std.specs.Prelude.{IsSome}
use Rattle.std.proofs.lemmas.List.Elements.{All-nil}
use Rattle.rep_fields.specs.Moment.{IsOffset, moment_at}
use Rattle.rep_io.specs.Causes.{Rose}
use Rattle.rep_core.specs.Valid.{IsFounded}
use Rattle.rep_core.proofs.Standing.{Stands-own, entries_of}
use Rattle.rep_ledger.specs.Safety.{IsSafe}
use Rattle.rep_ledger.proofs.DiskSteps.{IsRead-refl}
use Rattle.rep_store.specs.Extracting.{Extracts, failed_by_disk}
use Rattle.rep_store.specs.Fields.{state_of}
use Rattle.rep_store.specs.State.{State}
use Rattle.rep_store.specs.Steps.{Ticks}
use Rattle.rep_store.proofs.Extractions.{Extracts-put, IsExtractHead-own, IsWhole-read, PutsExtract-days, for_ok}
use Rattle.rep_store.proofs.Parts.{settled_of}
use Rattle.rep_store.proofs.Requests.{IsSafe-read}
use Rattle.rep_store.proofs.store.Store.extract.Goals as goal

pub returns-in_default-now-clause-safe : goal.returns-in_default-now-clause-safe
returns-in_default-now-clause-safe g c = λ still.
    let core = c.self.inside.core in
    let device = c.self.inside.device in
    let site = c.self.inside.site in
    let runs = sym c.stopped.ensures ∙ c.in_default.is in
    subst (λ (s : State g.row.D.Denot g.row.C.Denot). IsSafe (g.D.Disk.shown s.disk).moment s.history s.history [] (g.D.Disk.shown s.disk) (g.D.Disk.shown c.self.inside.device.disk)) c.self.view_is
    (IsSafe-read core.entries [] (g.D.Disk.shown device.disk) (g.D.Disk.shown device.disk) (settled_of g.D.Disk.shown core device site c.self.invariant.0 runs) (IsRead-refl (g.D.Disk.shown device.disk)) (All-nil _))

pub head_of-head-requires-clause-founded : goal.head_of-head-requires-clause-founded
head_of-head-requires-clause-founded g c = λ h stands.
    subst IsFounded (entries_of c.self.inside.core h stands) c.self.invariant.0.founded

pub invariant_of-self-2 : goal.invariant_of-self-2
invariant_of-self-2 g c =
    let core = c.self.inside.core in
    let device = c.self.inside.device in
    let site = c.self.inside.site in
    let runs = sym c.stopped.ensures ∙ c.in_default.is in (
      IsWhole-read g.D.Disk.shown core device c.put_extract.new.device site (failed_by_disk c.put_extract.result) c.self.invariant.0 runs c.put_extract.ensures.running c.put_extract.ensures.journal,
      c.self.invariant.1,
    )

pub returns-clause-extracted : goal.returns-clause-extracted
returns-clause-extracted g c =
    let core = c.self.inside.core in
    let device = c.self.inside.device in
    let site = c.self.inside.site in
    let runs = sym c.stopped.ensures ∙ c.in_default.is in
    let ticks : Ticks g.C.Clock.readings g.C.Clock.faults c.in-Ok.minute c.self.inside.clock c.now.new.self = record { in_range = c.in-Ok.ensures.reading.0; given = c.in-Ok.ensures.reading.1; no_fault = c.in-Ok.ensures.cause.kept } in
    let offset : to_z w16 (of_z w16 c.self.inside.site.offset) ≡ c.self.inside.site.offset = search rules in
    let told : Some c.in-Some-at.made ≡ Some (moment_at c.in-Ok.minute c.self.inside.site.offset) =
    subst (λ (z : ℤ). Some c.in-Some-at.made ≡ Some (moment_at c.in-Ok.minute z)) offset
    (c.in-Some-at.ensures.reading ticks.in_range.0 ticks.in_range.1 (subst IsOffset (sym offset) c.self.invariant.0.is_site.offset)) in
    let at : c.in-Some-at.made ≡ moment_at c.in-Ok.minute c.self.inside.site.offset = cc in
    let head = c.head_of-head.result in
    let headed = c.head_of-head.ensures.head core.entries c.in-Ok.minute (Stands-own core) at in
    let own = IsExtractHead-own site core.entries c.args.from c.args.to c.in-Ok.minute head headed in
    let puts = PutsExtract-days site core.entries c.args.lead c.args.from c.args.to head.first head.last c.in-Ok.minute (IsSome (g.D.Disk.shown c.self.inside.device.disk).contents) (g.K.Sink.written c.args.sink.now) (g.K.Sink.written c.put_extract.new.sink) c.put_extract.result headed.first headed.last
    (c.put_extract.ensures.puts site c.in-Ok.minute c.self.invariant.0.is_site c.self.invariant.0.founded own) in
    let extracts =
    subst (λ (s : State g.row.D.Denot g.row.C.Denot). Extracts g.D.Disk.shown g.C.Clock.readings g.C.Clock.faults c.args.lead c.args.from c.args.to s (state_of c.self.inside.core c.put_extract.new.device c.now.new.self c.self.inside.site (Some c.in-Ok.minute)) (g.K.Sink.written c.args.sink.now) (g.K.Sink.written c.put_extract.new.sink) c.put_extract.result) c.self.view_is
    (Extracts-put g.D.Disk.shown g.C.Clock.readings g.C.Clock.faults core device c.put_extract.new.device c.self.inside.clock c.now.new.self site c.self.inside.reading c.args.lead c.args.from c.args.to c.in-Ok.minute runs c.put_extract.ensures.running ticks
    (g.K.Sink.written c.args.sink.now) (g.K.Sink.written c.put_extract.new.sink) c.put_extract.result c.put_extract.ensures.journal puts) in
    for_ok _ c.put_extract.result extracts

pub returns-clause-sink_fault : goal.returns-clause-sink_fault
returns-clause-sink_fault g c = λ is.
    let core = c.self.inside.core in
    let device = c.self.inside.device in
    let site = c.self.inside.site in
    let runs = sym c.stopped.ensures ∙ c.in_default.is in
    let ticks : Ticks g.C.Clock.readings g.C.Clock.faults c.in-Ok.minute c.self.inside.clock c.now.new.self = record { in_range = c.in-Ok.ensures.reading.0; given = c.in-Ok.ensures.reading.1; no_fault = c.in-Ok.ensures.cause.kept } in
    let offset : to_z w16 (of_z w16 c.self.inside.site.offset) ≡ c.self.inside.site.offset = search rules in
    let told : Some c.in-Some-at.made ≡ Some (moment_at c.in-Ok.minute c.self.inside.site.offset) =
    subst (λ (z : ℤ). Some c.in-Some-at.made ≡ Some (moment_at c.in-Ok.minute z)) offset
    (c.in-Some-at.ensures.reading ticks.in_range.0 ticks.in_range.1 (subst IsOffset (sym offset) c.self.invariant.0.is_site.offset)) in
    let at : c.in-Some-at.made ≡ moment_at c.in-Ok.minute c.self.inside.site.offset = cc in
    let head = c.head_of-head.result in
    let headed = c.head_of-head.ensures.head core.entries c.in-Ok.minute (Stands-own core) at in
    let own = IsExtractHead-own site core.entries c.args.from c.args.to c.in-Ok.minute head headed in
    let puts = PutsExtract-days site core.entries c.args.lead c.args.from c.args.to head.first head.last c.in-Ok.minute (IsSome (g.D.Disk.shown c.self.inside.device.disk).contents) (g.K.Sink.written c.args.sink.now) (g.K.Sink.written c.put_extract.new.sink) c.put_extract.result headed.first headed.last
    (c.put_extract.ensures.puts site c.in-Ok.minute c.self.invariant.0.is_site c.self.invariant.0.founded own) in
    let extracts =
    subst (λ (s : State g.row.D.Denot g.row.C.Denot). Extracts g.D.Disk.shown g.C.Clock.readings g.C.Clock.faults c.args.lead c.args.from c.args.to s (state_of c.self.inside.core c.put_extract.new.device c.now.new.self c.self.inside.site (Some c.in-Ok.minute)) (g.K.Sink.written c.args.sink.now) (g.K.Sink.written c.put_extract.new.sink) c.put_extract.result) c.self.view_is
    (Extracts-put g.D.Disk.shown g.C.Clock.readings g.C.Clock.faults core device c.put_extract.new.device c.self.inside.clock c.now.new.self site c.self.inside.reading c.args.lead c.args.from c.args.to c.in-Ok.minute runs c.put_extract.ensures.running ticks
    (g.K.Sink.written c.args.sink.now) (g.K.Sink.written c.put_extract.new.sink) c.put_extract.result c.put_extract.ensures.journal puts) in
    (extracts, c.put_extract.ensures.sink_fault is)

pub returns-clause-device_fault : goal.returns-clause-device_fault
returns-clause-device_fault g c = λ is.
    let core = c.self.inside.core in
    let device = c.self.inside.device in
    let site = c.self.inside.site in
    let runs = sym c.stopped.ensures ∙ c.in_default.is in
    let ticks : Ticks g.C.Clock.readings g.C.Clock.faults c.in-Ok.minute c.self.inside.clock c.now.new.self = record { in_range = c.in-Ok.ensures.reading.0; given = c.in-Ok.ensures.reading.1; no_fault = c.in-Ok.ensures.cause.kept } in
    let offset : to_z w16 (of_z w16 c.self.inside.site.offset) ≡ c.self.inside.site.offset = search rules in
    let told : Some c.in-Some-at.made ≡ Some (moment_at c.in-Ok.minute c.self.inside.site.offset) =
    subst (λ (z : ℤ). Some c.in-Some-at.made ≡ Some (moment_at c.in-Ok.minute z)) offset
    (c.in-Some-at.ensures.reading ticks.in_range.0 ticks.in_range.1 (subst IsOffset (sym offset) c.self.invariant.0.is_site.offset)) in
    let at : c.in-Some-at.made ≡ moment_at c.in-Ok.minute c.self.inside.site.offset = cc in
    let head = c.head_of-head.result in
    let headed = c.head_of-head.ensures.head core.entries c.in-Ok.minute (Stands-own core) at in
    let own = IsExtractHead-own site core.entries c.args.from c.args.to c.in-Ok.minute head headed in
    let puts = PutsExtract-days site core.entries c.args.lead c.args.from c.args.to head.first head.last c.in-Ok.minute (IsSome (g.D.Disk.shown c.self.inside.device.disk).contents) (g.K.Sink.written c.args.sink.now) (g.K.Sink.written c.put_extract.new.sink) c.put_extract.result headed.first headed.last
    (c.put_extract.ensures.puts site c.in-Ok.minute c.self.invariant.0.is_site c.self.invariant.0.founded own) in
    let extracts =
    subst (λ (s : State g.row.D.Denot g.row.C.Denot). Extracts g.D.Disk.shown g.C.Clock.readings g.C.Clock.faults c.args.lead c.args.from c.args.to s (state_of c.self.inside.core c.put_extract.new.device c.now.new.self c.self.inside.site (Some c.in-Ok.minute)) (g.K.Sink.written c.args.sink.now) (g.K.Sink.written c.put_extract.new.sink) c.put_extract.result) c.self.view_is
    (Extracts-put g.D.Disk.shown g.C.Clock.readings g.C.Clock.faults core device c.put_extract.new.device c.self.inside.clock c.now.new.self site c.self.inside.reading c.args.lead c.args.from c.args.to c.in-Ok.minute runs c.put_extract.ensures.running ticks
    (g.K.Sink.written c.args.sink.now) (g.K.Sink.written c.put_extract.new.sink) c.put_extract.result c.put_extract.ensures.journal puts) in (
      extracts,
      subst (λ (s : State g.row.D.Denot g.row.C.Denot). Rose (g.D.Disk.shown s.disk).faults (g.D.Disk.shown c.put_extract.new.device.disk).faults) c.self.view_is (c.put_extract.ensures.device_fault is),
    )

pub returns-clause-safe : goal.returns-clause-safe
returns-clause-safe g c = λ still.
    let core = c.self.inside.core in
    let device = c.self.inside.device in
    let site = c.self.inside.site in
    let runs = sym c.stopped.ensures ∙ c.in_default.is in
    subst (λ (s : State g.row.D.Denot g.row.C.Denot). IsSafe (g.D.Disk.shown s.disk).moment s.history s.history [] (g.D.Disk.shown s.disk) (g.D.Disk.shown c.put_extract.new.device.disk)) c.self.view_is
    (IsSafe-read core.entries [] (g.D.Disk.shown device.disk) (g.D.Disk.shown c.put_extract.new.device.disk) (settled_of g.D.Disk.shown core device site c.self.invariant.0 runs) c.put_extract.ensures.journal.disk (All-nil _))
