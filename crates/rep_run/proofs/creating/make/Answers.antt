use Rattle.std.proofs.Common.{inl, refl, sym, subst}
use Rattle.std.specs.Prelude.{IfSome, []}
use Rattle.rep_journal.specs.Format.{IsBlank, IsForeign, IsPresent}
use Rattle.rep_journal.specs.declared.error.WhyNot.TheVariants as why
use Rattle.rep_store.specs.declared.error.StoreWhy.TheVariants.{Journal}
use Rattle.rep_ledger.proofs.DiskSteps.{IsRead-refl}
use Rattle.rep_run.specs.declared.stopping.Stopping.{Stopping}
use Rattle.rep_run.specs.Creating.{Creates}
use Rattle.rep_run.specs.Steps.{IsMadeOrFails}
use Rattle.rep_run.proofs.Known.{if_some}
use Rattle.rep_run.proofs.SettingsLemmas.{fails_made}
use Rattle.rep_run.proofs.CreatingLemmas.{blank_stays, makes_journal, makes_safe, fails_safe, fails_to_make, fails_blank, refused_only}
use Rattle.rep_run.proofs.creating.make.Goals as goal

pub returns-in-Err-clause-safe : goal.returns-in-Err-clause-safe
returns-in-Err-clause-safe g c = λ rest blank. record {
  whole = [];
  begun = inl refl;
  safe = blank_stays (g.D.Disk.shown c.args.disk) (g.D.Disk.shown c.args.disk) rest blank (IsRead-refl (g.D.Disk.shown c.args.disk));
}

pub returns-in-Err-clause-found : goal.returns-in-Err-clause-found
returns-in-Err-clause-found g c = λ text site told says.
    if_some (λ bytes. IsBlank bytes → IsMadeOrFails c.in-Err.stopping) (g.D.Disk.shown c.args.disk).contents
    (λ bytes is blank. fails_made c.read_site.result c.in-Err.stopping site (g.S.Source.faults c.args.source.now) (g.S.Source.faults c.read_site.new.source) c.in-Err.is
    (c.read_site.ensures.found text site told says))

pub returns-in-Ok-create-clause-creates : goal.returns-in-Ok-create-clause-creates
returns-in-Ok-create-clause-creates g c =
    let reads = c.in-Ok.ensures.reads in
    makes_journal (record { left = g.S.Source.left; source_faults = g.S.Source.faults; shown = g.D.Disk.shown; readings = g.C.Clock.readings; clock_faults = g.C.Clock.faults })
    c.args.source.now c.read_site.new.source c.args.disk c.into_parts-disk.result.0 c.args.clock c.into_parts-disk.result.1 c.in-Ok.site
    (record { in_range = reads.0; said = reads.1 }) c.in-Ok-create.store c.in-Ok-create.ensures.created c.into_parts-disk.ensures.disk c.into_parts-disk.ensures.clock

pub returns-in-Ok-create-clause-safe : goal.returns-in-Ok-create-clause-safe
returns-in-Ok-create-clause-safe g c = λ rest blank.
    let reads = c.in-Ok.ensures.reads in
    makes_safe (record { left = g.S.Source.left; source_faults = g.S.Source.faults; shown = g.D.Disk.shown; readings = g.C.Clock.readings; clock_faults = g.C.Clock.faults })
    c.args.source.now c.read_site.new.source c.args.disk c.into_parts-disk.result.0 c.args.clock c.into_parts-disk.result.1 c.in-Ok.site
    (record { in_range = reads.0; said = reads.1 }) c.in-Ok-create.store c.in-Ok-create.ensures.created c.into_parts-disk.ensures.disk c.into_parts-disk.ensures.clock
    (c.in-Ok-create.ensures.safe rest blank)

pub returns-in-Err-create-clause-creates : goal.returns-in-Err-create-clause-creates
returns-in-Err-create-clause-creates g c =
    let reads = c.in-Ok.ensures.reads in
    let e = c.in-Err-create.ensures in
    subst (λ (s : Stopping). Creates (record { left = g.S.Source.left; source_faults = g.S.Source.faults; shown = g.D.Disk.shown; readings = g.C.Clock.readings; clock_faults = g.C.Clock.faults })
    (record { source = c.args.source.now; disk = c.args.disk; clock = c.args.clock })
    (record { source = c.read_site.new.source; disk = c.in-Err-create.none.disk; clock = c.in-Err-create.none.clock }) s) (sym c.no_store.ensures)
    (fails_to_make (record { left = g.S.Source.left; source_faults = g.S.Source.faults; shown = g.D.Disk.shown; readings = g.C.Clock.readings; clock_faults = g.C.Clock.faults })
    c.args.source.now c.read_site.new.source c.args.disk c.in-Err-create.none.disk c.args.clock c.in-Err-create.none.clock c.in-Ok.site
    (record { in_range = reads.0; said = reads.1 }) c.in-Err-create.none.why
    (refused_only _ IsForeign (Journal why.Foreign) (g.D.Disk.shown c.args.disk).contents c.in-Err-create.none e.foreign)
    (refused_only _ IsPresent (Journal why.Present) (g.D.Disk.shown c.args.disk).contents c.in-Err-create.none e.present)
    e.device_fault e.clock_fault e.kept e.looked_at_first e.no_other)

pub returns-in-Err-create-clause-safe : goal.returns-in-Err-create-clause-safe
returns-in-Err-create-clause-safe g c = λ rest blank.
    let reads = c.in-Ok.ensures.reads in
    fails_safe (record { left = g.S.Source.left; source_faults = g.S.Source.faults; shown = g.D.Disk.shown; readings = g.C.Clock.readings; clock_faults = g.C.Clock.faults })
    c.args.source.now c.read_site.new.source c.args.disk c.in-Err-create.none.disk c.args.clock c.in-Err-create.none.clock c.in-Ok.site
    (record { in_range = reads.0; said = reads.1 }) (c.in-Err-create.ensures.safe rest blank)

pub returns-in-Err-create-clause-found : goal.returns-in-Err-create-clause-found
returns-in-Err-create-clause-found g c = λ text site told says.
    let reads = c.in-Ok.ensures.reads in
    let e = c.in-Err-create.ensures in
    subst (λ (s : Stopping). IfSome (g.D.Disk.shown c.args.disk).contents (λ bytes. IsBlank bytes → IsMadeOrFails s)) (sym c.no_store.ensures)
    (fails_blank (record { left = g.S.Source.left; source_faults = g.S.Source.faults; shown = g.D.Disk.shown; readings = g.C.Clock.readings; clock_faults = g.C.Clock.faults })
    c.args.source.now c.read_site.new.source c.args.disk c.in-Err-create.none.disk c.args.clock c.in-Err-create.none.clock c.in-Ok.site
    (record { in_range = reads.0; said = reads.1 }) c.in-Err-create.none.why
    (refused_only _ IsForeign (Journal why.Foreign) (g.D.Disk.shown c.args.disk).contents c.in-Err-create.none e.foreign)
    (refused_only _ IsPresent (Journal why.Present) (g.D.Disk.shown c.args.disk).contents c.in-Err-create.none e.present)
    e.device_fault e.clock_fault e.kept e.looked_at_first e.no_other)
