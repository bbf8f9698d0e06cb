use Rattle.std.proofs.Common.{sym, subst, refl, ap, ◌∙◌}
use Rattle.rep_journal.specs.Format.{IsBlank, IsForeign}
use Rattle.rep_journal.specs.declared.error.WhyNot.TheVariants as why
use Rattle.rep_ledger.specs.Ledger.{IsDamagedAt}
use Rattle.rep_store.specs.declared.error.StoreWhy.TheVariants.{Journal}
use Rattle.rep_run.specs.declared.stopping.Stopping.{Stopping}
use Rattle.rep_run.specs.Steps.{stopping_of}
use Rattle.rep_run.proofs.Known.{not_both, same_err}
use Rattle.rep_run.proofs.CreatingLemmas.{refused_only}
use Rattle.rep_run.proofs.RunningLemmas.{cut_short}
use Rattle.rep_query.specs.Opening.{IsForWant, StopsOpening}
use Rattle.rep_query.proofs.Openings.{opens_store, stops_at_store, stops_reading, wants_read, wants_store}
use Rattle.rep_query.proofs.opening.open.Goals as goal

pub returns-in-Err-clause-stops : goal.returns-in-Err-clause-stops
returns-in-Err-clause-stops g c = (
  stops_reading (record { left = g.S.Source.left; source_faults = g.S.Source.faults; shown = g.D.Disk.shown })
      c.args.site.now c.read_site.new.source c.args.disk c.in-Err.stopping c.in-Err.ensures.reads,
  refl,
)

pub returns-in-Err-clause-found : goal.returns-in-Err-clause-found
returns-in-Err-clause-found g c = λ text contents said h told says told_contents keeps.
    wants_read (g.S.Source.faults c.args.site.now) (g.S.Source.faults c.read_site.new.source) (g.D.Disk.shown c.args.disk).faults (g.D.Disk.shown c.args.disk).faults
    c.read_site.result c.in-Err.stopping said c.in-Err.is (c.read_site.ensures.found text said told says)

pub returns-in-Ok-reopen-clause-opens : goal.returns-in-Ok-reopen-clause-opens
returns-in-Ok-reopen-clause-opens g c =
    let reads = c.in-Ok.ensures.reads in
    opens_store (record { left = g.S.Source.left; source_faults = g.S.Source.faults; shown = g.D.Disk.shown })
    c.args.site.now c.read_site.new.source c.args.disk c.args.clock c.in-Ok.settings c.in-Ok-reopen.store reads.0 reads.1 c.in-Ok-reopen.ensures.reopened c.in-Ok-reopen.ensures.safe

pub returns-in-Err-reopen-clause-stops : goal.returns-in-Err-reopen-clause-stops
returns-in-Err-reopen-clause-stops g c =
    let reads = c.in-Ok.ensures.reads in
    let e = c.in-Err-reopen.ensures in (
      subst (λ (s : Stopping). StopsOpening (record { left = g.S.Source.left; source_faults = g.S.Source.faults; shown = g.D.Disk.shown })
          (record { site = c.args.site.now; disk = c.args.disk })
          (record { site = c.read_site.new.source; disk = c.in-Err-reopen.none.disk }) s) (sym c.no_store.ensures)
          (stops_at_store (record { left = g.S.Source.left; source_faults = g.S.Source.faults; shown = g.D.Disk.shown })
          c.args.site.now c.read_site.new.source c.args.disk c.in-Err-reopen.none.disk c.in-Ok.settings (record { in_range = reads.0; said = reads.1 }) c.in-Err-reopen.none.why
          (refused_only _ IsBlank (Journal why.Blank) (g.D.Disk.shown c.args.disk).contents c.in-Err-reopen.none e.blank)
          (refused_only _ IsForeign (Journal why.Foreign) (g.D.Disk.shown c.args.disk).contents c.in-Err-reopen.none e.foreign)
          (λ at. refused_only _ (IsDamagedAt at) (Journal (why.Damaged at)) (g.D.Disk.shown c.args.disk).contents c.in-Err-reopen.none (e.damaged at))
          e.device_fault e.no_other e.kept.0 e.rest),
      e.kept.1,
    )

pub returns-in-Err-reopen-clause-found : goal.returns-in-Err-reopen-clause-found
returns-in-Err-reopen-clause-found g c = λ text contents said h told says told_contents keeps.
    let e = c.in-Err-reopen.ensures in
    subst (λ (s : Stopping). IsForWant (g.S.Source.faults c.args.site.now) (g.S.Source.faults c.read_site.new.source) (g.D.Disk.shown c.args.disk).faults (g.D.Disk.shown c.in-Err-reopen.none.disk).faults s) (sym c.no_store.ensures)
    (wants_store (g.S.Source.faults c.args.site.now) (g.S.Source.faults c.read_site.new.source) (g.D.Disk.shown c.args.disk).faults (g.D.Disk.shown c.in-Err-reopen.none.disk).faults c.in-Err-reopen.none.why e.device_fault
    (cut_short c.in-Err-reopen.none.why h (g.D.Disk.shown c.args.disk).contents contents told_contents keeps (e.found h)))

pub returns-in-Ok-reopen-clause-of_site : goal.returns-in-Ok-reopen-clause-of_site
returns-in-Ok-reopen-clause-of_site g c = sym c.in-Ok-reopen.ensures.reopened.is_new.of_site

pub returns-in-Err-clause-no_source_fault : goal.returns-in-Err-clause-no_source_fault
returns-in-Err-clause-no_source_fault g c = λ other. c.read_site.ensures.no_fault (λ is. other (same_err c.read_site.result c.in-Err.stopping _ c.in-Err.is is))

pub returns-in-Ok-reopen-clause-no_source_fault : goal.returns-in-Ok-reopen-clause-no_source_fault
returns-in-Ok-reopen-clause-no_source_fault g c = c.read_site.ensures.no_fault (not_both c.in-Ok.is)

pub returns-in-Err-reopen-clause-no_source_fault : goal.returns-in-Err-reopen-clause-no_source_fault
returns-in-Err-reopen-clause-no_source_fault g c = λ other. c.read_site.ensures.no_fault (not_both c.in-Ok.is)

pub returns-in-Err-reopen-clause-no_device_fault : goal.returns-in-Err-reopen-clause-no_device_fault
returns-in-Err-reopen-clause-no_device_fault g c = λ other. c.in-Err-reopen.ensures.no_fault (λ is. other (c.no_store.ensures ∙ ap stopping_of is))
