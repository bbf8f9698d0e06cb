use Rattle.std.proofs.Common.{◌∙◌, inl, inr, ap, ℕ, List, sym, subst}
use Rattle.rep_io.specs.Causes.{Rose}
use Rattle.rep_report.specs.Saying.{SaysLine}
use Rattle.rep_run.specs.Creating.{status_of}
use Rattle.rep_query.proofs.Gives.{answered_failed, answered_by, answered_clock, answered_device, answered_sink, answered_source, answered_whole}
use Rattle.rep_query.proofs.Openings.{short_of, stops_clock, stops_device, stops_sink, stops_source}
use Rattle.rep_query.proofs.receipts.receipt.Goals as goal

-- the journal was opened

pub returns-in-Ok-clause-answered : goal.returns-in-Ok-clause-answered
returns-in-Ok-clause-answered g c =
    inr (answered_by (record { left = g.S.Source.left; source_faults = g.S.Source.faults; shown = g.D.Disk.shown }) c.args.nsr c.args.site c.open.new.site c.args.disk c.into_parts-disk.result.0 _ c.in-Ok.opened.store c.find-found.new.store
    c.in-Ok.ensures.opens c.into_parts-disk.ensures.disk c.find-found.ensures.looks c.find-found.ensures.safe
    (g.K.Sink.written c.args.out) (g.K.Sink.written c.answer-status.new.out) (g.K.Sink.faults c.args.out) (g.K.Sink.faults c.answer-status.new.out) c.answer-status.result (λ v. v.items) c.find-found.result
    c.find-found.ensures.found c.find-found.ensures.none c.answer-status.ensures.receipt c.answer-status.ensures.none)

pub returns-in-Ok-clause-source_fault : goal.returns-in-Ok-clause-source_fault
returns-in-Ok-clause-source_fault g c =
    answered_source (record { left = g.S.Source.left; source_faults = g.S.Source.faults; shown = g.D.Disk.shown }) c.args.nsr (record { site = c.args.site; disk = c.args.disk }) (record { site = c.open.new.site; disk = c.into_parts-disk.result.0 }) (g.K.Sink.written c.args.out) (g.K.Sink.written c.answer-status.new.out) (g.K.Sink.faults c.args.out) (g.K.Sink.faults c.answer-status.new.out) c.answer-status.result
    (inr (answered_by (record { left = g.S.Source.left; source_faults = g.S.Source.faults; shown = g.D.Disk.shown }) c.args.nsr c.args.site c.open.new.site c.args.disk c.into_parts-disk.result.0 _ c.in-Ok.opened.store c.find-found.new.store
    c.in-Ok.ensures.opens c.into_parts-disk.ensures.disk c.find-found.ensures.looks c.find-found.ensures.safe
    (g.K.Sink.written c.args.out) (g.K.Sink.written c.answer-status.new.out) (g.K.Sink.faults c.args.out) (g.K.Sink.faults c.answer-status.new.out) c.answer-status.result (λ v. v.items) c.find-found.result
    c.find-found.ensures.found c.find-found.ensures.none c.answer-status.ensures.receipt c.answer-status.ensures.none))

pub returns-in-Ok-clause-sink_fault : goal.returns-in-Ok-clause-sink_fault
returns-in-Ok-clause-sink_fault g c =
    answered_sink (record { left = g.S.Source.left; source_faults = g.S.Source.faults; shown = g.D.Disk.shown }) c.args.nsr (record { site = c.args.site; disk = c.args.disk }) (record { site = c.open.new.site; disk = c.into_parts-disk.result.0 }) (g.K.Sink.written c.args.out) (g.K.Sink.written c.answer-status.new.out) (g.K.Sink.faults c.args.out) (g.K.Sink.faults c.answer-status.new.out) c.answer-status.result
    (inr (answered_by (record { left = g.S.Source.left; source_faults = g.S.Source.faults; shown = g.D.Disk.shown }) c.args.nsr c.args.site c.open.new.site c.args.disk c.into_parts-disk.result.0 _ c.in-Ok.opened.store c.find-found.new.store
    c.in-Ok.ensures.opens c.into_parts-disk.ensures.disk c.find-found.ensures.looks c.find-found.ensures.safe
    (g.K.Sink.written c.args.out) (g.K.Sink.written c.answer-status.new.out) (g.K.Sink.faults c.args.out) (g.K.Sink.faults c.answer-status.new.out) c.answer-status.result (λ v. v.items) c.find-found.result
    c.find-found.ensures.found c.find-found.ensures.none c.answer-status.ensures.receipt c.answer-status.ensures.none))

pub returns-in-Ok-clause-device_fault : goal.returns-in-Ok-clause-device_fault
returns-in-Ok-clause-device_fault g c =
    answered_device (record { left = g.S.Source.left; source_faults = g.S.Source.faults; shown = g.D.Disk.shown }) c.args.nsr (record { site = c.args.site; disk = c.args.disk }) (record { site = c.open.new.site; disk = c.into_parts-disk.result.0 }) (g.K.Sink.written c.args.out) (g.K.Sink.written c.answer-status.new.out) (g.K.Sink.faults c.args.out) (g.K.Sink.faults c.answer-status.new.out) c.answer-status.result
    (inr (answered_by (record { left = g.S.Source.left; source_faults = g.S.Source.faults; shown = g.D.Disk.shown }) c.args.nsr c.args.site c.open.new.site c.args.disk c.into_parts-disk.result.0 _ c.in-Ok.opened.store c.find-found.new.store
    c.in-Ok.ensures.opens c.into_parts-disk.ensures.disk c.find-found.ensures.looks c.find-found.ensures.safe
    (g.K.Sink.written c.args.out) (g.K.Sink.written c.answer-status.new.out) (g.K.Sink.faults c.args.out) (g.K.Sink.faults c.answer-status.new.out) c.answer-status.result (λ v. v.items) c.find-found.result
    c.find-found.ensures.found c.find-found.ensures.none c.answer-status.ensures.receipt c.answer-status.ensures.none))

pub returns-in-Ok-clause-no_clock : goal.returns-in-Ok-clause-no_clock
returns-in-Ok-clause-no_clock g c =
    answered_clock (record { left = g.S.Source.left; source_faults = g.S.Source.faults; shown = g.D.Disk.shown }) c.args.nsr (record { site = c.args.site; disk = c.args.disk }) (record { site = c.open.new.site; disk = c.into_parts-disk.result.0 }) (g.K.Sink.written c.args.out) (g.K.Sink.written c.answer-status.new.out) (g.K.Sink.faults c.args.out) (g.K.Sink.faults c.answer-status.new.out) c.answer-status.result
    (inr (answered_by (record { left = g.S.Source.left; source_faults = g.S.Source.faults; shown = g.D.Disk.shown }) c.args.nsr c.args.site c.open.new.site c.args.disk c.into_parts-disk.result.0 _ c.in-Ok.opened.store c.find-found.new.store
    c.in-Ok.ensures.opens c.into_parts-disk.ensures.disk c.find-found.ensures.looks c.find-found.ensures.safe
    (g.K.Sink.written c.args.out) (g.K.Sink.written c.answer-status.new.out) (g.K.Sink.faults c.args.out) (g.K.Sink.faults c.answer-status.new.out) c.answer-status.result (λ v. v.items) c.find-found.result
    c.find-found.ensures.found c.find-found.ensures.none c.answer-status.ensures.receipt c.answer-status.ensures.none))

pub returns-in-Ok-clause-complete : goal.returns-in-Ok-clause-complete
returns-in-Ok-clause-complete g c = λ text contents said h e told_text says told_contents keeps numbered clocking no_site no_out no_disk.
    answered_whole (record { left = g.S.Source.left; source_faults = g.S.Source.faults; shown = g.D.Disk.shown }) c.args.nsr (record { site = c.args.site; disk = c.args.disk }) (record { site = c.open.new.site; disk = c.into_parts-disk.result.0 }) (g.K.Sink.written c.args.out) (g.K.Sink.written c.answer-status.new.out) (g.K.Sink.faults c.args.out) (g.K.Sink.faults c.answer-status.new.out) c.answer-status.result contents h e
    (answered_by (record { left = g.S.Source.left; source_faults = g.S.Source.faults; shown = g.D.Disk.shown }) c.args.nsr c.args.site c.open.new.site c.args.disk c.into_parts-disk.result.0 _ c.in-Ok.opened.store c.find-found.new.store
    c.in-Ok.ensures.opens c.into_parts-disk.ensures.disk c.find-found.ensures.looks c.find-found.ensures.safe
    (g.K.Sink.written c.args.out) (g.K.Sink.written c.answer-status.new.out) (g.K.Sink.faults c.args.out) (g.K.Sink.faults c.answer-status.new.out) c.answer-status.result (λ v. v.items) c.find-found.result
    c.find-found.ensures.found c.find-found.ensures.none c.answer-status.ensures.receipt c.answer-status.ensures.none)
    told_contents keeps numbered clocking no_out no_disk

-- it wasn't

pub returns-in-Err-clause-answered : goal.returns-in-Err-clause-answered
returns-in-Err-clause-answered g c = inl (record {
  stopping = c.in-Err.closed.stopping;
  status_is = c.status.ensures;
  stops = c.in-Err.ensures.stops.0;
  says = subst (λ (l : List ℕ). SaysLine l (g.K.Sink.written c.args.out) (g.K.Sink.written c.say.new.out) (Rose (g.K.Sink.faults c.args.out) (g.K.Sink.faults c.say.new.out)))
      c.last_line.ensures c.say.ensures.says;
})

pub returns-in-Err-clause-source_fault : goal.returns-in-Err-clause-source_fault
returns-in-Err-clause-source_fault g c = λ is. stops_source (record { left = g.S.Source.left; source_faults = g.S.Source.faults; shown = g.D.Disk.shown }) (record { site = c.args.site; disk = c.args.disk }) (record { site = c.open.new.site; disk = c.in-Err.closed.disk }) c.in-Err.closed.stopping c.in-Err.ensures.stops.0 (sym c.status.ensures ∙ is)

pub returns-in-Err-clause-sink_fault : goal.returns-in-Err-clause-sink_fault
returns-in-Err-clause-sink_fault g c = λ is. absurd (stops_sink (record { left = g.S.Source.left; source_faults = g.S.Source.faults; shown = g.D.Disk.shown }) (record { site = c.args.site; disk = c.args.disk }) (record { site = c.open.new.site; disk = c.in-Err.closed.disk }) c.in-Err.closed.stopping c.in-Err.ensures.stops.0 (sym c.status.ensures ∙ is))

pub returns-in-Err-clause-device_fault : goal.returns-in-Err-clause-device_fault
returns-in-Err-clause-device_fault g c = λ is. stops_device (record { left = g.S.Source.left; source_faults = g.S.Source.faults; shown = g.D.Disk.shown }) (record { site = c.args.site; disk = c.args.disk }) (record { site = c.open.new.site; disk = c.in-Err.closed.disk }) c.in-Err.closed.stopping c.in-Err.ensures.stops.0 (sym c.status.ensures ∙ is)

pub returns-in-Err-clause-no_clock : goal.returns-in-Err-clause-no_clock
returns-in-Err-clause-no_clock g c = λ is. stops_clock (record { left = g.S.Source.left; source_faults = g.S.Source.faults; shown = g.D.Disk.shown }) (record { site = c.args.site; disk = c.args.disk }) (record { site = c.open.new.site; disk = c.in-Err.closed.disk }) c.in-Err.closed.stopping c.in-Err.ensures.stops.0 (sym c.status.ensures ∙ is)

pub returns-in-Err-clause-complete : goal.returns-in-Err-clause-complete
returns-in-Err-clause-complete g c = λ text contents said h e told_text says told_contents keeps numbered clocking no_site no_out no_disk.
    inr (c.status.ensures ∙ short_of (g.S.Source.faults c.args.site) (g.S.Source.faults c.open.new.site) (g.D.Disk.shown c.args.disk).faults (g.D.Disk.shown c.in-Err.closed.disk).faults c.in-Err.closed.stopping
    (c.in-Err.ensures.found text contents said h told_text says told_contents keeps) no_site no_disk)

-- no fault is passed over

pub returns-in-Ok-clause-no_source_fault : goal.returns-in-Ok-clause-no_source_fault
returns-in-Ok-clause-no_source_fault g c = λ other. c.in-Ok.ensures.no_source_fault

pub returns-in-Ok-clause-no_device_fault : goal.returns-in-Ok-clause-no_device_fault
returns-in-Ok-clause-no_device_fault g c = λ other.
    ap (λ d. (g.D.Disk.shown d).faults) c.into_parts-disk.ensures.disk
    ∙ c.find-found.ensures.no_fault (λ is. other (answered_failed c.args.nsr (g.K.Sink.written c.args.out) (g.K.Sink.written c.answer-status.new.out) _ c.answer-status.result c.find-found.result is c.answer-status.ensures.none))
    ∙ c.in-Ok.ensures.opens.no_fault

pub returns-in-Err-clause-no_source_fault : goal.returns-in-Err-clause-no_source_fault
returns-in-Err-clause-no_source_fault g c = λ other. c.in-Err.ensures.no_source_fault (λ is. other (c.status.ensures ∙ ap status_of is))

pub returns-in-Err-clause-no_device_fault : goal.returns-in-Err-clause-no_device_fault
returns-in-Err-clause-no_device_fault g c = λ other. c.in-Err.ensures.no_device_fault (λ is. other (c.status.ensures ∙ ap status_of is))
