use Rattle.std.proofs.Common.{◌∙◌, inl, inr, ap, ℕ, List, sym, subst, refl}
use Rattle.rep_io.specs.Causes.{Rose}
use Rattle.rep_report.specs.Saying.{SaysLine, status_of as ending_status}
use Rattle.rep_run.specs.Creating.{status_of}
use Rattle.rep_query.specs.Writing.{ending_by}
use Rattle.rep_query.proofs.Extracts.{causes_of, clock_of, device_of, leaves_of, sink_of, source_of, told_of, whole_of}
use Rattle.rep_query.proofs.Openings.{short_of, stops_clock, stops_device, stops_sink, stops_source}
use Rattle.rep_query.proofs.extracting.extract.Goals as goal

-- the journal was opened

pub returns-in-Ok-clause-extracted : goal.returns-in-Ok-clause-extracted
returns-in-Ok-clause-extracted g c =
    let w = c.write_out-told.ensures.writes in
    inr (record {
      due = ending_by w.result;
      counts = w.counts;
      leaves = leaves_of (record {
        left = g.S.Source.left;
        source_faults = g.S.Source.faults;
        shown = g.D.Disk.shown;
        readings = g.C.Clock.readings;
        clock_faults = g.C.Clock.faults;
        written = g.K.Sink.written;
        sink_faults = g.K.Sink.faults;
      }) c.args.from c.args.to c.args.site c.open.new.site c.args.disk c.into_parts-disk.result.0 c.args.clock c.into_parts-disk.result.1 c.in-Ok.opened.store c.write_out-told.new.store c.args.file c.write_out-told.new.file
          c.in-Ok.ensures.opens c.into_parts-disk.ensures.disk c.into_parts-disk.ensures.clock w.range w.counts w.result w.period w.leaves w.safe;
      told = c.write_out-told.result;
      concludes = w.concludes;
      status_is = c.status.ensures;
    })

pub returns-in-Ok-clause-source_fault : goal.returns-in-Ok-clause-source_fault
returns-in-Ok-clause-source_fault g c = λ is.
    let w = c.write_out-told.ensures.writes in
    let told = told_of (ending_by w.result) w.counts (g.K.Sink.written c.args.out) (g.K.Sink.written c.write_out-told.new.out) (g.K.Sink.faults c.args.out) (g.K.Sink.faults c.write_out-told.new.out) c.write_out-told.result w.concludes in
    let causes = causes_of (record {
      left = g.S.Source.left;
      source_faults = g.S.Source.faults;
      shown = g.D.Disk.shown;
      readings = g.C.Clock.readings;
      clock_faults = g.C.Clock.faults;
      written = g.K.Sink.written;
      sink_faults = g.K.Sink.faults;
    }) c.args.from c.args.to c.args.site c.open.new.site c.args.disk c.into_parts-disk.result.0 c.args.clock c.into_parts-disk.result.1 c.in-Ok.opened.store c.write_out-told.new.store c.args.file c.write_out-told.new.file
    c.in-Ok.ensures.opens c.into_parts-disk.ensures.disk c.into_parts-disk.ensures.clock
    (Rose (g.K.Sink.faults c.args.out) (g.K.Sink.faults c.write_out-told.new.out)) w.range w.counts w.result c.write_out-told.result w.leaves told in
    absurd (source_of (Rose (g.K.Sink.faults c.args.file) (g.K.Sink.faults c.write_out-told.new.file)) (Rose (g.K.Sink.faults c.args.out) (g.K.Sink.faults c.write_out-told.new.out)) (Rose (g.D.Disk.shown c.args.disk).faults (g.D.Disk.shown c.into_parts-disk.result.0).faults) (Rose (g.C.Clock.faults c.args.clock) (g.C.Clock.faults c.into_parts-disk.result.1)) c.write_out-told.result causes (sym c.status.ensures ∙ is))

pub returns-in-Ok-clause-sink_fault : goal.returns-in-Ok-clause-sink_fault
returns-in-Ok-clause-sink_fault g c = λ is.
    let w = c.write_out-told.ensures.writes in
    let told = told_of (ending_by w.result) w.counts (g.K.Sink.written c.args.out) (g.K.Sink.written c.write_out-told.new.out) (g.K.Sink.faults c.args.out) (g.K.Sink.faults c.write_out-told.new.out) c.write_out-told.result w.concludes in
    let causes = causes_of (record {
      left = g.S.Source.left;
      source_faults = g.S.Source.faults;
      shown = g.D.Disk.shown;
      readings = g.C.Clock.readings;
      clock_faults = g.C.Clock.faults;
      written = g.K.Sink.written;
      sink_faults = g.K.Sink.faults;
    }) c.args.from c.args.to c.args.site c.open.new.site c.args.disk c.into_parts-disk.result.0 c.args.clock c.into_parts-disk.result.1 c.in-Ok.opened.store c.write_out-told.new.store c.args.file c.write_out-told.new.file
    c.in-Ok.ensures.opens c.into_parts-disk.ensures.disk c.into_parts-disk.ensures.clock
    (Rose (g.K.Sink.faults c.args.out) (g.K.Sink.faults c.write_out-told.new.out)) w.range w.counts w.result c.write_out-told.result w.leaves told in
    sink_of (Rose (g.K.Sink.faults c.args.file) (g.K.Sink.faults c.write_out-told.new.file)) (Rose (g.K.Sink.faults c.args.out) (g.K.Sink.faults c.write_out-told.new.out)) (Rose (g.D.Disk.shown c.args.disk).faults (g.D.Disk.shown c.into_parts-disk.result.0).faults) (Rose (g.C.Clock.faults c.args.clock) (g.C.Clock.faults c.into_parts-disk.result.1)) c.write_out-told.result causes (sym c.status.ensures ∙ is)

pub returns-in-Ok-clause-device_fault : goal.returns-in-Ok-clause-device_fault
returns-in-Ok-clause-device_fault g c = λ is.
    let w = c.write_out-told.ensures.writes in
    let told = told_of (ending_by w.result) w.counts (g.K.Sink.written c.args.out) (g.K.Sink.written c.write_out-told.new.out) (g.K.Sink.faults c.args.out) (g.K.Sink.faults c.write_out-told.new.out) c.write_out-told.result w.concludes in
    let causes = causes_of (record {
      left = g.S.Source.left;
      source_faults = g.S.Source.faults;
      shown = g.D.Disk.shown;
      readings = g.C.Clock.readings;
      clock_faults = g.C.Clock.faults;
      written = g.K.Sink.written;
      sink_faults = g.K.Sink.faults;
    }) c.args.from c.args.to c.args.site c.open.new.site c.args.disk c.into_parts-disk.result.0 c.args.clock c.into_parts-disk.result.1 c.in-Ok.opened.store c.write_out-told.new.store c.args.file c.write_out-told.new.file
    c.in-Ok.ensures.opens c.into_parts-disk.ensures.disk c.into_parts-disk.ensures.clock
    (Rose (g.K.Sink.faults c.args.out) (g.K.Sink.faults c.write_out-told.new.out)) w.range w.counts w.result c.write_out-told.result w.leaves told in
    device_of (Rose (g.K.Sink.faults c.args.file) (g.K.Sink.faults c.write_out-told.new.file)) (Rose (g.K.Sink.faults c.args.out) (g.K.Sink.faults c.write_out-told.new.out)) (Rose (g.D.Disk.shown c.args.disk).faults (g.D.Disk.shown c.into_parts-disk.result.0).faults) (Rose (g.C.Clock.faults c.args.clock) (g.C.Clock.faults c.into_parts-disk.result.1)) c.write_out-told.result causes (sym c.status.ensures ∙ is)

pub returns-in-Ok-clause-clock_fault : goal.returns-in-Ok-clause-clock_fault
returns-in-Ok-clause-clock_fault g c = λ is.
    let w = c.write_out-told.ensures.writes in
    let told = told_of (ending_by w.result) w.counts (g.K.Sink.written c.args.out) (g.K.Sink.written c.write_out-told.new.out) (g.K.Sink.faults c.args.out) (g.K.Sink.faults c.write_out-told.new.out) c.write_out-told.result w.concludes in
    let causes = causes_of (record {
      left = g.S.Source.left;
      source_faults = g.S.Source.faults;
      shown = g.D.Disk.shown;
      readings = g.C.Clock.readings;
      clock_faults = g.C.Clock.faults;
      written = g.K.Sink.written;
      sink_faults = g.K.Sink.faults;
    }) c.args.from c.args.to c.args.site c.open.new.site c.args.disk c.into_parts-disk.result.0 c.args.clock c.into_parts-disk.result.1 c.in-Ok.opened.store c.write_out-told.new.store c.args.file c.write_out-told.new.file
    c.in-Ok.ensures.opens c.into_parts-disk.ensures.disk c.into_parts-disk.ensures.clock
    (Rose (g.K.Sink.faults c.args.out) (g.K.Sink.faults c.write_out-told.new.out)) w.range w.counts w.result c.write_out-told.result w.leaves told in
    clock_of (Rose (g.K.Sink.faults c.args.file) (g.K.Sink.faults c.write_out-told.new.file)) (Rose (g.K.Sink.faults c.args.out) (g.K.Sink.faults c.write_out-told.new.out)) (Rose (g.D.Disk.shown c.args.disk).faults (g.D.Disk.shown c.into_parts-disk.result.0).faults) (Rose (g.C.Clock.faults c.args.clock) (g.C.Clock.faults c.into_parts-disk.result.1)) c.write_out-told.result causes (sym c.status.ensures ∙ is)

pub returns-in-Ok-clause-complete : goal.returns-in-Ok-clause-complete
returns-in-Ok-clause-complete g c = λ text contents said h told_text says told_contents keeps no_site no_clock no_file no_out no_disk.
    let w = c.write_out-told.ensures.writes in
    let told = told_of (ending_by w.result) w.counts (g.K.Sink.written c.args.out) (g.K.Sink.written c.write_out-told.new.out) (g.K.Sink.faults c.args.out) (g.K.Sink.faults c.write_out-told.new.out) c.write_out-told.result w.concludes in
    let causes = causes_of (record {
      left = g.S.Source.left;
      source_faults = g.S.Source.faults;
      shown = g.D.Disk.shown;
      readings = g.C.Clock.readings;
      clock_faults = g.C.Clock.faults;
      written = g.K.Sink.written;
      sink_faults = g.K.Sink.faults;
    }) c.args.from c.args.to c.args.site c.open.new.site c.args.disk c.into_parts-disk.result.0 c.args.clock c.into_parts-disk.result.1 c.in-Ok.opened.store c.write_out-told.new.store c.args.file c.write_out-told.new.file
    c.in-Ok.ensures.opens c.into_parts-disk.ensures.disk c.into_parts-disk.ensures.clock
    (Rose (g.K.Sink.faults c.args.out) (g.K.Sink.faults c.write_out-told.new.out)) w.range w.counts w.result c.write_out-told.result w.leaves told in
    inl (c.status.ensures ∙ whole_of (Rose (g.K.Sink.faults c.args.file) (g.K.Sink.faults c.write_out-told.new.file)) (Rose (g.K.Sink.faults c.args.out) (g.K.Sink.faults c.write_out-told.new.out)) (Rose (g.D.Disk.shown c.args.disk).faults (g.D.Disk.shown c.into_parts-disk.result.0).faults) (Rose (g.C.Clock.faults c.args.clock) (g.C.Clock.faults c.into_parts-disk.result.1)) c.write_out-told.result causes no_file no_out no_disk no_clock)

-- it wasn't

pub returns-in-Err-clause-extracted : goal.returns-in-Err-clause-extracted
returns-in-Err-clause-extracted g c = inl (record {
  stopping = c.in-Err.closed.stopping;
  status_is = c.status-in-Err.ensures;
  stops = c.in-Err.ensures.stops.0;
  clock = c.in-Err.ensures.stops.1;
  file = refl;
  says = subst (λ (l : List ℕ). SaysLine l (g.K.Sink.written c.args.out) (g.K.Sink.written c.say.new.out) (Rose (g.K.Sink.faults c.args.out) (g.K.Sink.faults c.say.new.out)))
      c.last_line.ensures c.say.ensures.says;
})

pub returns-in-Err-clause-source_fault : goal.returns-in-Err-clause-source_fault
returns-in-Err-clause-source_fault g c = λ is.
    stops_source (record { left = g.S.Source.left; source_faults = g.S.Source.faults; shown = g.D.Disk.shown })
    (record { site = c.args.site; disk = c.args.disk }) (record { site = c.open.new.site; disk = c.in-Err.closed.disk }) c.in-Err.closed.stopping c.in-Err.ensures.stops.0 (sym c.status-in-Err.ensures ∙ is)

pub returns-in-Err-clause-sink_fault : goal.returns-in-Err-clause-sink_fault
returns-in-Err-clause-sink_fault g c = λ is.
    absurd (stops_sink (record { left = g.S.Source.left; source_faults = g.S.Source.faults; shown = g.D.Disk.shown })
    (record { site = c.args.site; disk = c.args.disk }) (record { site = c.open.new.site; disk = c.in-Err.closed.disk }) c.in-Err.closed.stopping c.in-Err.ensures.stops.0 (sym c.status-in-Err.ensures ∙ is))

pub returns-in-Err-clause-device_fault : goal.returns-in-Err-clause-device_fault
returns-in-Err-clause-device_fault g c = λ is.
    stops_device (record { left = g.S.Source.left; source_faults = g.S.Source.faults; shown = g.D.Disk.shown })
    (record { site = c.args.site; disk = c.args.disk }) (record { site = c.open.new.site; disk = c.in-Err.closed.disk }) c.in-Err.closed.stopping c.in-Err.ensures.stops.0 (sym c.status-in-Err.ensures ∙ is)

pub returns-in-Err-clause-clock_fault : goal.returns-in-Err-clause-clock_fault
returns-in-Err-clause-clock_fault g c = λ is.
    absurd (stops_clock (record { left = g.S.Source.left; source_faults = g.S.Source.faults; shown = g.D.Disk.shown })
    (record { site = c.args.site; disk = c.args.disk }) (record { site = c.open.new.site; disk = c.in-Err.closed.disk }) c.in-Err.closed.stopping c.in-Err.ensures.stops.0 (sym c.status-in-Err.ensures ∙ is))

pub returns-in-Err-clause-complete : goal.returns-in-Err-clause-complete
returns-in-Err-clause-complete g c = λ text contents said h told_text says told_contents keeps no_site no_clock no_file no_out no_disk.
    inr (c.status-in-Err.ensures ∙ short_of (g.S.Source.faults c.args.site) (g.S.Source.faults c.open.new.site) (g.D.Disk.shown c.args.disk).faults (g.D.Disk.shown c.in-Err.closed.disk).faults c.in-Err.closed.stopping
    (c.in-Err.ensures.found text contents said h told_text says told_contents keeps) no_site no_disk)

-- no fault is passed over

pub returns-in-Ok-clause-no_source_fault : goal.returns-in-Ok-clause-no_source_fault
returns-in-Ok-clause-no_source_fault g c = λ other cut. c.in-Ok.ensures.no_source_fault

pub returns-in-Ok-clause-no_sink_fault : goal.returns-in-Ok-clause-no_sink_fault
returns-in-Ok-clause-no_sink_fault g c = λ cut. c.write_out-told.ensures.no_file_fault (λ is. cut (c.status.ensures ∙ ap ending_status is))

pub returns-in-Ok-clause-no_device_fault : goal.returns-in-Ok-clause-no_device_fault
returns-in-Ok-clause-no_device_fault g c = λ other cut.
    ap (λ d. (g.D.Disk.shown d).faults) c.into_parts-disk.ensures.disk ∙ c.write_out-told.ensures.no_device_fault (λ is. other (c.status.ensures ∙ ap ending_status is)) (λ is. cut (c.status.ensures ∙ ap ending_status is)) ∙ c.in-Ok.ensures.opens.no_fault

pub returns-in-Ok-clause-no_clock_fault : goal.returns-in-Ok-clause-no_clock_fault
returns-in-Ok-clause-no_clock_fault g c = λ other cut.
    ap g.C.Clock.faults c.into_parts-disk.ensures.clock ∙ c.write_out-told.ensures.no_clock_fault (λ is. other (c.status.ensures ∙ ap ending_status is)) (λ is. cut (c.status.ensures ∙ ap ending_status is)) ∙ ap g.C.Clock.faults c.in-Ok.ensures.opens.same_clock

pub returns-in-Err-clause-no_source_fault : goal.returns-in-Err-clause-no_source_fault
returns-in-Err-clause-no_source_fault g c = λ other cut. c.in-Err.ensures.no_source_fault (λ is. other (c.status-in-Err.ensures ∙ ap status_of is))

pub returns-in-Err-clause-no_device_fault : goal.returns-in-Err-clause-no_device_fault
returns-in-Err-clause-no_device_fault g c = λ other cut. c.in-Err.ensures.no_device_fault (λ is. other (c.status-in-Err.ensures ∙ ap status_of is))

pub returns-in-Err-clause-no_clock_fault : goal.returns-in-Err-clause-no_clock_fault
returns-in-Err-clause-no_clock_fault g c = λ other cut. ap g.C.Clock.faults c.in-Err.ensures.stops.1
