use Rattle.std.proofs.Common.{◌≡◌, ◌≢◌, refl, ap, ◌∙◌}
use Rattle.rep_report.specs.declared.ending.Ending.{Ending}
use Rattle.rep_report.specs.declared.ending.Ending.TheVariants as ending
use Rattle.rep_lane.specs.declared.lane.End.{End}
use Rattle.rep_lane.specs.declared.lane.End.TheVariants.{SourceFault, SinkFault, DeviceFault, ClockFault}
use Rattle.rep_run.specs.Running.{first_line}
use Rattle.rep_run.specs.Serving.{ending_after}
use Rattle.rep_run.proofs.FaultLemmas.{tells_end, disk_fails_no_more, clock_fails_no_more}
use Rattle.rep_run.proofs.ServingLemmas.{serves_lane}
use Rattle.rep_run.proofs.serving.serve.Goals as goal

pub returns-clause-serves : goal.returns-clause-serves
returns-clause-serves g c =
    let r = c.run-done.ensures in
    serves_lane (record {
      left = g.S.Source.left;
      source_faults = g.S.Source.faults;
      shown = g.D.Disk.shown;
      readings = g.C.Clock.readings;
      clock_faults = g.C.Clock.faults;
      written = g.K.Sink.written;
      sink_faults = g.K.Sink.faults;
    }) c.args.head.now c.args.lines c.args.store c.run-done.new.desk c.desk.inside.store c.args.replies c.run-done.result.sink c.run-done.result.tally c.run-done.result.end
    c.ending_of-due.result c.conclude-told.result c.run_line-counts.result c.count.result c.run-done.result.lines.source c.into_source.result c.into_parts-disk.result.0 c.into_parts-disk.result.1
    (g.K.Sink.written c.args.out.now) (g.K.Sink.written c.conclude-told.new.out) (g.K.Sink.faults c.args.out.now) (g.K.Sink.faults c.conclude-told.new.out)
    r.runs c.desk.view_is r.untouched r.source_fault r.sink_fault c.ending_of-due.ensures c.count.ensures.value c.run_line-counts.ensures c.conclude-told.ensures.concludes
    c.into_source.ensures c.into_parts-disk.ensures.disk c.into_parts-disk.ensures.clock

-- the lane hadn't ended so, where the command doesn't end so
not_ended : (g : _) (c : goal.After-into_source g) (end : End) (told : Ending) → ending_after end c.run-done.result.tally.refused ≡ told → c.conclude-told.result ≢ told
    → c.conclude-told.result ≢ ending.SinkFault → c.run-done.result.end ≢ end
not_ended g c end told ends other uncut is =
    other (tells_end c.run-done.result.end end c.run-done.result.tally.refused c.ending_of-due.result c.conclude-told.result _ _ _ c.ending_of-due.ensures c.conclude-told.ensures.concludes.told uncut is ∙ ends)

pub returns-clause-no_source_fault : goal.returns-clause-no_source_fault
returns-clause-no_source_fault g c = λ other uncut.
    ap g.S.Source.faults c.into_source.ensures ∙ c.run-done.ensures.no_source_fault (not_ended g c SourceFault ending.SourceFault refl other uncut)

pub returns-clause-no_sink_fault : goal.returns-clause-no_sink_fault
returns-clause-no_sink_fault g c = λ uncut. c.run-done.ensures.no_sink_fault (not_ended g c SinkFault ending.SinkFault refl uncut uncut)

pub returns-clause-no_device_fault : goal.returns-clause-no_device_fault
returns-clause-no_device_fault g c = λ other uncut.
    ap (λ d. (g.D.Disk.shown d).faults) c.into_parts-disk.ensures.disk
    ∙ disk_fails_no_more g.D.Disk.shown g.C.Clock.readings g.C.Clock.faults c.args.head.now g.S.Source.left first_line c.args.lines c.args.store c.run-done.new.desk c.desk.inside.store
    (g.K.Sink.written c.args.replies) (g.K.Sink.written c.run-done.result.sink) c.run-done.result.tally c.run-done.result.end c.run-done.ensures.runs c.desk.view_is
    (not_ended g c DeviceFault ending.DeviceFault refl other uncut)

pub returns-clause-no_clock_fault : goal.returns-clause-no_clock_fault
returns-clause-no_clock_fault g c = λ other uncut.
    ap g.C.Clock.faults c.into_parts-disk.ensures.clock
    ∙ clock_fails_no_more g.D.Disk.shown g.C.Clock.readings g.C.Clock.faults c.args.head.now g.S.Source.left first_line c.args.lines c.args.store c.run-done.new.desk c.desk.inside.store
    (g.K.Sink.written c.args.replies) (g.K.Sink.written c.run-done.result.sink) c.run-done.result.tally c.run-done.result.end c.run-done.ensures.runs c.desk.view_is
    (not_ended g c ClockFault ending.ClockFault refl other uncut)
