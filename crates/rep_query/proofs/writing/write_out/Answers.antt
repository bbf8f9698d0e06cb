use Rattle.std.proofs.Common.{Ok, Err, subst}
use Rattle.rep_report.specs.Saying.{Concludes}
use Rattle.rep_report.specs.declared.ending.Ending.{Ending}
use Rattle.rep_store.specs.declared.error.ExtractFail.TheVariants as fail
use Rattle.rep_run.proofs.Known.{not_both}
use Rattle.rep_query.proofs.Writings.{leaves_err, tells_why}
use Rattle.rep_query.proofs.writing.write_out.Goals as goal

pub returns-in-Ok-clause-writes : goal.returns-in-Ok-clause-writes
returns-in-Ok-clause-writes g c = record {
  range = c.period-range.result;
  period = c.period-range.ensures;
  result = Ok c.in-Ok.size;
  counts = c.extracted_line.result;
  leaves = (c.in-Ok.ensures.extracted, c.extracted_line.ensures);
  concludes = c.conclude.ensures.concludes;
  safe = c.extract.ensures.safe c.requires;
}

pub returns-in-Err-clause-writes : goal.returns-in-Err-clause-writes
returns-in-Err-clause-writes g c = record {
  range = c.period-range.result;
  period = c.period-range.ensures;
  result = Err c.in-Err.why;
  counts = c.new.result;
  leaves = leaves_err g.D.Disk.shown g.C.Clock.readings g.C.Clock.faults g.K.Sink.written g.K.Sink.faults c.args.from c.args.to c.period-range.result c.args.store.now c.extract.new.self c.args.file.now c.extract.new.sink
      c.new.result c.extract.result c.in-Err.why c.in-Err.is c.requires (λ count is. (c.extract.ensures.stopped count).0 is) c.extract.ensures.clock_fault c.extract.ensures.sink_fault c.extract.ensures.device_fault c.new.ensures.value;
  concludes = subst (λ (e : Ending). Concludes e c.new.result (g.K.Sink.written c.args.out.now) (g.K.Sink.written c.conclude-in-Err.new.out) (g.K.Sink.faults c.args.out.now) (g.K.Sink.faults c.conclude-in-Err.new.out) c.conclude-in-Err.result) c.ending_of.ensures c.conclude-in-Err.ensures.concludes;
  safe = c.extract.ensures.safe c.requires;
}

pub returns-in-Ok-clause-no_file_fault : goal.returns-in-Ok-clause-no_file_fault
returns-in-Ok-clause-no_file_fault g c = λ uncut. c.extract.ensures.no_sink_fault (not_both c.in-Ok.is)

pub returns-in-Err-clause-no_file_fault : goal.returns-in-Err-clause-no_file_fault
returns-in-Err-clause-no_file_fault g c = λ uncut.
    c.extract.ensures.no_sink_fault (λ failed. uncut (tells_why c.extract.result c.in-Err.why fail.SinkFault c.ending_of.result c.conclude-in-Err.result _ _ _
    c.in-Err.is c.ending_of.ensures c.conclude-in-Err.ensures.concludes.told uncut failed))

pub returns-in-Ok-clause-no_device_fault : goal.returns-in-Ok-clause-no_device_fault
returns-in-Ok-clause-no_device_fault g c = λ other uncut. c.extract.ensures.no_device_fault (not_both c.in-Ok.is)

pub returns-in-Err-clause-no_device_fault : goal.returns-in-Err-clause-no_device_fault
returns-in-Err-clause-no_device_fault g c = λ other uncut.
    c.extract.ensures.no_device_fault (λ failed. other (tells_why c.extract.result c.in-Err.why fail.DeviceFault c.ending_of.result c.conclude-in-Err.result _ _ _
    c.in-Err.is c.ending_of.ensures c.conclude-in-Err.ensures.concludes.told uncut failed))

pub returns-in-Ok-clause-no_clock_fault : goal.returns-in-Ok-clause-no_clock_fault
returns-in-Ok-clause-no_clock_fault g c = λ other uncut. c.extract.ensures.no_clock_fault (not_both c.in-Ok.is)

pub returns-in-Err-clause-no_clock_fault : goal.returns-in-Err-clause-no_clock_fault
returns-in-Err-clause-no_clock_fault g c = λ other uncut.
    c.extract.ensures.no_clock_fault (λ failed. other (tells_why c.extract.result c.in-Err.why fail.ClockFault c.ending_of.result c.conclude-in-Err.result _ _ _
    c.in-Err.is c.ending_of.ensures c.conclude-in-Err.ensures.concludes.told uncut failed))
