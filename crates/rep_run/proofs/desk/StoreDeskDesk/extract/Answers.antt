use Rattle.std.proofs.Common.{◌≡◌, Result, Err, sym, ap, subst, ◌∙◌}
use Rattle.rep_store.specs.State.{State}
use Rattle.rep_lane.specs.Desk.{PutsExtract}
use Rattle.rep_lane.specs.declared.desk.DeskFail.{DeskFail}
use Rattle.rep_run.specs.Desk.{Files}
use Rattle.rep_run.proofs.DeskLemmas.{extract_answer, extracts_of}
use Rattle.rep_run.proofs.desk.StoreDeskDesk.extract.Goals as goal
use Rattle.rep_run.proofs.desk.StoreDeskDesk.extract.Goals.{in-Ok, in-Err}

pub returns-clause-puts : goal.returns-clause-puts
returns-clause-puts g c =
    let s = c.extract.ensures in
    let is : c.match-extract.result ≡ extract_answer c.extract.result = elim c.match-extract.branch [
      | in-Ok w ↦ w.result-is ∙ sym (ap extract_answer w.in-Ok.is)
      | in-Err w ↦ w.result-is ∙ ap (λ f. Err f) w.extract_fail.ensures ∙ sym (ap extract_answer w.in-Err.is)
    ] in
    subst (λ (old : State g.row.D.Denot g.row.C.Denot). PutsExtract (Files g.D.Disk.shown g.C.Clock.readings g.C.Clock.faults) c.args.line c.args.seq c.args.from c.args.to
    old c.extract.new.self (g.K.Sink.written c.args.sink.now) (g.K.Sink.written c.extract.new.sink) c.match-extract.result) c.self.view_is
    (subst (λ (r : Result (Unit {0}) DeskFail). PutsExtract (Files g.D.Disk.shown g.C.Clock.readings g.C.Clock.faults) c.args.line c.args.seq c.args.from c.args.to
    c.self.inside.store c.extract.new.self (g.K.Sink.written c.args.sink.now) (g.K.Sink.written c.extract.new.sink) r) (sym is)
    (extracts_of g.D.Disk.shown g.C.Clock.readings g.C.Clock.faults c.args.line c.args.seq c.args.from c.args.to c.self.inside.store c.extract.new.self
    (g.K.Sink.written c.args.sink.now) (g.K.Sink.written c.extract.new.sink) c.extract.result
    s.extracted s.stopped
    (λ count stopped. let l = s.left count stopped in (l.0, ap g.K.Sink.written l.1))
    (λ missed. let m = s.clock_fault missed in (m.0, ap g.K.Sink.written m.1))
    (λ cut. (s.sink_fault cut).0)
    s.device_fault s.no_device_fault s.safe))
