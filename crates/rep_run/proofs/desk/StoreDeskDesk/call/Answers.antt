use Rattle.std.proofs.Common.{◌≡◌, Result, Ok, Err, sym, ap, subst, ◌∙◌}
use Rattle.rep_wire.specs.declared.reply.Reply.{Reply}
use Rattle.rep_lane.specs.declared.desk.DeskFail.{DeskFail}
use Rattle.rep_lane.specs.declared.desk.DeskFail.TheVariants as fail
use Rattle.rep_store.specs.declared.error.Stop.{Stop}
use Rattle.rep_store.specs.declared.error.Stop.TheVariants.{Stopped, DeviceFault, ClockFault, OutOfMemory}
use Rattle.rep_store.specs.State.{State}
use Rattle.rep_run.specs.Desk.{Asks}
use Rattle.rep_run.proofs.DeskLemmas.{answer_of, asks_of}
use Rattle.rep_run.proofs.desk.StoreDeskDesk.call.Goals as goal
use Rattle.rep_run.proofs.desk.StoreDeskDesk.call.Goals.{in-Ok, in-Err}

-- a request has no fault of a sink
never_cut : (result : Result Reply Stop) (answer : Result Reply DeskFail) → answer ≡ answer_of result → answer ≡ Err fail.SinkFault → ⊥
never_cut (Ok reply) answer is cut = absurd cc
never_cut (Err (Stopped count)) answer is cut = absurd cc
never_cut (Err DeviceFault) answer is cut = absurd cc
never_cut (Err ClockFault) answer is cut = absurd cc
never_cut (Err OutOfMemory) answer is cut = absurd cc

pub returns-clause-answers : goal.returns-clause-answers
returns-clause-answers g c =
    let s = c.submit.ensures in
    let is : c.match-submit.result ≡ answer_of c.submit.result = elim c.match-submit.branch [
      | in-Ok w ↦ w.result-is ∙ sym (ap answer_of w.in-Ok.is)
      | in-Err w ↦ w.result-is ∙ ap (λ f. Err f) w.fail_of.ensures ∙ sym (ap answer_of w.in-Err.is)
    ] in
    subst (λ (old : State g.row.D.Denot g.row.C.Denot). Asks g.D.Disk.shown g.C.Clock.readings g.C.Clock.faults old c.args.q.now c.match-submit.result c.submit.new.self) c.self.view_is
    (asks_of g.D.Disk.shown g.C.Clock.readings g.C.Clock.faults c.args.q.now c.self.inside.store c.submit.new.self c.submit.result
    s.served s.stopped s.device_fault s.clock_fault s.memory s.left s.safe c.match-submit.result is)

pub returns-clause-no_sink_fault : goal.returns-clause-no_sink_fault
returns-clause-no_sink_fault g c =
    let is : c.match-submit.result ≡ answer_of c.submit.result = elim c.match-submit.branch [
      | in-Ok w ↦ w.result-is ∙ sym (ap answer_of w.in-Ok.is)
      | in-Err w ↦ w.result-is ∙ ap (λ f. Err f) w.fail_of.ensures ∙ sym (ap answer_of w.in-Err.is)
    ] in
    never_cut c.submit.result c.match-submit.result is
