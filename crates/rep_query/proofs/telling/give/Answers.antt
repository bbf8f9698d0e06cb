use Rattle.std.proofs.Common.{List, ℕ, ap, ◌∙◌, subst, refl}
use Rattle.rep_io.specs.Causes.{Rose}
use Rattle.rep_report.specs.Report.{fault_text}
use Rattle.rep_report.specs.Saying.{SaysLine}
use Rattle.rep_report.specs.declared.ending.Ending.TheVariants.{AllAnswered, SinkFault}
use Rattle.rep_report.proofs.SayingLemmas.{concludes, counts_cut}
use Rattle.rep_query.proofs.Tellings.{gives_whole}
use Rattle.rep_query.proofs.telling.give.Goals as goal

pub returns-in-Ok-clause-gives : goal.returns-in-Ok-clause-gives
returns-in-Ok-clause-gives g c = gives_whole c.args.text.now _ _ _ _ c.in-Ok.ensures.bytes c.put_all.ensures.cause.later

pub returns-in-Err-clause-gives : goal.returns-in-Err-clause-gives
returns-in-Err-clause-gives g c =
    let b = c.in-Err.ensures.bytes in
    concludes AllAnswered c.args.text.now _ _ _ _ (g.K.Sink.faults c.put_all.new.sink) _ SinkFault
    c.put_all.ensures.cause.later c.say.ensures.later
    (counts_cut AllAnswered c.args.text.now c.args.text.now b.0 _ _ _ refl b.1 b.2 c.in-Err.ensures.cause.failed tt)
    (subst (λ (line : List ℕ). SaysLine line (g.K.Sink.written c.put_all.new.sink) (g.K.Sink.written c.say.new.out)
    (Rose (g.K.Sink.faults c.put_all.new.sink) (g.K.Sink.faults c.say.new.out))) (c.fault_line.ensures ∙ ap fault_text c.status.ensures) c.say.ensures.says)
