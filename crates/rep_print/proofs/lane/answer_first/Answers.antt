use Rattle.std.proofs.Common.{sym, subst, Err}
use Rattle.rep_report.specs.declared.ending.Ending.{Ending}
use Rattle.rep_print.specs.Steps.{AnswersFirst}
use Rattle.rep_print.specs.declared.ending.PrintEnding.TheVariants.{Served}
use Rattle.rep_print.proofs.LaneLemmas.{answers_first}
use Rattle.rep_print.proofs.lane.answer_first.Goals as goal

pub returns-in-Err-clause-answers : goal.returns-in-Err-clause-answers
returns-in-Err-clause-answers g c =
    subst (λ (e : Ending). AnswersFirst g.C.Clock.readings g.C.Clock.faults c.args.head.now c.args.line.now c.args.desk.now c.answer_line.new.desk
    (g.K.Sink.written c.args.out.now) (g.K.Sink.written c.answer_line.new.sink) (Err (Served e))) (sym c.ending_of.ensures)
    (answers_first g.C.Clock.readings g.C.Clock.faults c.args.head.now c.args.line.now c.args.desk.now c.answer_line.new.desk _ _
    (c.asks_employer.ensures.0 c.if-not-asks_employer.false) c.in-Err.end c.in-Err.ensures.answers)
