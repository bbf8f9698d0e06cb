use Rattle.std.proofs.Common.{subst}
use Rattle.rep_wire.specs.LaneGrammar.{Orders}
use Rattle.rep_lane.proofs.answering.answer_order.Goals as goal

pub returns-in-Asked-clause-answers : goal.returns-in-Asked-clause-answers
returns-in-Asked-clause-answers g c head line ordered =
    c.answer_request.ensures.answers head line (subst (Orders head line) c.in-Asked.is ordered)

pub returns-in-Extract-clause-answers : goal.returns-in-Extract-clause-answers
returns-in-Extract-clause-answers g c head line ordered =
    c.extract_period.ensures.answers head line (subst (Orders head line) c.in-Extract.is ordered)
