use Rattle.rep_lane.proofs.answering.answer_line.Goals as goal

pub returns-in-Ok-clause-answers : goal.returns-in-Ok-clause-answers
returns-in-Ok-clause-answers g c = c.answer_order.ensures.answers c.args.head.now c.args.line.now c.in-Ok.ensures.found

pub returns-in-Ok-clause-untouched : goal.returns-in-Ok-clause-untouched
returns-in-Ok-clause-untouched g c = c.answer_order.ensures.untouched c.args.head.now c.args.line.now c.in-Ok.ensures.found
