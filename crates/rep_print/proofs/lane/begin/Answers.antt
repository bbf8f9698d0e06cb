use Rattle.std.proofs.Common.{List, ℕ, refl, subst}
use Rattle.rep_print.specs.Steps.{AnswersFirst}
use Rattle.rep_print.proofs.LaneLemmas.{founds, long_lacks, none_lacks}
use Rattle.rep_print.proofs.lane.begin.Goals as goal

pub returns-in-Line-clause-begins : goal.returns-in-Line-clause-begins
returns-in-Line-clause-begins g c =
    founds g.S.Source.left g.C.Clock.readings g.C.Clock.faults c.args.head.now c.args.lines.now c.next_line.new.lines c.args.desk.now c.answer_first.new.desk _ _
    c.in-Line.bytes c.answer_first.result
    (λ text before r.
    let came = c.in-Line.ensures.comes text before r in
    record { read = came.2; within = came.1 })
    (subst (λ (line : List ℕ). AnswersFirst g.C.Clock.readings g.C.Clock.faults c.args.head.now line c.args.desk.now c.answer_first.new.desk
    (g.K.Sink.written c.args.out.now) (g.K.Sink.written c.answer_first.new.out) c.answer_first.result) c.bytes.ensures.value c.answer_first.ensures.answers)

pub returns-in-TooLong-clause-begins : goal.returns-in-TooLong-clause-begins
returns-in-TooLong-clause-begins g c = (
  record { same = refl; said = refl },
  λ text before r.
      let came = c.in-TooLong.ensures.comes text before r in
      long_lacks g.S.Source.left c.args.head.now c.next_line.new.lines came.0 text before came.1 came.2 came.3,
)

pub returns-in-End-clause-begins : goal.returns-in-End-clause-begins
returns-in-End-clause-begins g c = (
  record { same = refl; said = refl },
  λ text before r.
      let came = c.in-End.ensures.comes text before r in
      none_lacks c.args.head.now text before came.0 came.1,
)

pub returns-in-InputLimit-clause-begins : goal.returns-in-InputLimit-clause-begins
returns-in-InputLimit-clause-begins g c = (
  record { same = refl; said = refl },
  λ text before r.
      let came = c.in-InputLimit.ensures.comes text before r in
      (came.0, came.1),
)
