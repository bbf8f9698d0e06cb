use Rattle.std.proofs.Common.{◌≡◌, ◌<◌, ℕ, List, [], length, inl, inr, replicate, refl, sym, ◌∙◌, append-nil, arith}
use Rattle.std.proofs.lemmas.List.{length-replicate}
use Rattle.rep_io.specs.Lines.{longest_line, lines_of}
use Rattle.rep_lane.specs.Desk.{steps_of}
use Rattle.rep_lane.specs.declared.lane.End.TheVariants.{Done, SourceFault, InputLimit}
use Rattle.rep_lane.proofs.StepLemmas.{line_taken, not_by_text, ends_now, takes_none}
use Rattle.rep_lane.proofs.lane.answer_next.Goals as goal

-- some line that is too long
sample : List ℕ
sample = replicate {A = ℕ} 513 0

sample_long : longest_line < length sample
unfolding sample
sample_long = let size : length (replicate {A = ℕ} 513 0) ≡ 513 = length-replicate {A = ℕ} 513 0 in omega arith

pub returns-in-Line-clause-takes : goal.returns-in-Line-clause-takes
returns-in-Line-clause-takes g c =
    line_taken g.S.Source.left (steps_of g.Q.Desk.asks g.Q.Desk.extracts g.Q.Desk.shows) c.args.head.now c.args.number c.args.lines.now c.next_line.new.lines c.args.desk.now c.answer_line.new.desk _ _
    c.bytes.result.now
    (λ text before r. let came = c.in-Line.ensures.comes text before r in record { real = c.in-Line.bytes; told = inl (sym c.bytes.ensures.value); within = came.1; read = came.2 })
    (c.in-Line.ensures.advances tt) c.answer_line.result c.answer_line.ensures.answers

pub returns-in-TooLong-clause-takes : goal.returns-in-TooLong-clause-takes
returns-in-TooLong-clause-takes g c =
    line_taken g.S.Source.left (steps_of g.Q.Desk.asks g.Q.Desk.extracts g.Q.Desk.shows) c.args.head.now c.args.number c.args.lines.now c.next_line.new.lines c.args.desk.now c.refuse_long_line.new.desk _ _
    sample
    (λ text before r. let came = c.in-TooLong.ensures.comes text before r in record { real = came.0; told = inr (came.1, sample_long); within = came.2; read = came.3 })
    (c.in-TooLong.ensures.advances tt) c.refuse_long_line.result (c.refuse_long_line.ensures.answers c.args.head.now sample sample_long)

pub returns-in-TooLong-clause-over : goal.returns-in-TooLong-clause-over
returns-in-TooLong-clause-over g c is =
    absurd (not_by_text (steps_of g.Q.Desk.asks g.Q.Desk.extracts g.Q.Desk.shows) c.args.head.now c.args.number sample c.args.desk.now c.refuse_long_line.new.desk _ _ c.refuse_long_line.result Done (λ t. t)
    (c.refuse_long_line.ensures.answers c.args.head.now sample sample_long) is)

pub returns-in-TooLong-clause-limit : goal.returns-in-TooLong-clause-limit
returns-in-TooLong-clause-limit g c is =
    absurd (not_by_text (steps_of g.Q.Desk.asks g.Q.Desk.extracts g.Q.Desk.shows) c.args.head.now c.args.number sample c.args.desk.now c.refuse_long_line.new.desk _ _ c.refuse_long_line.result InputLimit (λ t. t)
    (c.refuse_long_line.ensures.answers c.args.head.now sample sample_long) is)

pub returns-in-TooLong-clause-source_fault : goal.returns-in-TooLong-clause-source_fault
returns-in-TooLong-clause-source_fault g c is =
    absurd (not_by_text (steps_of g.Q.Desk.asks g.Q.Desk.extracts g.Q.Desk.shows) c.args.head.now c.args.number sample c.args.desk.now c.refuse_long_line.new.desk _ _ c.refuse_long_line.result SourceFault (λ t. t)
    (c.refuse_long_line.ensures.answers c.args.head.now sample sample_long) is)

pub returns-in-End-clause-takes : goal.returns-in-End-clause-takes
returns-in-End-clause-takes g c =
    ends_now g.S.Source.left (steps_of g.Q.Desk.asks g.Q.Desk.extracts g.Q.Desk.shows) c.args.head.now c.args.number c.args.lines.now c.args.desk.now _ Done (record { none_taken = refl; same = refl; all = refl; nothing = refl })
    (λ text before r. let came = c.in-End.ensures.comes text before r in
    takes_none g.S.Source.left c.args.lines.now text before Done [] (came.0 ∙ sym (append-nil before)) (refl, came.1))

pub returns-in-SourceFault-clause-takes : goal.returns-in-SourceFault-clause-takes
returns-in-SourceFault-clause-takes g c =
    ends_now g.S.Source.left (steps_of g.Q.Desk.asks g.Q.Desk.extracts g.Q.Desk.shows) c.args.head.now c.args.number c.args.lines.now c.args.desk.now _ SourceFault (record { none_taken = refl; same = refl; all = refl; nothing = refl })
    (λ text before r. takes_none g.S.Source.left c.args.lines.now text before SourceFault (lines_of r.rest) r.lines tt)

pub returns-in-InputLimit-clause-takes : goal.returns-in-InputLimit-clause-takes
returns-in-InputLimit-clause-takes g c =
    ends_now g.S.Source.left (steps_of g.Q.Desk.asks g.Q.Desk.extracts g.Q.Desk.shows) c.args.head.now c.args.number c.args.lines.now c.args.desk.now _ InputLimit (record { none_taken = refl; same = refl; all = refl; nothing = refl })
    (λ text before r. let came = c.in-InputLimit.ensures.comes text before r in
    takes_none g.S.Source.left c.args.lines.now text before InputLimit (lines_of r.rest) r.lines (came.0, came.1))
