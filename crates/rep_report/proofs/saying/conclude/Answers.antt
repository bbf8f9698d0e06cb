use Rattle.std.proofs.Common.{List, ℕ, subst}
use Rattle.rep_io.specs.Causes.{Rose}
use Rattle.rep_report.specs.Saying.{SaysLine}
use Rattle.rep_report.proofs.SayingLemmas.{answered-kept, concludes, puts_ending}
use Rattle.rep_report.proofs.saying.conclude.Goals as goal

pub returns-clause-concludes : goal.returns-clause-concludes
returns-clause-concludes g c =
    concludes c.args.ending c.args.counts.now _ _ _ _ (g.K.Sink.faults c.say_counts-told.new.out) _ c.say_counts-told.result
    c.say_counts-told.ensures.later c.say.ensures.later c.say_counts-told.ensures.says
    (subst (λ (line : List ℕ). SaysLine line (g.K.Sink.written c.say_counts-told.new.out) (g.K.Sink.written c.say.new.out)
    (Rose (g.K.Sink.faults c.say_counts-told.new.out) (g.K.Sink.faults c.say.new.out))) c.closing_line.ensures c.say.ensures.says)

pub returns-clause-no_fault : goal.returns-clause-no_fault
returns-clause-no_fault g c =
    let written = g.K.Sink.written in
    let faults = g.K.Sink.faults in
    let told = c.say_counts-told in
    puts_ending c.args.counts.now c.closing_line.result (written c.args.out.now) (written told.new.out) (written c.say.new.out)
    (faults c.args.out.now) (faults told.new.out) (faults c.say.new.out) told.result
    c.closing_line.ensures told.ensures.no_fault c.say.ensures.no_fault told.ensures.counted

pub returns-clause-answered : goal.returns-clause-answered
returns-clause-answered g c =
    let written = g.K.Sink.written in
    let faults = g.K.Sink.faults in
    let told = c.say_counts-told in
    answered-kept c.args.counts.now (written c.args.out.now) (written c.say.new.out) (faults c.args.out.now) (faults c.say.new.out) told.result
    (puts_ending c.args.counts.now c.closing_line.result (written c.args.out.now) (written told.new.out) (written c.say.new.out)
    (faults c.args.out.now) (faults told.new.out) (faults c.say.new.out) told.result
    c.closing_line.ensures told.ensures.no_fault c.say.ensures.no_fault told.ensures.counted)
