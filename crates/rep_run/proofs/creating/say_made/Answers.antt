use Rattle.rep_run.proofs.CreatingLemmas.{says_undone}
use Rattle.rep_run.proofs.creating.say_made.Goals as goal

pub returns-clause-says : goal.returns-clause-says
returns-clause-says g c =
    says_undone c.args.stopping c.last_line.result (g.K.Sink.written c.args.out.now) (g.K.Sink.written c.say.new.out) (g.K.Sink.faults c.args.out.now) (g.K.Sink.faults c.say.new.out)
    (λ same. let made = c.is_made.ensures.1 same in let unmade = c.if-is_made.false in absurd cc) c.requires c.last_line.ensures c.say.ensures.later c.say.ensures.says
