use Rattle.rep_turn.specs.Tokens.{IsOf}
use Rattle.direct_tests.proofs.turns.step_on.Given as goal

abbrev pub invariant-loop-seq : goal.invariant-loop-seq
invariant-loop-seq g l = IsOf g.B.Held.meaning l.turn l.pass
