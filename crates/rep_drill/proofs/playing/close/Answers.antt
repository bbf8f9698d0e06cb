use Rattle.std.proofs.Common.{List, ℕ, subst}
use Rattle.rep_io.specs.Causes.{Rose}
use Rattle.rep_report.specs.Saying.{SaysLine}
use Rattle.rep_drill.specs.Playing.{closing_text}
use Rattle.rep_drill.proofs.Endings.{closing-whole, says_nothing}
use Rattle.rep_drill.proofs.playing.close.Goals as goal

pub returns-then-is_whole-clause-says : goal.returns-then-is_whole-clause-says
returns-then-is_whole-clause-says g c = says_nothing (closing_text c.args.ending) _ _ (closing-whole c.args.ending (c.is_whole.ensures.0 c.if-is_whole.true))

pub returns-clause-says : goal.returns-clause-says
returns-clause-says g c =
    subst (λ (line : List ℕ). SaysLine line (g.K.Sink.written c.args.out.now) (g.K.Sink.written c.say.new.out)
    (Rose (g.K.Sink.faults c.args.out.now) (g.K.Sink.faults c.say.new.out))) c.closing_line.ensures c.say.ensures.says
