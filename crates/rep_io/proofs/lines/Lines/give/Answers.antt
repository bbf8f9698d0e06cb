use Rattle.rep_io.proofs.CutterLemmas.{GivesNow-limit}
use Rattle.rep_io.proofs.lines.Lines.give.Goals as goal

pub returns-in-None-2-clause-cases : goal.returns-in-None-2-clause-cases
returns-in-None-2-clause-cases g c =
    rw (← c.self.view_is)
    (GivesNow-limit g.S.Source.left _ c.self.invariant c.if-self.false c.if-self-gt-LONGEST_TEXT.true
    (rw (c.in_room.ensures, ← c.self.view_is) at c.in-None-2.ensures))
