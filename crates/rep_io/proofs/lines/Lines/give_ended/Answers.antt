use Rattle.std.proofs.Common.{true, take, refl, arith}
use Rattle.rep_io.proofs.CutterLemmas.{takes-ended, Tells-long, Tells-short}
use Rattle.rep_io.proofs.lines.Lines.give_ended.Goals as goal
use Rattle.rep_io.proofs.lines.Lines.give_ended.Goals.{then-self-gt0, else-self-gt0}

pub returns-clause-takes : goal.returns-clause-takes
returns-clause-takes g c =
    let front = take c.args.at c.self.inside.window in
    rw (← c.self.view_is)
    (takes-ended g.S.Source.left _ _ _ c.args.at c.self.invariant (rw (← c.self.view_is) at c.requires) refl refl refl c.let_go.ensures
    (λ passed long. elim c.if-self-gt0.branch [
      | then-self-gt0 w ↦ rw w.next-is (Tells-long passed front true (omega (arith, long, c.self.invariant.long w.if-self-gt0.true)))
      | else-self-gt0 w ↦ rw w.next-is
          (Tells-short _ passed front true (omega (arith, long, w.if-self-gt0.false)) (rw w.bytes.ensures.value at w.ended_line-next.ensures.tells))
    ]))
