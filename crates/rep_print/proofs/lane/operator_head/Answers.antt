use Rattle.std.proofs.Common.{Err, subst}
use Rattle.rep_lane.specs.Head.{Heads}
use Rattle.rep_lane.specs.declared.head.NoHead.{NoHead}
use Rattle.rep_print.proofs.HeadLines.{other_kind, no_operator}
use Rattle.rep_print.proofs.lane.operator_head.Goals as goal

pub returns-else-head-eq-OPERATOR-clause-heads : goal.returns-else-head-eq-OPERATOR-clause-heads
returns-else-head-eq-OPERATOR-clause-heads g c text r =
    let h = c.in-Ok.ensures.heads text r in
    (other_kind c.in-Ok.head h.0 _ _ h.2.lines h.1 c.if-head-eq-OPERATOR.false, h.3)

pub returns-in-Err-OffGrammar-clause-heads : goal.returns-in-Err-OffGrammar-clause-heads
returns-in-Err-OffGrammar-clause-heads g c text r =
    let h = subst (λ (e : NoHead). Heads g.S.Source.left c.read_head.new.lines text (Err e)) c.in-Err-OffGrammar.field-0-is (c.in-Err-OffGrammar.ensures.heads text r) in
    (no_operator _ h.0, h.1)

pub returns-in-Err-InputLimit-clause-heads : goal.returns-in-Err-InputLimit-clause-heads
returns-in-Err-InputLimit-clause-heads g c text r =
    subst (λ (e : NoHead). Heads g.S.Source.left c.read_head.new.lines text (Err e)) c.in-Err-InputLimit.field-0-is (c.in-Err-InputLimit.ensures.heads text r)
