use Rattle.rep_io.proofs.AskingLemmas.{AsksWhereDue-told, AsksWhereDue-failed}
use Rattle.rep_io.proofs.CutterLemmas.{HasStepped-more, Gives-after}
use Rattle.rep_io.proofs.lines.Lines.next.Goals as goal

pub returns-in-Some-clause-unread : goal.returns-in-Some-clause-unread
returns-in-Some-clause-unread g c = λ text u.
    let steps = c.loop-next.invariant.steps in
    Gives-after g.S.Source.left g.S.Source.faults c.args.self.now c.loop-next.self c.give.new.self c.in-Some.next steps text
    (c.in-Some.ensures.cases.gives text (steps.unread text u))

pub returns-in-Some-clause-asks : goal.returns-in-Some-clause-asks
returns-in-Some-clause-asks g c =
    let gives = c.in-Some.ensures.cases in
    AsksWhereDue-told g.S.Source.left _ c.loop-next.self _ _ c.loop-next.invariant.asked gives.nothing gives.no_fault

pub returns-in_default-draw-clause-asks : goal.returns-in_default-draw-clause-asks
returns-in_default-draw-clause-asks g c =
    let needs = c.in_default.ensures.cases.0 in
    let once = rw c.in_default.ensures.cases.1 at c.draw.ensures.asks in
    let nothing = rw c.in_default.ensures.cases.1 at c.in_default-draw.ensures.nothing in
    AsksWhereDue-failed g.S.Source.left _ c.loop-next.self _ c.loop-next.invariant.asked needs once nothing

pub loop-next-preserved : goal.loop-next-preserved
loop-next-preserved g c =
    let steps = rw c.in_default.ensures.cases.1 at c.draw.ensures.steps in
    let once = rw c.in_default.ensures.cases.1 at c.draw.ensures.asks in
    let kept = rw c.in_default.ensures.cases.1 at c.in-Ok.ensures.cause.kept in
    HasStepped-more g.S.Source.left g.S.Source.faults _ _ _ c.loop-next.invariant c.in_default.ensures.cases.0 steps once kept
