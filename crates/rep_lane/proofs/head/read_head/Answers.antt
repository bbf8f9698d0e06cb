use Rattle.std.proofs.Common.{List, [], ℕ, inl, sym, subst}
use Rattle.rep_wire.specs.declared.head.LaneHead.{LaneHead}
use Rattle.rep_lane.specs.Head.{IsHeadLine, HasNoHead}
use Rattle.rep_lane.proofs.NextLines.{next}
use Rattle.rep_lane.proofs.HeadLines.{no_head-first, long_no_head}
use Rattle.rep_lane.proofs.head.read_head.Goals as goal

pub returns-in-Some-clause-heads : goal.returns-in-Some-clause-heads
returns-in-Some-clause-heads g c text r =
    let came = c.in-Line.ensures.comes text [] r in
    let is = c.in-Some.ensures in
    (c.in-Line.bytes, subst (λ (line : List ℕ). IsHeadLine c.in-Some.head line) c.bytes.ensures.value (record { in_range = is.0; spelled = is.1 }), came.2, came.1)

pub returns-in-None-clause-heads : goal.returns-in-None-clause-heads
returns-in-None-clause-heads g c text r =
    let came = c.in-Line.ensures.comes text [] r in
    let line = next g.S.Source.left c.next_line.new.lines text [] c.in-Line.bytes came.2 in
    let none = subst (λ (line : List ℕ). (head : LaneHead) → IsHeadLine head line → ⊥) c.bytes.ensures.value (λ head is. c.in-None.ensures head is.in_range is.spelled) in
    (no_head-first c.in-Line.bytes line.0 _ line.1 none, came.1)

pub returns-in-TooLong-clause-heads : goal.returns-in-TooLong-clause-heads
returns-in-TooLong-clause-heads g c text r =
    let came = c.in-TooLong.ensures.comes text [] r in
    let line = next g.S.Source.left c.next_line.new.lines text [] came.0 came.3 in
    (no_head-first came.0 line.0 _ line.1 (λ head is. long_no_head head came.0 came.1 is), came.2)

pub returns-in-InputLimit-clause-heads : goal.returns-in-InputLimit-clause-heads
returns-in-InputLimit-clause-heads g c text r =
    let came = c.in-InputLimit.ensures.comes text [] r in
    (came.0, came.1)

pub returns-in-End-clause-heads : goal.returns-in-End-clause-heads
returns-in-End-clause-heads g c text r =
    let came = c.in-End.ensures.comes text [] r in
    (subst HasNoHead (sym came.0) tt, inl came.1)
