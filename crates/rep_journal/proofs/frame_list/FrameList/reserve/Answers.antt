use Rattle.std.proofs.Common.{length, ap, arith}
use Rattle.rep_journal.proofs.ListLemmas.{length-gates_from}
use Rattle.rep_journal.proofs.frame_list.FrameList.reserve.Goals as goal

pub returns-clause-made : goal.returns-clause-made
returns-clause-made c =
    let gates = ap length c.self.invariant.places in
    let all = length-gates_from 16 c.self.inside.frames.items in
    let frames_room = c.in_ok-reserve.ensures.ok in
    let gates_room = c.in_ok-reserve-2.ensures.ok in
    omega arith
