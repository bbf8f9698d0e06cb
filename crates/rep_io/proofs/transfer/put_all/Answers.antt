use Rattle.std.proofs.Common.{arith, length-drop, ◌≤◌, ◌+◌, length}
use Rattle.std.proofs.lemmas.List.{take_rest}
use Rattle.rep_io.proofs.TransferLemmas.{HasPut-more}
use Rattle.rep_io.proofs.transfer.put_all.Goals as goal

pub loop-put-preserved : goal.loop-put-preserved
loop-put-preserved g c =
    let written = c.in-Ok.ensures.bytes in
    let rest = take_rest c.args.piece.now c.loop-put.put in
    let fits = rw rest at written.0 in
    let within : c.loop-put.put + c.in-Ok.count ≤ length c.args.piece.now =
    omega (arith, c.loop-put.invariant.within, simp length-drop at fits) in
    HasPut-more _ _ _ _ _ _ c.args.piece.now _ c.loop-put.put c.in-Ok.count c.loop-put.invariant rest within written.2 c.in-Ok.ensures.cause.kept
