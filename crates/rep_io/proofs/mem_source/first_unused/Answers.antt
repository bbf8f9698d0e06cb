use Rattle.std.proofs.Common.{◌<◌, length, arith, ◌∙◌}
use Rattle.rep_io.proofs.MemSourceLemmas.{from_unused-used, from_unused-left, IsPlace-next, at_within}
use Rattle.rep_io.proofs.mem_source.first_unused.Goals as goal

pub loop-piece-preserved : goal.loop-piece-preserved
loop-piece-preserved c =
    let pieces = c.args.pieces.now in
    let v = c.index-pieces-piece.result in (
      from_unused-used pieces c.loop-piece.piece c.loop-piece.at v (omega arith) c.index-pieces-piece.is (omega (arith, v.ok.0))
          ∙ c.loop-piece.invariant.0,
      IsPlace-next pieces c.loop-piece.piece c.loop-piece.at (omega arith),
    )

pub returns-else-at-len-clause-same : goal.returns-else-at-len-clause-same
returns-else-at-len-clause-same c =
    let pieces = c.args.pieces.now in
    let v = c.index-pieces-piece.result in
    let within = at_within pieces c.loop-piece.piece c.loop-piece.at v (omega arith) c.index-pieces-piece.is c.loop-piece.invariant.1 in
    let left : c.loop-piece.at < length v.items = omega (arith, v.ok.0) in
    from_unused-left pieces c.loop-piece.piece c.loop-piece.at v (omega arith) c.index-pieces-piece.is left ∙ c.loop-piece.invariant.0
