use Rattle.std.proofs.Common.{arith, ap, length}
use Rattle.std.proofs.lemmas.List.{drop-replicate}
use Rattle.rep_io.proofs.PieceLemmas.{IsPadded-front}
use Rattle.rep_io.proofs.piece.Piece.make.Goals as goal

pub invariant_of-result : goal.invariant_of-result
invariant_of-result c = IsPadded-front _ _ _ (ap length c.copy_from_slice.ensures.after) (omega arith) (drop-replicate _ 512 0)
