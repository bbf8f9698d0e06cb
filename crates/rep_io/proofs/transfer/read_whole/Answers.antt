use Rattle.std.proofs.Common.{◌+◌, ◌++◌, length, length-append, arith}
use Rattle.rep_io.proofs.TransferLemmas.{taken-more}
use Rattle.rep_io.proofs.transfer.read_whole.Goals as goal

pub returns-in_err-read_piece-clause-front : goal.returns-in_err-read_piece-clause-front
returns-in_err-read_piece-clause-front g c =
    let last = c.read_piece.ensures.front in
    let bytes = c.loop-bytes.bytes.items in (
      length bytes + last.0,
      omega (arith, last.1, c.loop-bytes.bytes.ok.0),
      (
        bytes ++ last.2.0,
        omega (arith, length-append bytes last.2.0, last.2.1),
        taken-more _ _ _ bytes last.2.0 c.loop-bytes.invariant.taken last.2.2,
      ),
    )
