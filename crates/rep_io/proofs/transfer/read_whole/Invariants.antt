use Rattle.std.proofs.Common.{◌+◌, ◌-◌, length, vec_len}
use Rattle.rep_io.specs.Lines.{longest_text}
use Rattle.rep_io.proofs.TransferLemmas.{HasRead}
use Rattle.rep_io.proofs.transfer.read_whole.Given as goal

abbrev pub invariant-loop-bytes : goal.invariant-loop-bytes
invariant-loop-bytes g l =
    HasRead (g.S.Source.left l.fn.source) (g.S.Source.left l.source) (g.S.Source.faults l.fn.source) (g.S.Source.faults l.source) l.bytes.items (length l.buffer.items)

abbrev pub decreases-loop-bytes : goal.decreases-loop-bytes
decreases-loop-bytes g l = longest_text + 1 - vec_len l.bytes
