use Rattle.std.proofs.Common.{◌≡◌, ◌+◌, ◌-◌, length, vec_len}
use Rattle.rep_io.specs.Lines.{longest_text}
use Rattle.afd_read.specs.Filling.{piece_size}
use Rattle.afd_read.proofs.FillingLemmas.{HasFilled}
use Rattle.afd_read.proofs.filling.fill_rest.Given as goal

abbrev pub invariant-loop-bytes : goal.invariant-loop-bytes
invariant-loop-bytes g l = record {
  filled : HasFilled (g.S.Source.left l.fn.source) (g.S.Source.left l.source) (g.S.Source.faults l.fn.source) (g.S.Source.faults l.source) l.fn.bytes.items l.bytes.items;
  size : length l.piece ≡ piece_size;
}

abbrev pub decreases-loop-bytes : goal.decreases-loop-bytes
decreases-loop-bytes g l = longest_text + 1 - vec_len l.bytes
