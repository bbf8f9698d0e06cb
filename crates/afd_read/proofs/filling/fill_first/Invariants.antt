use Rattle.std.proofs.Common.{◌+◌, ◌-◌, vec_len}
use Rattle.rep_io.specs.Lines.{longest_text}
use Rattle.afd_read.proofs.FillingLemmas.{HasFirst}
use Rattle.afd_read.proofs.filling.fill_first.Given as goal

abbrev pub invariant-loop-source : goal.invariant-loop-source
invariant-loop-source g l =
    HasFirst (g.S.Source.left l.fn.source) (g.S.Source.left l.source) (g.S.Source.faults l.fn.source) (g.S.Source.faults l.source) l.bytes.items l.piece

abbrev pub decreases-loop-source : goal.decreases-loop-source
decreases-loop-source g l = longest_text + 1 - vec_len l.bytes
