use Rattle.rep_io.specs.Steps.{work_of}
use Rattle.rep_io.proofs.CutterLemmas.{HasStepped}
use Rattle.rep_io.proofs.lines.Lines.next.Given as goal

abbrev pub invariant-loop-next : goal.invariant-loop-next
invariant-loop-next g l = HasStepped g.S.Source.left g.S.Source.faults l.fn.self l.self

abbrev pub decreases-loop-next : goal.decreases-loop-next
decreases-loop-next g l = work_of l.self
