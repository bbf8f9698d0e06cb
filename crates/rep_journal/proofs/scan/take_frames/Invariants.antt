use Rattle.std.proofs.Common.{length}
use Rattle.rep_journal.specs.Scan.{TakesTo}
use Rattle.rep_journal.proofs.scan.take_frames.Given as goal

abbrev pub invariant-loop-rest : goal.invariant-loop-rest
invariant-loop-rest l = TakesTo l.piece l.initial.list.frames l.list.frames l.rest

abbrev pub decreases-loop-rest : goal.decreases-loop-rest
decreases-loop-rest l = length l.rest
