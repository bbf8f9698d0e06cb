use Rattle.std.proofs.Common.{◌+◌, ◌-◌, length}
use Rattle.rep_journal.specs.Listed.{most_frames}
use Rattle.rep_journal.proofs.ReadLemmas.{IsReading}
use Rattle.rep_journal.proofs.recovery.read_pieces.Given as goal

abbrev pub invariant-loop-why : goal.invariant-loop-why
invariant-loop-why g l = IsReading (g.D.Disk.shown l.initial.disk) (g.D.Disk.shown l.disk) l.list.frames

abbrev pub decreases-loop-why : goal.decreases-loop-why
decreases-loop-why g l = most_frames + 1 - length l.list.frames
