use Rattle.rep_ledger.specs.Replaying.{IsReplayed}
use Rattle.rep_ledger.proofs.replaying.replay.Given as goal

abbrev pub invariant-loop-i : goal.invariant-loop-i
invariant-loop-i g l = IsReplayed g.D.Disk.shown l.i l.core l.initial.journal l.journal
