use Rattle.std.proofs.Common.{drop}
use Rattle.rep_disk.specs.Record.{at_rest, replay}
use Rattle.rep_disk.specs.Standing.{state_of}
use Rattle.rep_disk.specs.Fields.{log_of}
use Rattle.rep_disk.proofs.Log.{IsReplayed}
use Rattle.rep_disk.proofs.standing.replay.Given as goal

-- what is left of the record leads to the state at the moment
abbrev pub invariant-loop-change : goal.invariant-loop-change
invariant-loop-change l =
    IsReplayed l.moment (replay l.moment (at_rest l.first) (log_of l.log l.pieces)) (state_of l.standing) (drop l.change-index l.log) l.rest
