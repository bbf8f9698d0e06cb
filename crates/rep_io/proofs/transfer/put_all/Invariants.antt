use Rattle.std.proofs.Common.{◌-◌, length}
use Rattle.rep_io.proofs.TransferLemmas.{HasPut}
use Rattle.rep_io.proofs.transfer.put_all.Given as goal

abbrev pub invariant-loop-put : goal.invariant-loop-put
invariant-loop-put g l =
    HasPut (g.K.Sink.written l.fn.sink) (g.K.Sink.written l.sink) (g.K.Sink.faults l.fn.sink) (g.K.Sink.faults l.sink) l.piece l.put

abbrev pub decreases-loop-put : goal.decreases-loop-put
decreases-loop-put g l = length l.piece - l.put
