use Rattle.std.proofs.Common.{◌≡◌, ◌≤◌, ◌-◌, false}
use Rattle.std.specs.Prelude.{IsSome}
use Rattle.rep_journal.specs.State.{IsSame}
use Rattle.afd_extract.specs.Steps.{HasPut}
use Rattle.afd_extract.proofs.writing.put_frames.Given as goal

abbrev pub invariant-loop-place : goal.invariant-loop-place
invariant-loop-place g l = record {
  begun : l.begin ≤ l.place;
  not_over : l.place ≤ l.end;
  same : IsSame g.D.Disk.shown false l.fn.journal l.journal;
  so_far : HasPut l.fn.journal.frames l.begin l.place (IsSome (g.D.Disk.shown l.fn.journal.disk).contents) (g.K.Sink.written l.fn.sink)
      (g.K.Sink.written l.sink) l.fn.held l.held l.tally;
  sink : g.K.Sink.faults l.sink ≡ g.K.Sink.faults l.fn.sink;
}

abbrev pub decreases-loop-place : goal.decreases-loop-place
decreases-loop-place g l = l.end - l.place
