use Rattle.std.proofs.Common.{◌≡◌, ◌≤◌}
use Rattle.rep_drill.proofs.Plays.{UnderWay}
use Rattle.rep_drill.proofs.playing.play_all.Given as goal

abbrev pub invariant-loop-number : goal.invariant-loop-number
invariant-loop-number g l =
    UnderWay g.S.Source.left l.fn.lines l.lines l.fn.world l.world (g.K.Sink.written l.fn.out) (g.K.Sink.written l.out) l.number l.events l.refused
    × (g.S.Source.faults l.lines.source ≡ g.S.Source.faults l.fn.lines.source)
    × (g.K.Sink.faults l.fn.out ≤ g.K.Sink.faults l.out)
