use Rattle.std.proofs.Common.{◌≡◌, ◌+◌, ◌-◌, ◌≤◌}
use Rattle.rep_io.specs.Lines.{longest_text}
use Rattle.rep_io.specs.Cutter.{line_start}
use Rattle.rep_lane.specs.Desk.{steps_of}
use Rattle.rep_lane.proofs.RunLemmas.{UnderWay}
use Rattle.rep_lane.proofs.lane.answer_all.Given as goal

abbrev pub invariant-answers : goal.invariant-answers
invariant-answers g l =
    UnderWay g.S.Source.left (steps_of g.Q.Desk.asks g.Q.Desk.extracts g.Q.Desk.shows) l.head l.first l.number l.fn.lines l.lines l.fn.desk l.desk
    (g.K.Sink.written l.fn.sink) (g.K.Sink.written l.sink) l.tally
    × (g.S.Source.faults l.lines.source ≡ g.S.Source.faults l.fn.lines.source)
    × (g.K.Sink.faults l.sink ≡ g.K.Sink.faults l.fn.sink)
    × (l.tally.lines ≤ longest_text + 1)
    × (l.tally.lines ≡ 0 → l.sink ≡ l.fn.sink)

abbrev pub decreases-answers : goal.decreases-answers
decreases-answers g l = longest_text + 1 - line_start l.lines
