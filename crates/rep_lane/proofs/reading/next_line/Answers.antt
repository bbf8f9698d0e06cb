use Rattle.rep_lane.proofs.ReadingLemmas.{comes}
use Rattle.rep_lane.proofs.reading.next_line.Goals as goal

pub returns-clause-comes : goal.returns-clause-comes
returns-clause-comes g c text before h =
    comes g.S.Source.left c.args.lines.now c.next.new.self c.next.result text before h c.next.ensures.cutter (c.next.ensures.unread h.rest h.unread)
