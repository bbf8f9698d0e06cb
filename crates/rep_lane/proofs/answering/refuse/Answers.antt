use Rattle.rep_lane.specs.Desk.{steps_of}
use Rattle.rep_lane.proofs.LineLemmas.{refuses_one}
use Rattle.rep_lane.proofs.answering.refuse.Goals as goal

pub returns-clause-answers : goal.returns-clause-answers
returns-clause-answers g c head line is =
    refuses_one (steps_of g.Q.Desk.asks g.Q.Desk.extracts g.Q.Desk.shows) head c.args.number line c.args.malformed c.front.result c.args.desk.now c.front.new.self _ _
    c.refusal-reply.result c.write_reply.result is c.front.ensures c.refusal-reply.ensures c.write_reply.ensures.writes
