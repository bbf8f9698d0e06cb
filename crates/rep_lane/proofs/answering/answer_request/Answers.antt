use Rattle.std.proofs.Common.{inl, refl}
use Rattle.rep_lane.specs.Desk.{steps_of}
use Rattle.rep_lane.proofs.LineLemmas.{replies_one, fails_request}
use Rattle.rep_lane.proofs.answering.answer_request.Goals as goal

pub returns-in-Ok-clause-answers : goal.returns-in-Ok-clause-answers
returns-in-Ok-clause-answers g c head line ordered =
    replies_one (steps_of g.Q.Desk.asks g.Q.Desk.extracts g.Q.Desk.shows) head c.args.number line c.args.desk.now c.call.new.self _ _
    (record { seq = c.args.q.now.seq; reply = c.in-Ok.reply }) c.write_reply.result
    (inl (record { request = c.args.q.now; ordered = ordered; seq = refl; asked = c.in-Ok.ensures.answers })) c.write_reply.ensures.writes

pub returns-in-Err-clause-answers : goal.returns-in-Err-clause-answers
returns-in-Err-clause-answers g c head line ordered =
    fails_request (steps_of g.Q.Desk.asks g.Q.Desk.extracts g.Q.Desk.shows) head c.args.number line c.args.desk.now c.call.new.self _ c.args.q.now c.in-Err.fail
    c.end_of.result c.end_of.ensures ordered c.in-Err.ensures.answers
