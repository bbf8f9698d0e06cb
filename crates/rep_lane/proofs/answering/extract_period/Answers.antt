use Rattle.rep_lane.specs.Desk.{steps_of}
use Rattle.rep_lane.proofs.LineLemmas.{extracts_one, fails_extraction}
use Rattle.rep_lane.proofs.answering.extract_period.Goals as goal

pub returns-in-Ok-clause-answers : goal.returns-in-Ok-clause-answers
returns-in-Ok-clause-answers g c head line ordered =
    extracts_one (steps_of g.Q.Desk.asks g.Q.Desk.extracts g.Q.Desk.shows) head c.args.number line c.args.desk.now c.extract.new.self _ _
    c.args.seq c.args.from c.args.to ordered c.in-Ok.ensures.puts

pub returns-in-Err-clause-answers : goal.returns-in-Err-clause-answers
returns-in-Err-clause-answers g c head line ordered =
    fails_extraction (steps_of g.Q.Desk.asks g.Q.Desk.extracts g.Q.Desk.shows) head c.args.number line c.args.desk.now c.extract.new.self _ _
    c.args.seq c.args.from c.args.to c.in-Err.fail c.end_of.result c.end_of.ensures ordered c.in-Err.ensures.puts
