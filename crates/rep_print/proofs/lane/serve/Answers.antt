use Rattle.std.proofs.Common.{[], refl}
use Rattle.rep_print.proofs.LaneLemmas.{headless, if_some}
use Rattle.rep_print.proofs.lane.serve.Goals as goal

pub returns-in-Ok-clause-laned : goal.returns-in-Ok-clause-laned
returns-in-Ok-clause-laned g c =
    let l = c.serve_lines.ensures.laned in record {
      zone = l.zone;
      answers = l.answers;
      whole = l.whole;
      next = l.next;
      said = l.said;
      replied = l.replied;
      tally_is = l.tally_is;
      has = l.has;
      of_lane = λ text told. l.of_lane text (if_some _ _ text c.in-Ok.ensures.heads told);
    }

pub returns-in-Err-clause-laned : goal.returns-in-Err-clause-laned
returns-in-Err-clause-laned g c =
    headless g.S.Source.left g.C.Clock.readings g.C.Clock.faults (record { origin = 0; kind = 0; script = [] }) c.args.lines c.operator_head.new.lines c.args.desk.now _ _
    c.in-Err.ending c.requires.empty refl c.in-Err.ensures.ends c.in-Err.ensures.heads
