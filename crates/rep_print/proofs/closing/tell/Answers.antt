use Rattle.std.proofs.Common.{◌∙◌, sym, ap, subst}
use Rattle.rep_print.specs.Ending.{last_text}
use Rattle.rep_print.specs.Steps.{HasNoCounts}
use Rattle.rep_print.specs.declared.ending.PrintEnding.{PrintEnding}
use Rattle.rep_print.proofs.ClosingLemmas.{told_refused}
use Rattle.rep_print.proofs.closing.tell.Goals as goal

pub returns-in-NoHead-clause-told : goal.returns-in-NoHead-clause-told
returns-in-NoHead-clause-told g c =
    told_refused c.args.ending c.lane_fault_line.result c.args.counts.now _ _ _ _ (ap last_text c.in-NoHead.is ∙ sym c.lane_fault_line.ensures)
    (subst (λ (e : PrintEnding). HasNoCounts e c.args.counts.now) c.in-NoHead.is c.requires) c.say.ensures.later c.say.ensures.says

pub returns-in-NoEmployer-clause-told : goal.returns-in-NoEmployer-clause-told
returns-in-NoEmployer-clause-told g c =
    told_refused c.args.ending c.lane_fault_line-in-NoEmployer.result c.args.counts.now _ _ _ _ (ap last_text c.in-NoEmployer.is ∙ sym c.lane_fault_line-in-NoEmployer.ensures)
    (subst (λ (e : PrintEnding). HasNoCounts e c.args.counts.now) c.in-NoEmployer.is c.requires) c.say-in-NoEmployer.ensures.later c.say-in-NoEmployer.ensures.says
