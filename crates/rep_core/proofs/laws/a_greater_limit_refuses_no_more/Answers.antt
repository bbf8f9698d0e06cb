use Rattle.rep_core.proofs.Verdicts.{fresh_within}
use Rattle.rep_core.proofs.laws.a_greater_limit_refuses_no_more.Goals as goal

pub returns : goal.returns
returns c = fresh_within
