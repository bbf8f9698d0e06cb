use Rattle.rep_core.proofs.Verdicts.{IsVerdict-unique}
use Rattle.rep_core.proofs.laws.a_request_has_one_verdict.Goals as goal

pub returns : goal.returns
returns c = IsVerdict-unique
