use Rattle.rep_core.proofs.Standing.{Stands-unique}
use Rattle.rep_core.proofs.laws.a_core_stands_for_one_history.Goals as goal

pub returns : goal.returns
returns c = Stands-unique
