use Rattle.rep_core.proofs.Lines.{chained}
use Rattle.rep_core.proofs.laws.clockings_are_chained.Goals as goal

pub returns : goal.returns
returns c = chained
