use Rattle.rep_core.proofs.Standing.{Stands-own}
use Rattle.rep_ledger.proofs.taking.take_in.Goals as goal

pub accept_line-requires-clause-asked : goal.accept_line-requires-clause-asked
accept_line-requires-clause-asked c = (c.in-Some.ensures.found _ (Stands-own c.args.core.now)).asked
