use Rattle.rep_core.proofs.Receipts.{slip_of-more}
use Rattle.rep_core.proofs.laws.a_receipt_stays_as_the_history_grows.Goals as goal

pub returns : goal.returns
returns c = slip_of-more
