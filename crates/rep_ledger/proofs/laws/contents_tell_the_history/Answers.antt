use Rattle.rep_ledger.proofs.ContentLemmas.{one_ledger}
use Rattle.rep_ledger.proofs.laws.contents_tell_the_history.Goals as goal

pub returns : goal.returns
returns c = one_ledger c.args.bytes.now
