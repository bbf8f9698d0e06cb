use Rattle.rep_ledger.proofs.ContentLemmas.{one_content, some_content}
use Rattle.rep_ledger.proofs.laws.contents_are_of_one_kind.Goals as goal

pub returns : goal.returns
returns c = record { some = some_content c.args.bytes.now; one = one_content c.args.bytes.now }
