use Rattle.rep_journal.proofs.KindLemmas.{one_kind, some_kind}
use Rattle.rep_journal.proofs.laws.contents_are_of_one_kind.Goals as goal

pub returns-clause-some : goal.returns-clause-some
returns-clause-some c = λ bytes. some_kind bytes

pub returns-clause-one : goal.returns-clause-one
returns-clause-one c = λ bytes kind other k l. one_kind bytes kind other k l
