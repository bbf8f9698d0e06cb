use Rattle.rep_journal.proofs.KindLemmas.{one_journal}
use Rattle.rep_journal.proofs.laws.contents_tell_the_frames.Goals as goal

pub returns : goal.returns
returns c = λ bytes some others j k. one_journal bytes some others j k
