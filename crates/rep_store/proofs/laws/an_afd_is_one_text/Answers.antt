use Rattle.rep_store.proofs.OneText.{one_text}
use Rattle.rep_store.proofs.laws.an_afd_is_one_text.Goals as goal

pub returns : goal.returns
returns c = one_text
