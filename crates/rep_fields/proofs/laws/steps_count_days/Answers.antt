use Rattle.rep_fields.proofs.DateLemmas.{date_of_is}
use Rattle.rep_fields.proofs.laws.steps_count_days.Goals as goal

pub returns : goal.returns
returns c = λ days. (date_of_is days).number
