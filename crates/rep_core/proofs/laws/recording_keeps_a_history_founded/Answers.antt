use Rattle.rep_core.proofs.Validity.{IsFounded-first, IsFounded-push}
use Rattle.rep_core.proofs.laws.recording_keeps_a_history_founded.Goals as goal

pub returns : goal.returns
returns c = record { first = IsFounded-first; more = IsFounded-push }
