use Rattle.rep_core.proofs.Validity.{IsValid-nil, IsValid-push}
use Rattle.rep_core.proofs.laws.recording_keeps_a_history_valid.Goals as goal

pub returns : goal.returns
returns c = record { empty = IsValid-nil; more = IsValid-push }
