use Rattle.rep_core.proofs.Validity.{Fits-recorded}
use Rattle.rep_core.proofs.laws.a_recorded_entry_fits.Goals as goal

pub returns : goal.returns
returns c = Fits-recorded
