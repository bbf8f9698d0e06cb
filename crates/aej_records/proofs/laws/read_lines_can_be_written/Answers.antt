use Rattle.aej_records.proofs.Lines.{HasText-in_range}
use Rattle.aej_records.proofs.laws.read_lines_can_be_written.Goals as goal

pub returns : goal.returns
returns c = HasText-in_range
