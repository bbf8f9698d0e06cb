use Rattle.rep_core.proofs.Lines.{lines_of}
use Rattle.rep_core.proofs.laws.each_entry_has_its_line.Goals as goal

pub returns : goal.returns
returns c = lines_of
