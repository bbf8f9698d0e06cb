use Rattle.rep_core.proofs.Lines.{history_lines-push}
use Rattle.rep_core.proofs.laws.an_entry_adds_its_line.Goals as goal

pub returns : goal.returns
returns c = history_lines-push
