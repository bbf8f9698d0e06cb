use Rattle.afd_read.proofs.LineEndLemmas.{first_run-ended, first_run-last}
use Rattle.afd_read.proofs.line_end.first_len.Goals as goal

pub returns-in-Some : goal.returns-in-Some
returns-in-Some c = first_run-ended c.args.text.now c.in-Some.at c.in-Some.ensures

pub returns-in-None : goal.returns-in-None
returns-in-None c = first_run-last c.args.text.now c.requires c.in-None.ensures
