use Rattle.rep_journal.specs.State.{State}
use Rattle.rep_journal.proofs.OutcomeLemmas.{found_not_blank, found_not_damaged, failed_damaged}
use Rattle.rep_journal.proofs.journal.Journal.reopen.Goals as goal

pub returns-in-Ok-clause-blank : goal.returns-in-Ok-clause-blank
returns-in-Ok-clause-blank g c = found_not_blank g.row.D.Denot (g.D.Disk.shown c.args.disk).contents c.in-Ok.list _ c.in-Ok.ensures.finds

pub returns-in-Ok-clause-damaged : goal.returns-in-Ok-clause-damaged
returns-in-Ok-clause-damaged g c = λ at. found_not_damaged g.row.D.Denot (g.D.Disk.shown c.args.disk).contents c.in-Ok.list _ at c.in-Ok.ensures.finds

pub returns-in-Err-clause-damaged : goal.returns-in-Err-clause-damaged
returns-in-Err-clause-damaged g c = λ at. failed_damaged (State g.row.D.Denot) (g.D.Disk.shown c.args.disk).contents c.find.new.disk c.in-Err.why at c.in-Err.ensures.finds
