use Rattle.std.proofs.Common.{subst}
use Rattle.std.specs.Prelude.{IfSome}
use Rattle.rep_journal.specs.Head.{IsHead}
use Rattle.rep_journal.specs.declared.head.Head.{Head}
use Rattle.rep_journal.proofs.HeadLemmas.{look_open}
use Rattle.rep_journal.proofs.journal.Journal.look.Goals as goal

pub returns-in-Open-clause-present : goal.returns-in-Open-clause-present
returns-in-Open-clause-present g c =
    look_open g.row.D.Denot g.row.D.Denot (g.D.Disk.shown c.args.disk).contents c.read_head.new.disk
    (subst (λ (head : Head). IfSome (g.D.Disk.shown c.args.disk).contents (λ bytes. IsHead bytes head)) c.in-Open.is c.in-Ok.ensures.head)
