use Rattle.std.proofs.Common.{arith}
use Rattle.rep_journal.proofs.HeadLemmas.{head_foreign, head_open, head_closed}
use Rattle.rep_journal.proofs.head.judge.Goals as goal

pub returns-then-not-has_magic : goal.returns-then-not-has_magic
returns-then-not-has_magic c = head_foreign c.args.front.now (omega arith) (λ is. let yes = c.if-not-has_magic.ensures.1 is in absurd (cc))

pub returns-then-front : goal.returns-then-front
returns-then-front c = head_open c.args.front.now (omega arith) (c.has_magic.ensures.0 c.if-not-has_magic.false) c.if-front.true

pub returns-else-front : goal.returns-else-front
returns-else-front c = head_closed c.args.front.now (omega arith) (c.has_magic.ensures.0 c.if-not-has_magic.false) c.if-front.false
