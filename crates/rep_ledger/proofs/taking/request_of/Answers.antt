use Rattle.std.proofs.Common.{arith}
use Rattle.rep_ledger.proofs.Nexts.{Became-first, Became-later}
use Rattle.rep_ledger.proofs.taking.request_of.Goals as goal

pub returns-then-count-eq0-clause-only : goal.returns-then-count-eq0-clause-only
returns-then-count-eq0-clause-only c = λ h q count became.
    c.founding_of.ensures.only q (Became-first h q c.args.entry.now (omega arith) became)

pub returns-else-count-eq0-clause-only : goal.returns-else-count-eq0-clause-only
returns-else-count-eq0-clause-only c = λ h q count became.
    c.asked_of.ensures.only q (Became-later h q c.args.entry.now (omega arith) became)
