use Rattle.std.proofs.Common.{arith}
use Rattle.afd_extract.proofs.Days.{none_of, range_of}
use Rattle.afd_extract.proofs.periods.period.Goals as goal

pub returns-then-first-days : goal.returns-then-first-days
returns-then-first-days c =
    none_of c.args.days.now c.args.from c.args.to c.from.inside.number c.to.inside.number c.first_in-first.result (omega arith) (omega arith)
    (omega arith) c.first_in-first.ensures.before

pub returns : goal.returns
returns c =
    range_of c.args.days.now c.args.from c.args.to c.from.inside.number c.to.inside.number c.first_in-first.result c.end_in-last.result
    (omega arith) (omega arith) (omega arith) c.first_in-first.ensures.before (c.first_in-first.ensures.found (omega arith))
    c.end_in-last.ensures.within c.end_in-last.ensures.behind c.end_in-last.ensures.found
