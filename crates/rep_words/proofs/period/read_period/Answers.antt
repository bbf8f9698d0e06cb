use Rattle.std.proofs.Common.{◌<◌, arith}
use Rattle.rep_words.proofs.PeriodWords.{names_none}
use Rattle.rep_words.proofs.period.read_period.Goals as goal

pub returns-then-to-from : goal.returns-then-to-from
returns-then-to-from c =
    let less : c.in-Some-read.to < c.in-Some.from = omega (arith, c.from.view_is, c.to.view_is, c.if-to-from.true) in
    names_none c.args.first.now c.args.last.now c.in-Some.from c.in-Some-read.to c.in-Some.ensures.0 c.in-Some-read.ensures.0
    c.in-Some.ensures.1 c.in-Some-read.ensures.1 less
