use Rattle.std.proofs.Common.{arith}
use Rattle.afd_read.proofs.LineEndLemmas.{line-without_feed, line-without_return, length-without_last}
use Rattle.afd_read.proofs.line_end.without_end.Goals as goal

pub returns-then-line-bytes-clause-line : goal.returns-then-line-bytes-clause-line
returns-then-line-bytes-clause-line c run is_run is =
    line-without_feed run.bytes run.ended c.args.bytes.now c.without_last-line.result.now is_run is
    c.without_last-line.ensures c.if-line-bytes.true

pub returns-clause-line : goal.returns-clause-line
returns-clause-line c run is_run is =
    line-without_return run.bytes run.ended c.args.bytes.now c.without_last-line.result.now c.without_last.result.now
    is_run is c.without_last-line.ensures c.if-line-bytes.false c.without_last.ensures

pub returns-clause-within : goal.returns-clause-within
returns-clause-within c =
    omega (arith, length-without_last 10 c.args.bytes.now c.without_last-line.result.now c.without_last-line.ensures, length-without_last 13 c.without_last-line.result.now c.without_last.result.now c.without_last.ensures)
