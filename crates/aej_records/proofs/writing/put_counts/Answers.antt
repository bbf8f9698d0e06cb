use Rattle.std.proofs.Common.{decimal, arith}
use Rattle.aej_records.proofs.WritingLemmas.{behind_bars-more}
use Rattle.aej_records.proofs.writing.put_counts.Goals as goal

pub loop-count-preserved : goal.loop-count-preserved
loop-count-preserved c = (
  behind_bars-more decimal c.args.counts.now c.loop-count.count-index c.args.row.now c.loop-count.row c.put_number.new.row
      (omega arith) c.loop-count.invariant.0 c.put_number.ensures.value,
  omega arith,
)
