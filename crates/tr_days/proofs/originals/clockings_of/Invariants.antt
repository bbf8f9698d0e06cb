use Rattle.tr_days.proofs.OriginalLemmas.{AreOriginalsBelow}
use Rattle.tr_days.proofs.originals.clockings_of.Given as goal

abbrev pub invariant-loop-number : goal.invariant-loop-number
invariant-loop-number l = AreOriginalsBelow l.afd l.number l.clockings.items
