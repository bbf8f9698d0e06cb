use Rattle.tr_pair.proofs.PlacedLemmas.{ArePlacedBelow, IsCounted}
use Rattle.tr_pair.proofs.pairing.pair.Given as goal

abbrev pub invariant-loop-mark : goal.invariant-loop-mark
invariant-loop-mark l = record {
  placed : ArePlacedBelow l.marks l.mark-index l.placed.items;
  counted : IsCounted l.marks l.mark-index l.journey.day l.journey.kept;
}
