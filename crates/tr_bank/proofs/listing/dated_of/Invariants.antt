use Rattle.tr_bank.proofs.DatedLemmas.{AreDatedBelow}
use Rattle.tr_bank.proofs.listing.dated_of.Given as goal

abbrev pub invariant-loop-place : goal.invariant-loop-place
invariant-loop-place l = AreDatedBelow l.plan l.link l.fn.from l.fn.to l.place l.dated.items
