use Rattle.std.proofs.Common.{ℕ, ◌<◌, get_or}
use Rattle.afd_extract.specs.Steps.{IsBetween}
use Rattle.afd_extract.proofs.periods.first_in.Given as goal

abbrev pub invariant-loop-i : goal.invariant-loop-i
invariant-loop-i l = (k : ℕ) → k < l.i → ¬ IsBetween l.from l.to (get_or l.days k 0)
