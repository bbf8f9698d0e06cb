use Rattle.std.proofs.Common.{ℕ, ◌<◌, ◌≤◌, length, get_or}
use Rattle.afd_extract.specs.Steps.{IsBetween}
use Rattle.afd_extract.proofs.periods.end_in.Given as goal

abbrev pub invariant-loop-end : goal.invariant-loop-end
invariant-loop-end l = record {
  within : l.end ≤ length l.days;
  behind : (k : ℕ) → l.end ≤ k → k < length l.days → ¬ IsBetween l.from l.to (get_or l.days k 0);
}

abbrev pub decreases-loop-end : goal.decreases-loop-end
decreases-loop-end l = l.end
