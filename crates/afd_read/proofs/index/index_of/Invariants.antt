use Rattle.std.proofs.Common.{◌≡◌, ◌≤◌, ◌-◌, ◌++◌, length, drop}
use Rattle.rep_io.specs.Lines.{runs_of}
use Rattle.afd_read.specs.Index.{bounds_from, bounds_of}
use Rattle.afd_read.proofs.index.index_of.Given as goal

-- the bounds so far, with those of the lines that are left, are all of them
abbrev pub invariant-loop-at : goal.invariant-loop-at
invariant-loop-at l = record {
  within : l.at ≤ length l.text;
  so_far : l.bounds.items ++ bounds_from l.at (runs_of (drop l.at l.text)) ≡ bounds_of l.text;
}

abbrev pub decreases-loop-at : goal.decreases-loop-at
decreases-loop-at l = length l.text - l.at
