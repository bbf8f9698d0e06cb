use Rattle.std.proofs.Common.{take}
use Rattle.std.specs.Prelude.{AllPairs}
use Rattle.tr_plan.specs.Index.{HasEnds}
use Rattle.tr_plan.specs.Link.{AreApart}
use Rattle.tr_plan.proofs.check.overlap.Given as goal

abbrev pub invariant-loop-link : goal.invariant-loop-link
invariant-loop-link l = record {
  ends : HasEnds l.ends (take l.link-index l.links);
  apart : AllPairs AreApart (take l.link-index l.links);
}
