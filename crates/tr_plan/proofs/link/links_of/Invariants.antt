use Rattle.std.proofs.Common.{◌<◌, ◌^◌}
use Rattle.tr_plan.specs.Index.{HasPlaces}
use Rattle.tr_plan.specs.Link.{IsLinkOf}
use Rattle.tr_plan.specs.Plan.{HaveDifferentIds}
use Rattle.tr_plan.proofs.LoopLemmas.{AreSaid}
use Rattle.tr_plan.proofs.link.links_of.Given as goal

abbrev pub invariant-loop-i : goal.invariant-loop-i
invariant-loop-i l = record {
  said : AreSaid IsLinkOf l.rows l.i l.links.items;
  places : HasPlaces l.places l.links.items;
  differ : HaveDifferentIds l.links.items;
  few : l.i < 2 ^ 32;
}
