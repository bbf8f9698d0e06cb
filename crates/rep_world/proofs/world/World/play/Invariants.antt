use Rattle.std.proofs.Common.{List, take}
use Rattle.rep_world.specs.World.{IsWorld}
use Rattle.rep_world.specs.Events.{GoesOn}
use Rattle.rep_world.specs.Play.{Plays}
use Rattle.rep_world.specs.declared.event.Seen.{Seen}
use Rattle.rep_world.proofs.world.World.play.Given as goal

abbrev pub invariant-loop-e : goal.invariant-loop-e
invariant-loop-e l = record {
  seen : List Seen;
  plays : Plays l.fn.self (take l.e-index l.events) seen l.self;
  goes_on : GoesOn l.fn.self l.self;
  holds : IsWorld l.self;
}
