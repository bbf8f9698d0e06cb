use Rattle.std.proofs.Common.{◌+◌, ◌∷◌, ◌++◌, [], arith}
use Rattle.rep_world.proofs.Plays.{Plays-next, PlaysUpTo-here}
use Rattle.rep_world.proofs.Worlds.{GoesOn-trans}
use Rattle.rep_world.proofs.world.World.play.Goals as goal

pub returns-in-Err-clause-plays : goal.returns-in-Err-clause-plays
returns-in-Err-clause-plays c =
    let i = c.loop-e.invariant in
    PlaysUpTo-here c.args.self.now c.loop-e.self c.step.new.self c.args.events.now c.loop-e.e-index c.e-item.result (omega arith) c.e-item.is i.seen i.plays c.in-Err.stop c.in-Err.ensures.does

pub returns-in-Err-clause-goes_on : goal.returns-in-Err-clause-goes_on
returns-in-Err-clause-goes_on c =
    GoesOn-trans c.args.self.now c.loop-e.self c.step.new.self c.loop-e.invariant.goes_on c.step.ensures.does.goes_on

pub loop-e-preserved : goal.loop-e-preserved
loop-e-preserved c =
    let i = c.loop-e.invariant in
    record {
      seen = i.seen ++ c.in-Ok.field-0 ∷ [];
      plays = Plays-next c.args.self.now c.loop-e.self c.step.new.self c.args.events.now c.loop-e.e-index c.e-item.result (omega arith) c.e-item.is i.seen i.plays (c.loop-e.e-index + 1) (omega arith) c.in-Ok.field-0 c.in-Ok.ensures.does.steps c.step.ensures.holds c.step.ensures.does.goes_on;
      goes_on = GoesOn-trans c.args.self.now c.loop-e.self c.step.new.self i.goes_on c.step.ensures.does.goes_on;
      holds = c.step.ensures.holds;
    }
