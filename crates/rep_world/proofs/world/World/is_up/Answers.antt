use Rattle.std.proofs.Common.{ap, subst, ◌∙◌}
use Rattle.rep_world.specs.World.{World, IsWorld}
use Rattle.rep_world.proofs.world.World.is_up.Goals as goal

pub returns-clause-value : goal.returns-clause-value
returns-clause-value c = c.is_running.ensures ∙ ap (λ (w : World). w.up) c.self.view_is

pub returns-clause-holds : goal.returns-clause-holds
returns-clause-holds c = subst IsWorld c.self.view_is c.self.invariant.world
