use Rattle.std.proofs.Common.{subst}
use Rattle.rep_store.specs.Making.{Creates}
use Rattle.sure_disk.specs.Sure.{sure_shown}
use Rattle.rep_world.specs.declared.dial.Dial.{Dial}
use Rattle.rep_world.proofs.Disks.{made_own}
use Rattle.rep_world.proofs.Trials.{faults, made_by, readings}
use Rattle.rep_world.proofs.steps.make.Goals as goal

pub returns-in-Ok : goal.returns-in-Ok
returns-in-Ok c =
    made_by c.args.site.now c.new-disk.result c.in-Ok.store (made_own c.new-disk.result _ c.new-disk.ensures)
    (subst (λ (d : Dial). Creates sure_shown readings faults c.args.site.now c.new-disk.result d c.in-Ok.store) c.at.ensures c.in-Ok.ensures.created)
