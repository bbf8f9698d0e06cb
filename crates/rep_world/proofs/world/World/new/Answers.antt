use Rattle.rep_world.proofs.Makings.{empty_kept, empty_world}
use Rattle.rep_world.proofs.world.World.new.Goals as goal

pub invariant_of-result : goal.invariant_of-result
invariant_of-result c =
    empty_kept c.args.site.now c.new.result.items c.new-2.result.items c.new-3.result.items c.in_ok-store.store c.new.ensures.items c.new-2.ensures.items c.new-3.ensures.items c.in_ok-store.ensures c.requires

pub returns-clause-made : goal.returns-clause-made
returns-clause-made c =
    empty_world c.args.site.now c.new.result.items c.new-2.result.items c.new-3.result.items c.in_ok-store.store c.new.ensures.items c.new-2.ensures.items c.new-3.ensures.items c.in_ok-store.ensures

pub returns-clause-holds : goal.returns-clause-holds
returns-clause-holds c =
    (empty_kept c.args.site.now c.new.result.items c.new-2.result.items c.new-3.result.items c.in_ok-store.store c.new.ensures.items c.new-2.ensures.items c.new-3.ensures.items c.in_ok-store.ensures c.requires).world
