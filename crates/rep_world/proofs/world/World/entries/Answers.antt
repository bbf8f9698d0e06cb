use Rattle.std.proofs.Common.{subst}
use Rattle.std.specs.Prelude.{IfOk}
use Rattle.rep_world.specs.Events.{Counts}
use Rattle.rep_world.specs.Fields.{world_of}
use Rattle.rep_world.specs.World.{World, IsWorld}
use Rattle.rep_world.proofs.Trials.{counts_ok}
use Rattle.rep_world.proofs.world.World.entries.Goals as goal

pub entries_of-requires : goal.entries_of-requires
entries_of-requires c = (c.self.inside.site, c.self.invariant.runs)

pub returns-clause-counts : goal.returns-clause-counts
returns-clause-counts c =
    let s = c.self.inside in
    subst (λ (w : World). IfOk c.entries_of.result (Counts w.disk.bytes)) c.self.view_is
    (counts_ok (world_of s.site s.sent.items s.named.items s.issued.items s.recorder) c.entries_of.result c.self.invariant.world c.entries_of.ensures)

pub returns-clause-holds : goal.returns-clause-holds
returns-clause-holds c = subst IsWorld c.self.view_is c.self.invariant.world
