use Rattle.std.proofs.Common.{sym, subst}
use Rattle.rep_world.specs.Fields.{RunsForSome, disk_of}
use Rattle.rep_world.specs.Trial.{CountsEach}
use Rattle.rep_world.specs.declared.recorder.Recorder.{Recorder}
use Rattle.rep_world.proofs.Trials.{counts_one}
use Rattle.rep_world.proofs.steps.entries_of.Goals as goal

pub returns-in-Up : goal.returns-in-Up
returns-in-Up c =
    let runs = subst RunsForSome c.in-Up.is c.requires in
    subst (λ (r : Recorder). CountsEach (disk_of r).bytes c.count.result) (sym c.in-Up.is)
    (counts_one c.in-Up.store.disk.bytes c.in-Up.store.history c.count.result runs.1.settled.holds c.count.ensures.value)
