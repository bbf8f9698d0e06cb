use Rattle.std.proofs.Common.{sym, subst, rules}
use Rattle.rep_disk.specs.Record.{IsImage, IsSoundState}
use Rattle.rep_disk.specs.Memory.{Memory, state_at}
use Rattle.rep_disk.proofs.Replay.{image_allowed}
use Rattle.rep_disk.proofs.mem_disk.MemDisk.image.Goals as goal

pub returns-clause-named : goal.returns-clause-named
returns-clause-named c = search rules

pub returns-clause-allowed : goal.returns-clause-allowed
returns-clause-allowed c =
    let sound = subst (λ (m : Memory). IsSoundState (state_at m c.args.moment)) c.self.view_is (c.self.invariant.sound.sound c.args.moment) in
    subst (IsImage (state_at c.args.self.now c.args.moment)) (sym (returns-clause-named c)) (image_allowed c.args.image (state_at c.args.self.now c.args.moment) sound)
