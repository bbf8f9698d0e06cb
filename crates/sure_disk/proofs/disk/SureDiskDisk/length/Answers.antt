use Rattle.std.proofs.Common.{subst}
use Rattle.rep_disk.specs.Disk.{Stays}
use Rattle.rep_disk.specs.Memory.{Memory}
use Rattle.sure_disk.specs.Sure.{sure_shown}
use Rattle.sure_disk.proofs.Sures.{Stays-sure}
use Rattle.sure_disk.proofs.disk.SureDiskDisk.length.Goals as goal

-- src/disk.rt
pub returns-clause-crash : goal.returns-clause-crash
returns-clause-crash c =
    subst (λ (m : Memory). Stays (sure_shown m) (sure_shown c.length.new.self)) c.self.view_is
    (Stays-sure c.self.inside.disk c.length.new.self c.length.ensures.looks.crash)
