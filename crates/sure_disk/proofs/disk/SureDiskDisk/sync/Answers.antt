use Rattle.std.proofs.Common.{subst}
use Rattle.rep_disk.specs.Disk.{OpensUntil}
use Rattle.rep_disk.specs.Memory.{Memory}
use Rattle.sure_disk.specs.Sure.{sure_shown}
use Rattle.sure_disk.proofs.disk.SureDiskDisk.sync.Goals as goal

-- src/disk.rt
pub returns-clause-opens : goal.returns-clause-opens
returns-clause-opens c =
    subst (λ (m : Memory). OpensUntil (sure_shown m) (sure_shown c.sync.new.self) c.sync.result) c.self.view_is c.sync.ensures.syncs.opens
