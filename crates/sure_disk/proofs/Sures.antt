-- What is said of a disk's images holds of it also where its count of faults stays 0.
use Rattle.rep_disk.specs.Disk.{Stays}
use Rattle.rep_disk.specs.Memory.{Memory, memory_shown}
use Rattle.sure_disk.specs.Sure.{sure_shown}

pub Stays-sure : (a b : Memory) → Stays (memory_shown a) (memory_shown b) → Stays (sure_shown a) (sure_shown b)
Stays-sure a b stays below =
    let stayed = stays below in
    record { past = stayed.past; images = stayed.images }
