-- What a disk in memory shows that never fails: this project's own.
use Rattle.std.specs.Prelude.{Some}
use Rattle.rep_disk.specs.Disk.{Shown}
use Rattle.rep_disk.specs.Memory.{Memory, state_at}
use Rattle.rep_disk.specs.Record.{IsImage, image_of}

-- contents, room, moment and images, also by name, are the disk's, and its count of faults stays 0
abbrev pub sure_shown : Memory → Shown
sure_shown disk = record {
  contents = Some disk.bytes;
  spare = disk.spare;
  moment = disk.moment;
  may_leave = λ m image. IsImage (state_at disk m) image;
  named = λ name m. Some (image_of name (state_at disk m));
  faults = 0;
}
