-- What a disk shows that tells nothing of its content: this project's own.
use Rattle.std.specs.Prelude.{ℕ, None}
use Rattle.rep_disk.specs.Disk.{Shown, end_of_disk, last_moment}

-- A disk of so many faults. It takes whatever a disk holds without taking memory. It stands at the last moment, where
-- nothing is said of what a crash may leave.
abbrev pub untold : ℕ → Shown
untold faults = record {
  contents = None;
  spare = end_of_disk;
  moment = last_moment;
  may_leave = λ _ _. ⊥;
  named = λ _ _. None;
  faults = faults;
}
