-- When a call over a disk makes no journal: this project's own.
use Rattle.std.specs.Prelude.{◌≡◌, ◌⊎◌, ℕ, ◌+◌, List, IfSome, IsErrAnd, Option, Result}
use Rattle.rep_disk.specs.Disk.{Shown}
use Rattle.rep_journal.specs.State.{MakesCalls}
use Rattle.rep_journal.specs.Recovery.{RestsFrom}
use Rattle.rep_journal.specs.declared.error.NotMade.{NotMade}
use Rattle.rep_journal.specs.declared.error.WhyNot.{WhyNot}
use Rattle.rep_journal.specs.declared.error.WhyNot.TheVariants.{DeviceFault, OutOfMemory}

-- the call answers that it made none, for this reason
abbrev pub IsRefused : {A D : Type 0} → WhyNot → Result A (NotMade D) → Type 0
IsRefused why result = IsErrAnd result (λ not_made. not_made.why ≡ why)

-- The call refuses for this reason only where this is so; and where it is so, then for this reason, unless the disk
-- failed or memory was short before.
pub record RefusesWhere {A D : Type 0} (IsSo : Type 0) (why : WhyNot) (result : Result A (NotMade D)) : Type 0 where
  pub only : IsRefused why result → IsSo
  pub all : IsSo → IsRefused why result ⊎ IsRefused DeviceFault result ⊎ IsRefused OutOfMemory result

-- the same of contents that are told
abbrev pub Refuses : {A D : Type 0} → (List ℕ → Type 0) → WhyNot → Option (List ℕ) → Result A (NotMade D) → Type 0
Refuses Is why contents result = IfSome contents (λ bytes. RefusesWhere (Is bytes) why result)

-- Where no journal was found: the sync, which comes first, failed and was the only device call, or from that sync on a
-- crash leaves the contents alone.
abbrev pub RestsUnlessFailed : WhyNot → Shown → Shown → Type 0
RestsUnlessFailed why old new = ((why ≡ DeviceFault) × MakesCalls 1 old new) ⊎ RestsFrom (old.moment + 2) new
