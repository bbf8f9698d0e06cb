-- What a search for the frames of contents answers: this project's own.
use Rattle.std.specs.Prelude.{◌≡◌, ◌≢◌, ℕ, List, IfSome, MatchResult, Option, Result, ⊤}
use Rattle.rep_disk.specs.Disk.{Shown}
use Rattle.rep_journal.specs.Format.{BrokenAt, IsBlank, IsForeign, IsOfKind, Keeps}
use Rattle.rep_journal.specs.Listed.{Listed}
use Rattle.rep_journal.specs.declared.error.WhyNot.{WhyNot}
use Rattle.rep_journal.specs.declared.error.WhyNot.TheVariants.{Foreign, Present, Blank, Damaged, DeviceFault, OutOfMemory}

-- the contents are as the answer says
abbrev pub IsCause : List ℕ → WhyNot → Type 0
IsCause bytes Foreign = IsForeign bytes
IsCause bytes Present = ⊥
IsCause bytes Blank = IsBlank bytes
IsCause bytes (Damaged at) = BrokenAt bytes at
IsCause bytes DeviceFault = ⊤
IsCause bytes OutOfMemory = ⊤

-- the disk failed only where that is the answer
abbrev pub HidesNoFault : {T : Type 0} → Shown → Shown → Result T WhyNot → Type 0
HidesNoFault old new result =
    MatchResult result (λ _. new.faults ≡ old.faults) (λ why. why ≢ DeviceFault → new.faults ≡ old.faults)

abbrev pub Finds : Option (List ℕ) → Result Listed WhyNot → Type 0
Finds contents result =
    IfSome contents (λ bytes. MatchResult result (λ list. IsOfKind bytes (Keeps list.frames)) (IsCause bytes))
