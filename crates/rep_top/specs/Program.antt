-- What a call of the program does to its rig: this project's own.
use Rattle.std.specs.Prelude.{◌≡◌, ◌≢◌, ◌⊎◌, ℕ, List, [], ◌∷◌, map, Option, None, Some, option_map}
use Rattle.rep_io.specs.Causes.{Rose}
use Rattle.rep_io.specs.declared.source.Source.{Ghosts as TextGhosts}
use Rattle.rep_io.specs.declared.sink.Sink.{Ghosts as SinkGhosts}
use Rattle.rep_io.specs.declared.clock.Clock.{Ghosts as ClockGhosts}
use Rattle.rep_disk.specs.declared.disk.Disk.{Ghosts as DiskGhosts}
use Rattle.rep_disk.specs.Disk.{Shown}
use Rattle.rep_report.specs.Report.{fault_text}
use Rattle.rep_report.specs.Saying.{SaysLine}
use Rattle.rep_query.specs.Lines.{dates_fault}
use Rattle.rep_words.specs.Rigged.{IsRigged}
use Rattle.rep_words.specs.declared.rig.Rig.{Rig}
use Rattle.rep_words.specs.declared.words.Asked.{Asked}

-- what is shown of a rig's parts, the outside: what sources have left, what sinks have got, what a disk shows, what a clock gave, and the
-- counts of faults
pub record Outside (S K D C : Type 0) : Type 1 where
  pub left : S → Option (List ℕ)
  pub source_faults : S → ℕ
  pub written : K → Option (List ℕ)
  pub sink_faults : K → ℕ
  pub shown : D → Shown
  pub readings : C → Option (List ℕ)
  pub clock_faults : C → ℕ

abbrev pub outside : {S K D C : Type 0} → TextGhosts S → SinkGhosts K → DiskGhosts D → ClockGhosts C → Outside S K D C
outside text sink disk clock = record {
  left = text.left;
  source_faults = text.faults;
  written = sink.written;
  sink_faults = sink.faults;
  shown = disk.shown;
  readings = clock.readings;
  clock_faults = clock.faults;
}

-- the rig has just the parts that are used for what is asked
abbrev pub IsRiggedFor : {S K D C : Type 0} → Asked → Rig S K D C → Type 0
IsRiggedFor asked rig = IsRigged asked rig.texts.items rig.outs.items rig.disk rig.clock

-- Faults

-- the count of faults of one of these objects rose, the objects before and after in the same order
abbrev pub SomeRose : {A : Type 0} → (A → ℕ) → List A → List A → Type 0
SomeRose faults [] news = ⊥
SomeRose faults (old ∷ olds) [] = ⊥
SomeRose faults (old ∷ olds) (new ∷ news) = Rose (faults old) (faults new) ⊎ SomeRose faults olds news

-- the count of faults of this object rose, where there is one
abbrev pub ThatRose : {A : Type 0} → (A → ℕ) → Option A → Option A → Type 0
ThatRose faults None new = ⊥
ThatRose faults (Some old) None = ⊥
ThatRose faults (Some old) (Some new) = Rose (faults old) (faults new)

-- a source failed
abbrev pub SourceFailed : {S K D C : Type 0} → Outside S K D C → Rig S K D C → Rig S K D C → Type 0
SourceFailed out old new = SomeRose out.source_faults old.texts.items new.texts.items

-- the output or a file that is written failed
abbrev pub SinkFailed : {S K D C : Type 0} → Outside S K D C → Rig S K D C → Rig S K D C → Type 0
SinkFailed out old new = SomeRose out.sink_faults (old.out ∷ old.outs.items) (new.out ∷ new.outs.items)

abbrev pub DiskFailed : {S K D C : Type 0} → Outside S K D C → Rig S K D C → Rig S K D C → Type 0
DiskFailed out old new = ThatRose (λ d. (out.shown d).faults) old.disk new.disk

abbrev pub ClockFailed : {S K D C : Type 0} → Outside S K D C → Rig S K D C → Rig S K D C → Type 0
ClockFailed out old new = ThatRose out.clock_faults old.clock new.clock

-- A fault of the outside is told only where that object's count rose in this call, and none is passed over: where no fault
-- of a kind is told, the counts of that kind are as they were. In the place of another fault that of a sink may be told, and
-- what is lost of a last line that tells one is told by nothing more.
pub record TellsFaults {S K D C : Type 0} (out : Outside S K D C) (old new : Rig S K D C) (status : ℕ) : Type 0 where
  pub source : status ≡ 4 → SourceFailed out old new
  pub sink : status ≡ 5 → SinkFailed out old new
  pub device : status ≡ 6 → DiskFailed out old new
  pub clock : status ≡ 7 → ClockFailed out old new
  pub no_source : status ≢ 4 → status ≢ 5 → map out.source_faults new.texts.items ≡ map out.source_faults old.texts.items
  pub no_file : status ≢ 5 → map out.sink_faults new.outs.items ≡ map out.sink_faults old.outs.items
  pub no_device : status ≢ 6 → status ≢ 5
      → option_map (λ d. (out.shown d).faults) new.disk ≡ option_map (λ d. (out.shown d).faults) old.disk
  pub no_clock : status ≢ 7 → status ≢ 5 → option_map out.clock_faults new.clock ≡ option_map out.clock_faults old.clock

-- nothing of the outside failed
pub record NothingFailed {S K D C : Type 0} (out : Outside S K D C) (old new : Rig S K D C) : Type 0 where
  pub sources : SourceFailed out old new → ⊥
  pub sinks : SinkFailed out old new → ⊥
  pub disk : DiskFailed out old new → ⊥
  pub clock : ClockFailed out old new → ⊥

-- The words are refused: the texts, the files, the disk and the clock stayed as they were, and this line was said, wholly
-- where the output didn't fail.
pub record RefusesWith {S K D C : Type 0} (line : List ℕ) (out : Outside S K D C) (old new : Rig S K D C) : Type 0 where
  pub texts : new.texts.items ≡ old.texts.items
  pub outs : new.outs.items ≡ old.outs.items
  pub disk : new.disk ≡ old.disk
  pub clock : new.clock ≡ old.clock
  pub says : SaysLine line (out.written old.out) (out.written new.out)
      (Rose (out.sink_faults old.out) (out.sink_faults new.out))

-- the words are those of no command
abbrev pub Refuses : {S K D C : Type 0} → Outside S K D C → Rig S K D C → Rig S K D C → Type 0
Refuses out old new = RefusesWith (fault_text 2) out old new

-- the words are a command's, but name no period
abbrev pub RefusesDates : {S K D C : Type 0} → Outside S K D C → Rig S K D C → Rig S K D C → Type 0
RefusesDates out old new = RefusesWith dates_fault out old new
