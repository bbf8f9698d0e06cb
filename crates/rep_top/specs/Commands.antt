-- Each command over a rig: what it does to the parts that it works on, and when all of it can be done.
use Rattle.std.specs.Prelude.{◌≡◌, ◌⊎◌, ℕ, List, IfSome, Some, ℤ}
use Rattle.afd_records.specs.Record.{IsClocking}
use Rattle.rep_wire.specs.declared.request.Entry.{Entry}
use Rattle.rep_core.specs.History.{IsNumbered}
use Rattle.rep_ledger.specs.Ledger.{IsLedgerOf}
use Rattle.rep_disk.specs.Disk.{IsAtRest}
use Rattle.rep_journal.specs.Format.{IsBlank}
use Rattle.rep_site.specs.declared.site.Site.{Site}
use Rattle.rep_print.specs.Printing.{IsPrintable}
use Rattle.rep_print.specs.Written.{Printed}
use Rattle.rep_run.specs.Settings.{SaysSite}
use Rattle.rep_run.specs.Creating as creating
use Rattle.rep_run.specs.Running as running
use Rattle.rep_query.specs.Extract as extracting
use Rattle.rep_query.specs.Opening as opening
use Rattle.rep_query.specs.Giving.{Answered}
use Rattle.rep_io.specs.Causes.{Rose}
use Rattle.rep_io.specs.Cutter.{fresh}
use Rattle.rep_drill.specs.Playing.{BeginsNot, CanPlay, Drills}
use Rattle.rep_words.specs.Rigged.{PrintRig, CreateRig, RunRig, ExtractRig, ReceiptRig, DrillRig}
use Rattle.rep_words.specs.declared.period.Period.{Period}
use Rattle.rep_words.specs.declared.rig.Rig.{Rig}
use Rattle.rep_top.specs.Program.{Outside}

-- `print`

abbrev pub IsPrintRig : {S K D C : Type 0} → Rig S K D C → Type 0
IsPrintRig rig = PrintRig rig.texts.items rig.outs.items rig.disk rig.clock

abbrev pub PrintsOver : {S K D C : Type 0} → ℤ → Outside S K D C → Rig S K D C → Rig S K D C → ℕ → Type 0
PrintsOver zone out old new status =
    (before : IsPrintRig old) → (after : IsPrintRig new)
    → Printed out.left out.written out.readings out.sink_faults zone status
    before.source before.file old.out before.watch after.file new.out after.watch

-- the AFD's file isn't opened
abbrev pub LeavesFile : {S K D C : Type 0} → Rig S K D C → Rig S K D C → Type 0
LeavesFile old new = (before : IsPrintRig old) → (after : IsPrintRig new) → after.file ≡ before.file

-- the clock isn't asked
abbrev pub LeavesClock : {S K D C : Type 0} → Rig S K D C → Rig S K D C → Type 0
LeavesClock old new = (before : IsPrintRig old) → (after : IsPrintRig new) → after.watch ≡ before.watch

-- nothing of the lane is refused as a whole
pub record CanPrint {S K D C : Type 0} (out : Outside S K D C) (rig : Rig S K D C) : Type 0 where
  pub parts : IsPrintRig rig
  pub text : List ℕ
  pub told : out.left parts.source ≡ Some text
  pub printable : IsPrintable text

-- `create`

abbrev pub IsCreateRig : {S K D C : Type 0} → Rig S K D C → Type 0
IsCreateRig rig = CreateRig rig.texts.items rig.outs.items rig.disk rig.clock

-- what is seen of the parts of `create`
abbrev pub create_sense : {S K D C : Type 0} → Outside S K D C → creating.Meanings S D C
create_sense out = record {
  left = out.left;
  source_faults = out.source_faults;
  shown = out.shown;
  readings = out.readings;
  clock_faults = out.clock_faults;
}

abbrev pub create_parts : {S K D C : Type 0} → (rig : Rig S K D C) → IsCreateRig rig → creating.Parts S D C
create_parts rig parts = record { source = parts.site; disk = parts.drive; clock = parts.watch }

abbrev pub CreatesOver : {S K D C : Type 0} → Outside S K D C → Rig S K D C → Rig S K D C → ℕ → Type 0
CreatesOver out old new status =
    (before : IsCreateRig old) → (after : IsCreateRig new)
    → creating.Created (create_sense out) (create_parts old before) (create_parts new after)
    (out.written old.out) (out.written new.out) (out.sink_faults old.out) (out.sink_faults new.out) status

-- where the disk is blank, a crash leaves it so, or with the journal's first record
abbrev pub CreatesSafely : {S K D C : Type 0} → Outside S K D C → Rig S K D C → Rig S K D C → Type 0
CreatesSafely out old new =
    (before : IsCreateRig old) → (after : IsCreateRig new)
    → IsAtRest (out.shown before.drive) → IfSome (out.shown before.drive).contents IsBlank
    → creating.CrashesSafely (create_sense out) (create_parts old before) (create_parts new after)

-- the text is a site's, and the disk blank
pub record CanCreate {S K D C : Type 0} (out : Outside S K D C) (rig : Rig S K D C) : Type 0 where
  pub parts : IsCreateRig rig
  pub text : List ℕ
  pub told : out.left parts.site ≡ Some text
  pub site : Site
  pub said : SaysSite text site
  pub contents : List ℕ
  pub there : (out.shown parts.drive).contents ≡ Some contents
  pub blank : IsBlank contents

-- `run`

abbrev pub IsRunRig : {S K D C : Type 0} → Rig S K D C → Type 0
IsRunRig rig = RunRig rig.texts.items rig.outs.items rig.disk rig.clock

-- what is seen of the parts of `run`
abbrev pub run_sense : {S K D C : Type 0} → Outside S K D C → running.Meanings S K D C
run_sense out = record {
  left = out.left;
  source_faults = out.source_faults;
  shown = out.shown;
  readings = out.readings;
  clock_faults = out.clock_faults;
  written = out.written;
  sink_faults = out.sink_faults;
}

abbrev pub run_parts : {S K D C : Type 0} → (rig : Rig S K D C) → IsRunRig rig → running.Parts S K D C
run_parts rig parts = record { site = parts.site; lane = parts.lane; disk = parts.drive; clock = parts.watch; replies = parts.replies }

abbrev pub RunsOver : {S K D C : Type 0} → Outside S K D C → Rig S K D C → Rig S K D C → ℕ → Type 0
RunsOver out old new status =
    (before : IsRunRig old) → (after : IsRunRig new)
    → running.Ran (run_sense out) (run_parts old before) (run_parts new after)
    (out.written old.out) (out.written new.out) (out.sink_faults old.out) (out.sink_faults new.out) status

-- nothing is refused as a whole: neither text, and the disk keeps a history
pub record CanRun {S K D C : Type 0} (out : Outside S K D C) (rig : Rig S K D C) : Type 0 where
  pub parts : IsRunRig rig
  pub site_text : List ℕ
  pub site_told : out.left parts.site ≡ Some site_text
  pub lane_text : List ℕ
  pub lane_told : out.left parts.lane ≡ Some lane_text
  pub contents : List ℕ
  pub there : (out.shown parts.drive).contents ≡ Some contents
  pub servable : running.IsServable site_text lane_text contents

-- `extract`

abbrev pub IsExtractRig : {S K D C : Type 0} → Rig S K D C → Type 0
IsExtractRig rig = ExtractRig rig.texts.items rig.outs.items rig.disk rig.clock

-- what is seen of the parts of `extract`
abbrev pub extract_sense : {S K D C : Type 0} → Outside S K D C → extracting.Meanings S K D C
extract_sense out = record {
  left = out.left;
  source_faults = out.source_faults;
  shown = out.shown;
  readings = out.readings;
  clock_faults = out.clock_faults;
  written = out.written;
  sink_faults = out.sink_faults;
}

abbrev pub extract_parts : {S K D C : Type 0} → (rig : Rig S K D C) → IsExtractRig rig → extracting.Parts S K D C
extract_parts rig parts = record { site = parts.site; disk = parts.drive; clock = parts.watch; file = parts.file }

abbrev pub ExtractsOver : {S K D C : Type 0} → Period → Outside S K D C → Rig S K D C → Rig S K D C → ℕ → Type 0
ExtractsOver period out old new status =
    (before : IsExtractRig old) → (after : IsExtractRig new)
    → extracting.Extracted (extract_sense out) period.from period.to (extract_parts old before) (extract_parts new after)
    (out.written old.out) (out.written new.out) (out.sink_faults old.out) (out.sink_faults new.out) status

-- the text is a site's, and the disk keeps a history
pub record CanExtract {S K D C : Type 0} (out : Outside S K D C) (rig : Rig S K D C) : Type 0 where
  pub parts : IsExtractRig rig
  pub text : List ℕ
  pub told : out.left parts.site ≡ Some text
  pub site : Site
  pub said : SaysSite text site
  pub contents : List ℕ
  pub there : (out.shown parts.drive).contents ≡ Some contents
  pub history : List Entry
  pub keeps : IsLedgerOf contents history

-- `receipt`

abbrev pub IsReceiptRig : {S K D C : Type 0} → Rig S K D C → Type 0
IsReceiptRig rig = ReceiptRig rig.texts.items rig.outs.items rig.disk rig.clock

abbrev pub receipt_sense : {S K D C : Type 0} → Outside S K D C → opening.Meanings S D
receipt_sense out = record { left = out.left; source_faults = out.source_faults; shown = out.shown }

abbrev pub receipt_inputs : {S K D C : Type 0} → (rig : Rig S K D C) → IsReceiptRig rig → opening.Inputs S D
receipt_inputs rig parts = record { site = parts.site; disk = parts.drive }

abbrev pub AnswersOver : {S K D C : Type 0} → ℕ → Outside S K D C → Rig S K D C → Rig S K D C → ℕ → Type 0
AnswersOver nsr out old new status =
    (before : IsReceiptRig old) → (after : IsReceiptRig new)
    → Answered (receipt_sense out) nsr (receipt_inputs old before) (receipt_inputs new after)
    (out.written old.out) (out.written new.out) (out.sink_faults old.out) (out.sink_faults new.out) status

-- the text is a site's, and the disk keeps a history with a clocking of this number
pub record CanAnswer {S K D C : Type 0} (nsr : ℕ) (out : Outside S K D C) (rig : Rig S K D C) : Type 0 where
  pub parts : IsReceiptRig rig
  pub text : List ℕ
  pub told : out.left parts.site ≡ Some text
  pub site : Site
  pub said : SaysSite text site
  pub contents : List ℕ
  pub there : (out.shown parts.drive).contents ≡ Some contents
  pub history : List Entry
  pub keeps : IsLedgerOf contents history
  pub entry : Entry
  pub numbered : IsNumbered history nsr entry
  pub clocking : IsClocking entry.body

-- `drill`

abbrev pub IsDrillRig : {S K D C : Type 0} → Rig S K D C → Type 0
IsDrillRig rig = DrillRig rig.texts.items rig.outs.items rig.disk rig.clock

-- The schedule was played; or memory was short before a line was read.
abbrev pub DrillsOver : {S K D C : Type 0} → Outside S K D C → Rig S K D C → Rig S K D C → ℕ → Type 0
DrillsOver out old new status =
    (before : IsDrillRig old) → (after : IsDrillRig new)
    → Drills out.left (fresh before.schedule) (out.written old.out) (out.written new.out) (out.sink_faults old.out) (out.sink_faults new.out) status
    ⊎ BeginsNot before.schedule after.schedule (out.written old.out) (out.written new.out) (Rose (out.sink_faults old.out) (out.sink_faults new.out)) status

-- no line of the schedule is refused
pub record CanDrill {S K D C : Type 0} (out : Outside S K D C) (rig : Rig S K D C) : Type 0 where
  pub parts : IsDrillRig rig
  pub text : List ℕ
  pub told : out.left parts.schedule ≡ Some text
  pub playable : CanPlay text
