-- What `extract` leaves: this project's own. What is said of a text, of contents or of readings holds where they are told.
use Rattle.std.specs.Prelude.{◌≡◌, ◌⊎◌, ℕ, List, [], IsSome, Option, None, Result, Ok, Err}
use Rattle.std.specs.Io.KnownBytes.{append_known}
use Rattle.rep_io.specs.Causes.{Rose}
use Rattle.rep_disk.specs.Disk.{Shown}
use Rattle.rep_wire.specs.declared.request.Entry.{Entry}
use Rattle.rep_core.specs.History.{days_of}
use Rattle.rep_site.specs.declared.site.Site.{Site}
use Rattle.afd_extract.specs.Period.{IsPeriod, Range}
use Rattle.rep_store.specs.Extracting.{IsPutOf, IsPutOfLines}
use Rattle.rep_store.specs.Steps.{Ticks}
use Rattle.rep_store.specs.declared.error.ExtractFail.{ExtractFail}
use Rattle.rep_store.specs.declared.error.ExtractFail.TheVariants as fail
use Rattle.rep_report.specs.Saying.{SaysLine, Concludes, status_of as ending_status}
use Rattle.rep_report.specs.declared.ending.Ending.{Ending}
use Rattle.rep_report.specs.declared.ending.Ending.TheVariants.{AllAnswered, SomeRefused, SourceFault, SinkFault, DeviceFault, ClockFault, OutOfMemory, InputLimit}
use Rattle.rep_run.specs.Creating.{status_of, last_text}
use Rattle.rep_run.specs.declared.stopping.Stopping.{Stopping}
use Rattle.rep_query.specs.Lines.{extracted_text, numbers_of}
use Rattle.rep_query.specs.Opening as opening
use Rattle.rep_query.specs.Opening.{Inputs, HasSite, Opens, StopsOpening}

-- what a call is handed, and what it hands back
pub record Parts (S K D C : Type 0) : Type 0 where
  pub site : S
  pub disk : D
  pub clock : C
  pub file : K

-- the meanings of the parts
pub record Meanings (S K D C : Type 0) : Type 1 where
  pub left : S → Option (List ℕ)
  pub source_faults : S → ℕ
  pub shown : D → Shown
  pub readings : C → Option (List ℕ)
  pub clock_faults : C → ℕ
  pub written : K → Option (List ℕ)
  pub sink_faults : K → ℕ

abbrev pub inputs_of : {S K D C : Type 0} → Parts S K D C → Inputs S D
inputs_of parts = record { site = parts.site; disk = parts.disk }

abbrev pub input_meanings : {S K D C : Type 0} → Meanings S K D C → opening.Meanings S D
input_meanings m = record { left = m.left; source_faults = m.source_faults; shown = m.shown }

-- The AFD of the period at a reading of the clock was written, of the history that the disk keeps, or a front of it, by the
-- result; the range is that of its numbers.
pub record WritesFile {S K D C : Type 0} (m : Meanings S K D C) (from to : ℕ) (old new : Parts S K D C) (range : Range) (result : Result ℕ ExtractFail) : Type 0 where
  pub site : Site
  pub history : List Entry
  pub opens : Opens (input_meanings m) (inputs_of old) (inputs_of new) site history
  pub minute : ℕ
  pub ticks : Ticks m.readings m.clock_faults minute old.clock new.clock
  pub period : IsPeriod (days_of history) from to range
  pub put : List ℕ
  pub appended : m.written new.file ≡ append_known (m.written old.file) put
  pub of_lines : IsPutOfLines site history None from to minute put result
  pub is_put : IsSome (m.shown old.disk).contents → IsPutOf site history None from to minute put result

-- the clock failed, and nothing was written
pub record MissesTime {S K D C : Type 0} (m : Meanings S K D C) (old new : Parts S K D C) : Type 0 where
  pub site : Site
  pub history : List Entry
  pub opens : Opens (input_meanings m) (inputs_of old) (inputs_of new) site history
  pub cause : Rose (m.clock_faults old.clock) (m.clock_faults new.clock)
  pub readings : m.readings new.clock ≡ m.readings old.clock
  pub file : new.file ≡ old.file

-- what is left, by how the command ends but for its output, and the line that it says of it
abbrev pub Leaves : {S K D C : Type 0} → Meanings S K D C → ℕ → ℕ → Parts S K D C → Parts S K D C → List ℕ → Ending → Type 0
Leaves m from to old new counts AllAnswered =
    (range : Range) × (size : ℕ) × WritesFile m from to old new range (Ok size)
    × (counts ≡ extracted_text (numbers_of range).0 (numbers_of range).1 size)
Leaves m from to old new counts SinkFault =
    (range : Range) × WritesFile m from to old new range (Err fail.SinkFault)
    × Rose (m.sink_faults old.file) (m.sink_faults new.file) × (counts ≡ [])
Leaves m from to old new counts DeviceFault =
    (range : Range) × WritesFile m from to old new range (Err fail.DeviceFault)
    × Rose (m.shown old.disk).faults (m.shown new.disk).faults × (counts ≡ [])
Leaves m from to old new counts ClockFault = MissesTime m old new × (counts ≡ [])
Leaves m from to old new counts SomeRefused = ⊥
Leaves m from to old new counts SourceFault = ⊥
Leaves m from to old new counts OutOfMemory = ⊥
Leaves m from to old new counts InputLimit = ⊥

-- The journal wasn't opened: clock and file are as they were, and the reason is said.
pub record StopsEarly {S K D C : Type 0} (m : Meanings S K D C) (old new : Parts S K D C) (out_old out_new : Option (List ℕ)) (before now status : ℕ) : Type 0 where
  pub stopping : Stopping
  pub status_is : status ≡ status_of stopping
  pub stops : StopsOpening (input_meanings m) (inputs_of old) (inputs_of new) stopping
  pub clock : new.clock ≡ old.clock
  pub file : new.file ≡ old.file
  pub says : SaysLine (last_text stopping) out_old out_new (Rose before now)

-- The journal was opened: what was left, and what was said of it.
pub record Writes {S K D C : Type 0} (m : Meanings S K D C) (from to : ℕ) (old new : Parts S K D C) (out_old out_new : Option (List ℕ)) (before now status : ℕ) : Type 0 where
  pub due : Ending
  pub counts : List ℕ
  pub leaves : Leaves m from to old new counts due
  pub told : Ending
  pub concludes : Concludes due counts out_old out_new before now told
  pub status_is : status ≡ ending_status told

-- A whole call of `extract`: what it left, what it said and its status.
abbrev pub Extracted : {S K D C : Type 0} → Meanings S K D C → ℕ → ℕ → Parts S K D C → Parts S K D C → Option (List ℕ) → Option (List ℕ) → ℕ → ℕ → ℕ → Type 0
Extracted m from to old new out_old out_new before now status =
    StopsEarly m old new out_old out_new before now status ⊎ Writes m from to old new out_old out_new before now status
