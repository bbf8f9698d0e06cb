-- The recorder in memory over which `print` serves a lane: this project's own.
use Rattle.std.specs.Prelude.{◌≡◌, ℕ, ◌≤◌, ℤ, List, [], ◌∷◌, length, Option, Result, Ok, Err}
use Rattle.std.specs.Io.KnownBytes.{append_known}
use Rattle.rep_io.specs.Causes.{Rose}
use Rattle.rep_io.specs.Streams.{IsReading}
use Rattle.afd_records.specs.Record.{last_nsr}
use Rattle.rep_wire.specs.declared.request.Request.{Request}
use Rattle.rep_wire.specs.declared.request.Entry.{Entry}
use Rattle.rep_wire.specs.declared.reply.Reply.{Reply}
use Rattle.rep_core.specs.Verdict.{IsVerdict}
use Rattle.rep_core.specs.declared.verdict.Verdict.TheVariants.{Fresh}
use Rattle.rep_lane.specs.Desk.{Steps, steps_of}
use Rattle.rep_lane.specs.Answers.{Extracted}
use Rattle.rep_lane.specs.Serving.{ServesRequest}
use Rattle.rep_lane.specs.declared.desk.DeskFail.{DeskFail}
use Rattle.rep_lane.specs.declared.desk.DeskFail.TheVariants.{Stopped, DeviceFault, ClockFault, SinkFault, OutOfMemory}
use Rattle.rep_print.specs.Extraction.{IsExtraction, rules_at}
use Rattle.rep_print.specs.Writing.{HasEmployer}

pub record State (C : Type 0) : Type 0 where
  pub history : List Entry
  pub clock : C
  -- how many minutes the recorder's clock is ahead of UTC
  pub zone : ℤ

-- the request was served, at a reading of the clock where it was recorded
pub record Served {C : Type 0} (readings : C → Option (List ℕ)) (faults : C → ℕ) (old : State C) (q : Request) (reply : Reply) (new : State C) : Type 0 where
  pub given : List ℕ
  pub readings_are : readings new.clock ≡ append_known (readings old.clock) given
  pub serves : ServesRequest (rules_at old.zone) old.history q given reply new.history
  pub zone : new.zone ≡ old.zone
  pub kept : faults new.clock ≡ faults old.clock

-- a request that is to be recorded wasn't, since the clock failed
pub record Untimed {C : Type 0} (readings : C → Option (List ℕ)) (faults : C → ℕ) (old : State C) (q : Request) (new : State C) : Type 0 where
  pub fresh : IsVerdict last_nsr old.history q Fresh
  pub history : new.history ≡ old.history
  pub zone : new.zone ≡ old.zone
  pub readings_are : readings new.clock ≡ readings old.clock
  pub later : faults old.clock ≤ faults new.clock
  pub cause : Rose (faults old.clock) (faults new.clock)

-- what asking for a request leaves
abbrev pub Asks : {C : Type 0} → (C → Option (List ℕ)) → (C → ℕ) → State C → Request → Result Reply DeskFail → State C → Type 0
Asks readings faults old q (Ok reply) new = Served readings faults old q reply new
Asks readings faults old q (Err ClockFault) new = Untimed readings faults old q new
Asks readings faults old q (Err OutOfMemory) new = IsVerdict last_nsr old.history q Fresh × (new ≡ old)
Asks readings faults old q (Err Stopped) new = ⊥
Asks readings faults old q (Err DeviceFault) new = ⊥
Asks readings faults old q (Err SinkFault) new = ⊥

-- the clock was read for an extraction, which is due by that reading; the history stays
pub record Takes {C : Type 0} (readings : C → Option (List ℕ)) (faults : C → ℕ) (old : State C) (from to : ℕ) (due : Extracted) (new : State C) : Type 0 where
  pub minute : ℕ
  pub is_reading : IsReading minute
  pub readings_are : readings new.clock ≡ append_known (readings old.clock) (minute ∷ [])
  pub history : new.history ≡ old.history
  pub zone : new.zone ≡ old.zone
  pub kept : faults new.clock ≡ faults old.clock
  pub front : due.front ≡ length old.history
  pub is_due : IsExtraction old.zone old.history from to minute due.size due.afd

-- the clock failed for an extraction
pub record MissesTime {C : Type 0} (readings : C → Option (List ℕ)) (faults : C → ℕ) (old new : State C) : Type 0 where
  pub history : new.history ≡ old.history
  pub zone : new.zone ≡ old.zone
  pub readings_are : readings new.clock ≡ readings old.clock
  pub later : faults old.clock ≤ faults new.clock
  pub cause : Rose (faults old.clock) (faults new.clock)

-- there is no employer's record that a head could name, and nothing changes
pub record LacksHead {C : Type 0} (old new : State C) : Type 0 where
  pub same : new ≡ old
  pub none : HasEmployer old.history → ⊥

-- what an extraction leaves; a desk without an employer's record is one that has stopped, which no lane behind line 2 meets
abbrev pub Extracts : {C : Type 0} → (C → Option (List ℕ)) → (C → ℕ) → State C → ℕ → ℕ → Extracted → Result (Unit {0}) DeskFail → State C → Type 0
Extracts readings faults old from to due (Ok done) new = Takes readings faults old from to due new
Extracts readings faults old from to due (Err SinkFault) new = Takes readings faults old from to due new
Extracts readings faults old from to due (Err ClockFault) new = MissesTime readings faults old new
Extracts readings faults old from to due (Err Stopped) new = LacksHead old new
Extracts readings faults old from to due (Err DeviceFault) new = ⊥
Extracts readings faults old from to due (Err OutOfMemory) new = ⊥

-- all entries are shown
abbrev pub Shows : {C : Type 0} → State C → ℕ → State C → Type 0
Shows old front new = (front ≡ length old.history) × (new ≡ old)

-- the steps of the recorder
abbrev pub steps_by : {C : Type 0} → (C → Option (List ℕ)) → (C → ℕ) → Steps (State C)
steps_by readings faults = steps_of (Asks readings faults) (Extracts readings faults) Shows
