-- What serving a lane over a store leaves, once both are open: this project's own.
use Rattle.std.specs.Prelude.{◌≡◌, ◌==◌, ℕ, ◌+◌, ◌≤◌, List, [], if◌then◌else◌, Option, Some, Ok}
use Rattle.rep_io.specs.Cutter.{Cutter}
use Rattle.rep_disk.specs.Disk.{IsAtRest}
use Rattle.rep_wire.specs.LaneGrammar.{IsLaneHead}
use Rattle.rep_wire.specs.declared.head.LaneHead.{LaneHead}
use Rattle.rep_site.specs.declared.site.Site.{Site}
use Rattle.rep_ledger.specs.Safety.{IsSafe}
use Rattle.rep_store.specs.State.{State}
use Rattle.rep_store.specs.Making.{Reopens}
use Rattle.rep_report.specs.Saying.{status_of as ending_status}
use Rattle.rep_report.specs.declared.ending.Ending.{Ending}
use Rattle.rep_report.specs.declared.ending.Ending.TheVariants as ending
use Rattle.rep_lane.specs.Head.{Heads}
use Rattle.rep_lane.specs.declared.lane.End.{End}
use Rattle.rep_lane.specs.declared.lane.End.TheVariants.{Done, SourceFault, InputLimit, SinkFault, Stopped, DeviceFault, ClockFault, OutOfMemory}
use Rattle.rep_run.specs.Running.{Meanings, Parts, HasSite, ServesLane}

-- how the command ends, by how the lane did and by how many requests were refused
abbrev pub ending_after : End → ℕ → Ending
ending_after Done refused = if refused == 0 then ending.AllAnswered else ending.SomeRefused
ending_after SourceFault refused = ending.SourceFault
ending_after InputLimit refused = ending.InputLimit
ending_after SinkFault refused = ending.SinkFault
ending_after Stopped refused = ending.DeviceFault
ending_after DeviceFault refused = ending.DeviceFault
ending_after ClockFault refused = ending.ClockFault
ending_after OutOfMemory refused = ending.OutOfMemory

-- what is left of all but the site's text
pub record Rest (S K D C : Type 0) : Type 0 where
  pub lane : S
  pub disk : D
  pub clock : C
  pub replies : K

-- Of what a call was handed, a site and the lane's head were read, and a store was found.
pub record Opens {S K D C : Type 0} (m : Meanings S K D C) (old : Parts S K D C) (site : Site) (head : LaneHead) (lines : Cutter S) (store : State D C) (replies : K) : Type 0 where
  pub has_site : HasSite m old site
  pub head_in_range : IsLaneHead head
  pub headed : (text : List ℕ) → m.left old.lane ≡ Some text → Heads m.left lines text (Ok head)
  pub lane_later : m.source_faults old.lane ≤ m.source_faults lines.source
  pub reopens : Reopens m.shown site old.disk old.clock store
  pub safe : IsSafe ((m.shown old.disk).moment + 2) store.history store.history [] (m.shown old.disk) (m.shown store.disk)
  pub safe_from_rest : IsAtRest (m.shown old.disk) → IsSafe (m.shown old.disk).moment store.history store.history [] (m.shown old.disk) (m.shown store.disk)
  pub same_replies : old.replies ≡ replies

-- whatever the call was handed of which that was opened, its lane was served
abbrev pub ServesStore : {S K D C : Type 0} → Meanings S K D C → LaneHead → Cutter S → State D C → K → Rest S K D C
    → Option (List ℕ) → Option (List ℕ) → ℕ → ℕ → Ending → Type 0
ServesStore {S} {K} {D} {C} m head lines store replies new out_old out_new before_out now_out told =
    (old : Parts S K D C) (site : Site) (site_text : S) → Opens m old site head lines store replies
    → ServesLane m old (record { site = site_text; lane = new.lane; disk = new.disk; clock = new.clock; replies = new.replies }) out_old out_new before_out now_out
    (ending_status told)
