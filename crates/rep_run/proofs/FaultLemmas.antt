-- no fault is passed over while a lane is served
use Rattle.std.proofs.Common.{◌≡◌, ◌≢◌, ℕ, ◌+◌, inl, inr, List, [], ◌∷◌, length, Option, refl, ap, ◌∙◌}
use Rattle.rep_disk.specs.Disk.{Shown}
use Rattle.rep_io.specs.Cutter.{Cutter}
use Rattle.rep_wire.specs.declared.head.LaneHead.{LaneHead}
use Rattle.rep_store.specs.State.{State}
use Rattle.rep_report.specs.Saying.{Tells}
use Rattle.rep_report.specs.declared.ending.Ending.{Ending}
use Rattle.rep_report.specs.declared.ending.Ending.TheVariants as ending
use Rattle.rep_lane.specs.Answers.{LineAnswer, replied, extracted, replies_from}
use Rattle.rep_lane.specs.Desk.{AnswersLine, AnswersLines}
use Rattle.rep_lane.specs.Lane.{EndsLane, Runs}
use Rattle.rep_lane.specs.declared.lane.End.{End}
use Rattle.rep_lane.specs.declared.lane.End.TheVariants.{Done, SourceFault, InputLimit, SinkFault, Stopped, DeviceFault, ClockFault, OutOfMemory}
use Rattle.rep_lane.specs.declared.lane.Tally.{Tally}
use Rattle.rep_run.specs.Serving.{ending_after}
use Rattle.rep_run.proofs.DeskLemmas.{store_steps}

-- how a command ends, where the lane ended so and the output's fault isn't told in its place
pub tells_end : (ended end : End) (refused : ℕ) (due told : Ending) (put counts : List ℕ) (Failed : Type 0) → due ≡ ending_after ended refused → Tells due put counts Failed told
    → told ≢ ending.SinkFault → ended ≡ end → told ≡ ending_after end refused
tells_end ended end refused due told put counts Failed due_is (inl same) uncut is = same ∙ due_is ∙ ap (λ (e : End). ending_after e refused) is
tells_end ended end refused due told put counts Failed due_is (inr t) uncut is = absurd (uncut t.0)

-- neither disk nor clock has failed
pub record FailsNoMore {D C : Type 0} (shown : D → Shown) (faults : C → ℕ) (old new : State D C) : Type 0 where
  pub disk : (shown new.disk).faults ≡ (shown old.disk).faults
  pub clock : faults new.clock ≡ faults old.clock

module _ {D C : Type 0} (shown : D → Shown) (readings : C → Option (List ℕ)) (faults : C → ℕ) (head : LaneHead) where
  same_fails_no_more : (old new : State D C) → new ≡ old → FailsNoMore shown faults old new
  same_fails_no_more old new same = record { disk = ap (λ (s : State D C). (shown s.disk).faults) same; clock = ap (λ (s : State D C). faults s.clock) same }

  line_fails_no_more : (line : List ℕ) (a : LineAnswer) (old new : State D C) → AnswersLine {Q = State D C} (store_steps shown readings faults) head old line a new → FailsNoMore shown faults old new
  line_fails_no_more line (replied a) old new (inl r) = elim r.asked.answered.served [
    | inl t ↦ record { disk = t.1.no_fault; clock = t.1.takes.clock.no_fault }
    | inr t ↦ record { disk = t.1.no_fault; clock = ap faults t.1.clock }
  ]
  line_fails_no_more line (replied a) old new (inr r) = same_fails_no_more old new r.shown.1
  line_fails_no_more line (extracted seq x) old new r =
      let takes = r.done.answered.takes in
      record { disk = takes.no_fault refl; clock = takes.clock.no_fault }

  lines_fail_no_more : (lines : List (List ℕ)) (answers : List LineAnswer) (old new : State D C) → AnswersLines {Q = State D C} (store_steps shown readings faults) head old lines answers new
      → FailsNoMore shown faults old new
  lines_fail_no_more [] [] old new same = same_fails_no_more old new same
  lines_fail_no_more (line ∷ lines) (a ∷ answers) old new t =
      let one = line_fails_no_more line a old t.0 t.1 in
      let rest = lines_fail_no_more lines answers t.0 new t.2 in
      record { disk = rest.disk ∙ one.disk; clock = rest.clock ∙ one.clock }
  lines_fail_no_more [] (a ∷ answers) old new t = absurd t
  lines_fail_no_more (line ∷ lines) [] old new t = absurd t

  disk_at_end : (number : ℕ) (old : State D C) (next : List (List ℕ)) (new : State D C) (replies : List (List ℕ)) (whole : ℕ) (put : List ℕ) (ended : End)
      → EndsLane {Q = State D C} (store_steps shown readings faults) head number old next new replies whole put ended → ended ≢ DeviceFault → (shown new.disk).faults ≡ (shown old.disk).faults
  disk_at_end number old next new replies whole put Done t other = ap (λ (s : State D C). (shown s.disk).faults) t.same
  disk_at_end number old next new replies whole put SourceFault t other = ap (λ (s : State D C). (shown s.disk).faults) t.same
  disk_at_end number old next new replies whole put InputLimit t other = ap (λ (s : State D C). (shown s.disk).faults) t.same
  disk_at_end number old next new replies whole put SinkFault (inl t) other = ap (λ (s : State D C). (shown s.disk).faults) t.same
  disk_at_end number old next new replies whole put SinkFault (inr t) other = elim t.fails [ inl f ↦ absurd f.failed.answered | inr f ↦ f.failed.answered.takes.no_fault refl ]
  disk_at_end number old next new replies whole put Stopped t other = elim t.fails [ inl f ↦ f.failed.answered.2.no_fault | inr f ↦ f.failed.answered.2.no_fault ]
  disk_at_end number old next new replies whole put DeviceFault t other = absurd (other refl)
  disk_at_end number old next new replies whole put ClockFault t other = elim t.fails [ inl f ↦ f.failed.answered.1.no_disk_fault | inr f ↦ f.failed.answered.no_disk_fault ]
  disk_at_end number old next new replies whole put OutOfMemory t other = elim t.fails [ inl f ↦ f.failed.answered.1.no_fault | inr f ↦ absurd f.failed.answered ]

  clock_at_end : (number : ℕ) (old : State D C) (next : List (List ℕ)) (new : State D C) (replies : List (List ℕ)) (whole : ℕ) (put : List ℕ) (ended : End)
      → EndsLane {Q = State D C} (store_steps shown readings faults) head number old next new replies whole put ended → ended ≢ ClockFault → faults new.clock ≡ faults old.clock
  clock_at_end number old next new replies whole put Done t other = ap (λ (s : State D C). faults s.clock) t.same
  clock_at_end number old next new replies whole put SourceFault t other = ap (λ (s : State D C). faults s.clock) t.same
  clock_at_end number old next new replies whole put InputLimit t other = ap (λ (s : State D C). faults s.clock) t.same
  clock_at_end number old next new replies whole put SinkFault (inl t) other = ap (λ (s : State D C). faults s.clock) t.same
  clock_at_end number old next new replies whole put SinkFault (inr t) other = elim t.fails [ inl f ↦ absurd f.failed.answered | inr f ↦ f.failed.answered.takes.clock.no_fault ]
  clock_at_end number old next new replies whole put Stopped t other = elim t.fails [ inl f ↦ ap faults f.failed.answered.2.clock | inr f ↦ ap faults f.failed.answered.2.clock ]
  clock_at_end number old next new replies whole put DeviceFault t other = elim t.fails [
    | inl f ↦ f.failed.answered.takes.clock.no_fault
    | inr f ↦ f.failed.answered.0.takes.clock.no_fault
  ]
  clock_at_end number old next new replies whole put ClockFault t other = absurd (other refl)
  clock_at_end number old next new replies whole put OutOfMemory t other = elim t.fails [ inl f ↦ ap faults f.failed.answered.1.clock | inr f ↦ absurd f.failed.answered ]

  module _ {S : Type 0} (left : S → Option (List ℕ)) (number : ℕ) (cutter : Cutter S) (first desk last : State D C) (out_old out_new : Option (List ℕ)) (tally : Tally) (ended : End)
      (runs : Runs {S = S} {Q = State D C} left (store_steps shown readings faults) head number cutter first desk out_old out_new tally ended) (same : last ≡ desk) where
    pub disk_fails_no_more : ended ≢ DeviceFault → (shown last.disk).faults ≡ (shown first.disk).faults
    disk_fails_no_more other =
        ap (λ (s : State D C). (shown s.disk).faults) same
        ∙ disk_at_end (number + length runs.answers) runs.desk runs.next desk (replies_from number runs.answers) runs.whole runs.says.next ended runs.ends other
        ∙ (lines_fail_no_more runs.lines runs.answers first runs.desk runs.answered).disk

    pub clock_fails_no_more : ended ≢ ClockFault → faults last.clock ≡ faults first.clock
    clock_fails_no_more other =
        ap (λ (s : State D C). faults s.clock) same
        ∙ clock_at_end (number + length runs.answers) runs.desk runs.next desk (replies_from number runs.answers) runs.whole runs.says.next ended runs.ends other
        ∙ (lines_fail_no_more runs.lines runs.answers first runs.desk runs.answered).clock
