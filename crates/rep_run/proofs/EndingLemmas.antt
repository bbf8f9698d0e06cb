-- why a lane that was served ended so
use Rattle.std.proofs.Common.{◌≡◌, ℕ, suc, ◌<◌, ◌≤◌, ◌⊎◌, inl, inr, List, ◌++◌, length, Option, Some, refl, sym, ap, subst, ◌∙◌, arith}
use Rattle.rep_io.specs.Causes.{Rose}
use Rattle.rep_io.specs.Lines.{longest_text}
use Rattle.rep_report.specs.Saying.{Tells, status_of as ending_status}
use Rattle.rep_report.specs.declared.ending.Ending.{Ending}
use Rattle.rep_report.specs.declared.ending.Ending.TheVariants as ending
use Rattle.rep_lane.specs.Answers.{LineAnswer, replies_from}
use Rattle.rep_lane.specs.Lane.{EndsText}
use Rattle.rep_lane.specs.declared.lane.End.{End}
use Rattle.rep_lane.specs.declared.lane.End.TheVariants.{Done, SourceFault, InputLimit, SinkFault, Stopped, DeviceFault, ClockFault, OutOfMemory}
use Rattle.rep_run.specs.Running.{Meanings, Parts, EndsAs, LeavesStore, ServesLane, TakesLane, first_line}
use Rattle.rep_run.proofs.Known.{use_some}

-- the ending of a status
pub told_4 : (told : Ending) → ending_status told ≡ 4 → told ≡ ending.SourceFault
told_4 ending.AllAnswered is = absurd (omega arith)
told_4 ending.SomeRefused is = absurd (omega arith)
told_4 ending.SourceFault is = refl
told_4 ending.SinkFault is = absurd (omega arith)
told_4 ending.DeviceFault is = absurd (omega arith)
told_4 ending.ClockFault is = absurd (omega arith)
told_4 ending.OutOfMemory is = absurd (omega arith)
told_4 ending.InputLimit is = absurd (omega arith)

pub told_5 : (told : Ending) → ending_status told ≡ 5 → told ≡ ending.SinkFault
told_5 ending.AllAnswered is = absurd (omega arith)
told_5 ending.SomeRefused is = absurd (omega arith)
told_5 ending.SourceFault is = absurd (omega arith)
told_5 ending.SinkFault is = refl
told_5 ending.DeviceFault is = absurd (omega arith)
told_5 ending.ClockFault is = absurd (omega arith)
told_5 ending.OutOfMemory is = absurd (omega arith)
told_5 ending.InputLimit is = absurd (omega arith)

pub told_6 : (told : Ending) → ending_status told ≡ 6 → told ≡ ending.DeviceFault
told_6 ending.AllAnswered is = absurd (omega arith)
told_6 ending.SomeRefused is = absurd (omega arith)
told_6 ending.SourceFault is = absurd (omega arith)
told_6 ending.SinkFault is = absurd (omega arith)
told_6 ending.DeviceFault is = refl
told_6 ending.ClockFault is = absurd (omega arith)
told_6 ending.OutOfMemory is = absurd (omega arith)
told_6 ending.InputLimit is = absurd (omega arith)

pub told_7 : (told : Ending) → ending_status told ≡ 7 → told ≡ ending.ClockFault
told_7 ending.AllAnswered is = absurd (omega arith)
told_7 ending.SomeRefused is = absurd (omega arith)
told_7 ending.SourceFault is = absurd (omega arith)
told_7 ending.SinkFault is = absurd (omega arith)
told_7 ending.DeviceFault is = absurd (omega arith)
told_7 ending.ClockFault is = refl
told_7 ending.OutOfMemory is = absurd (omega arith)
told_7 ending.InputLimit is = absurd (omega arith)

-- the lane's end of an ending
ended_source : (answers : List LineAnswer) (ended : End) → EndsAs answers ended ending.SourceFault → ended ≡ SourceFault
ended_source answers Done ends = absurd ends
ended_source answers SourceFault ends = refl
ended_source answers InputLimit ends = absurd cc
ended_source answers SinkFault ends = absurd cc
ended_source answers Stopped ends = absurd ends
ended_source answers DeviceFault ends = absurd cc
ended_source answers ClockFault ends = absurd cc
ended_source answers OutOfMemory ends = absurd cc

ended_sink : (answers : List LineAnswer) (ended : End) → EndsAs answers ended ending.SinkFault → ended ≡ SinkFault
ended_sink answers Done ends = absurd ends
ended_sink answers SourceFault ends = absurd cc
ended_sink answers InputLimit ends = absurd cc
ended_sink answers SinkFault ends = refl
ended_sink answers Stopped ends = absurd ends
ended_sink answers DeviceFault ends = absurd cc
ended_sink answers ClockFault ends = absurd cc
ended_sink answers OutOfMemory ends = absurd cc

ended_device : (answers : List LineAnswer) (ended : End) → EndsAs answers ended ending.DeviceFault → ended ≡ DeviceFault
ended_device answers Done ends = absurd ends
ended_device answers SourceFault ends = absurd cc
ended_device answers InputLimit ends = absurd cc
ended_device answers SinkFault ends = absurd cc
ended_device answers Stopped ends = absurd ends
ended_device answers DeviceFault ends = refl
ended_device answers ClockFault ends = absurd cc
ended_device answers OutOfMemory ends = absurd cc

ended_clock : (answers : List LineAnswer) (ended : End) → EndsAs answers ended ending.ClockFault → ended ≡ ClockFault
ended_clock answers Done ends = absurd ends
ended_clock answers SourceFault ends = absurd cc
ended_clock answers InputLimit ends = absurd cc
ended_clock answers SinkFault ends = absurd cc
ended_clock answers Stopped ends = absurd ends
ended_clock answers DeviceFault ends = absurd cc
ended_clock answers ClockFault ends = refl
ended_clock answers OutOfMemory ends = absurd cc

ended_limit : (answers : List LineAnswer) (ended : End) → EndsAs answers ended ending.InputLimit → ended ≡ InputLimit
ended_limit answers Done ends = absurd ends
ended_limit answers SourceFault ends = absurd cc
ended_limit answers InputLimit ends = refl
ended_limit answers SinkFault ends = absurd cc
ended_limit answers Stopped ends = absurd ends
ended_limit answers DeviceFault ends = absurd cc
ended_limit answers ClockFault ends = absurd cc
ended_limit answers OutOfMemory ends = absurd cc

-- an ending that is no fault of the output was due
due_told : (due told other : Ending) (put counts : List ℕ) (Failed : Type 0) → Tells due put counts Failed told → told ≡ other → (other ≡ ending.SinkFault → ⊥) → due ≡ other
due_told due told other put counts Failed (inl same) is kept = sym same ∙ is
due_told due told other put counts Failed (inr t) is kept = absurd (kept (sym is ∙ t.0))

module _ {S K D C : Type 0} (m : Meanings S K D C) (old new : Parts S K D C) (out_old out_new : Option (List ℕ)) (before now : ℕ) (status : ℕ)
    (s : ServesLane m old new out_old out_new before now status) where
  ended_by : (other : Ending) (end : End) → s.told ≡ other → (other ≡ ending.SinkFault → ⊥) → (EndsAs s.answers s.ended other → s.ended ≡ end) → s.ended ≡ end
  ended_by other end is kept ends =
      ends (subst (λ (e : Ending). EndsAs s.answers s.ended e) (due_told s.due s.told other s.concludes.put _ _ s.concludes.told is kept) s.due_is)

  leaves_by : (end : End) → s.ended ≡ end → LeavesStore m old new s.site s.head (replies_from first_line s.answers) s.whole s.says.next s.next s.given s.before s.after end
  leaves_by end is = subst (λ (e : End). LeavesStore m old new s.site s.head (replies_from first_line s.answers) s.whole s.says.next s.next s.given s.before s.after e) is s.leaves

  pub source_cause : s.told ≡ ending.SourceFault → Rose (m.source_faults old.lane) (m.source_faults new.lane)
  source_cause is = (leaves_by SourceFault (ended_by ending.SourceFault SourceFault is (λ never. absurd cc) (ended_source s.answers s.ended))).3

  pub sink_cause : s.told ≡ ending.SinkFault → Rose (m.sink_faults old.replies) (m.sink_faults new.replies) ⊎ Rose before now
  sink_cause is = elim s.concludes.told [
    | inl same ↦ inl (leaves_by SinkFault (ended_sink s.answers s.ended (subst (λ (e : Ending). EndsAs s.answers s.ended e) (sym same ∙ is) s.due_is))).1
    | inr t ↦
        let rose : Rose before s.concludes.middle = t.2 in
        let until = s.concludes.until in
        inr (omega arith)
  ]

  pub device_cause : s.told ≡ ending.DeviceFault → Rose (m.shown old.disk).faults (m.shown new.disk).faults
  device_cause is = (leaves_by DeviceFault (ended_by ending.DeviceFault DeviceFault is (λ never. absurd cc) (ended_device s.answers s.ended))).1

  pub clock_cause : s.told ≡ ending.ClockFault → Rose (m.clock_faults old.clock) (m.clock_faults new.clock)
  clock_cause is = (leaves_by ClockFault (ended_by ending.ClockFault ClockFault is (λ never. absurd cc) (ended_clock s.answers s.ended))).3

  limit_cause : s.told ≡ ending.InputLimit → (text : List ℕ) → m.left old.lane ≡ Some text → longest_text < length text
  limit_cause is text told =
      let takes = use_some (λ t. TakesLane t s.head (s.lines ++ s.next) s.ended) (m.left old.lane) text told s.lane in
      (subst (λ (e : End). EndsText text (suc (length (s.lines ++ s.next))) takes.rest e) (ended_by ending.InputLimit InputLimit is (λ never. absurd cc) (ended_limit s.answers s.ended)) takes.ends).0

  pub source_of : status ≡ 4 → Rose (m.source_faults old.lane) (m.source_faults new.lane)
  source_of is = source_cause (told_4 s.told (sym s.status_is ∙ is))

  pub sink_of : status ≡ 5 → Rose (m.sink_faults old.replies) (m.sink_faults new.replies) ⊎ Rose before now
  sink_of is = sink_cause (told_5 s.told (sym s.status_is ∙ is))

  pub device_of : status ≡ 6 → Rose (m.shown old.disk).faults (m.shown new.disk).faults
  device_of is = device_cause (told_6 s.told (sym s.status_is ∙ is))

  pub clock_of : status ≡ 7 → Rose (m.clock_faults old.clock) (m.clock_faults new.clock)
  clock_of is = clock_cause (told_7 s.told (sym s.status_is ∙ is))

  module _ (lane_text : List ℕ) (told : m.left old.lane ≡ Some lane_text) (short : length lane_text ≤ longest_text)
      (no_lane : Rose (m.source_faults old.lane) (m.source_faults new.lane) → ⊥) (no_replies : Rose (m.sink_faults old.replies) (m.sink_faults new.replies) → ⊥)
      (no_out : Rose before now → ⊥) (no_disk : Rose (m.shown old.disk).faults (m.shown new.disk).faults → ⊥)
      (no_clock : Rose (m.clock_faults old.clock) (m.clock_faults new.clock) → ⊥) where
    complete_by : (other : Ending) → s.told ≡ other → (status ≡ 0) ⊎ (status ≡ 1) ⊎ (status ≡ 8)
    complete_by ending.AllAnswered is = inl (s.status_is ∙ ap ending_status is)
    complete_by ending.SomeRefused is = inr (inl (s.status_is ∙ ap ending_status is))
    complete_by ending.SourceFault is = absurd (no_lane (source_cause is))
    complete_by ending.SinkFault is = elim (sink_cause is) [ inl rose ↦ absurd (no_replies rose) | inr rose ↦ absurd (no_out rose) ]
    complete_by ending.DeviceFault is = absurd (no_disk (device_cause is))
    complete_by ending.ClockFault is = absurd (no_clock (clock_cause is))
    complete_by ending.OutOfMemory is = inr (inr (s.status_is ∙ ap ending_status is))
    complete_by ending.InputLimit is = let past = limit_cause is lane_text told in absurd (omega arith)

    pub complete_lane : (status ≡ 0) ⊎ (status ≡ 1) ⊎ (status ≡ 8)
    complete_lane = complete_by s.told refl
