-- a lane that was served over a store
use Rattle.std.proofs.Common.{◌≡◌, ◌==◌, ℕ, ℤ, suc, ◌+◌, ◌<◌, ◌≤◌, ◌⊎◌, inl, inr, Bool, true, false, List, [], ◌∷◌, ◌++◌, length, take, Option, Some, None, Ok, refl, sym, ap, subst, ◌∙◌, arith}
use Rattle.std.specs.Prelude.{IfSome, IsSome, if◌then◌else◌}
use Rattle.std.proofs.lemmas.List.{take_all, length-take-le}
use Rattle.std.proofs.lemmas.Bool.Decides.{nat_tests}
use Rattle.std.specs.List.{concat}
use Rattle.std.specs.Io.KnownBytes.{append_known}
use Rattle.rep_io.specs.Causes.{Rose}
use Rattle.rep_io.specs.Cutter.{Cutter}
use Rattle.rep_fields.specs.Moment.{moment_at}
use Rattle.rep_disk.specs.Disk.{Shown, IsAtRest, last_moment}
use Rattle.rep_wire.specs.LaneGrammar.{operator}
use Rattle.rep_wire.specs.declared.head.LaneHead.{LaneHead}
use Rattle.rep_wire.specs.declared.request.Entry.{Entry}
use Rattle.rep_core.specs.Verdict.{IsVerdict}
use Rattle.rep_core.specs.Answered.{recorded_after}
use Rattle.rep_core.specs.declared.verdict.Verdict.TheVariants.{Fresh}
use Rattle.rep_ledger.specs.Ledger.{IsLedgerOf}
use Rattle.rep_ledger.specs.Safety.{IsFrontOf, IsSafe, Secures}
use Rattle.rep_ledger.specs.Leaving.{ChangesAtEnd, GrowsTo}
use Rattle.rep_ledger.proofs.DiskSteps.{IsAtRest-read, IsAtRest-rests, IsRead-refl}
use Rattle.rep_ledger.proofs.SafetyLemmas.{IsFrontOf-refl}
use Rattle.rep_journal.specs.State.{IsRead}
use Rattle.rep_site.specs.declared.site.Site.{Site}
use Rattle.rep_store.specs.State.{State}
use Rattle.rep_store.specs.Steps.{IsLeftAt, MissesTime, recorded_at}
use Rattle.rep_report.specs.Report.{run_text}
use Rattle.rep_report.specs.Saying.{Concludes, status_of as ending_status}
use Rattle.rep_report.specs.declared.ending.Ending.{Ending}
use Rattle.rep_report.specs.declared.ending.Ending.TheVariants as ending
use Rattle.rep_report.proofs.KnownBytes.{append_known-append}
use Rattle.rep_report.proofs.SayingLemmas.{rose-wider}
use Rattle.rep_lane.specs.Head.{Heads}
use Rattle.rep_lane.specs.Answers.{LineAnswer, replies_from, receipts_in, refusals_in}
use Rattle.rep_lane.specs.Desk.{Steps, AnswersLines}
use Rattle.rep_lane.specs.Line.{FailsToAnswer, FailsToExtract}
use Rattle.rep_lane.specs.Serving.{HasServed}
use Rattle.rep_lane.specs.Lane.{Runs, EndsAtDesk, EndsLane, EndsText}
use Rattle.rep_lane.specs.declared.desk.DeskFail.{DeskFail}
use Rattle.rep_lane.specs.declared.desk.DeskFail.TheVariants as fail
use Rattle.rep_lane.specs.declared.lane.End.{End}
use Rattle.rep_lane.specs.declared.lane.End.TheVariants.{Done, SourceFault, InputLimit, SinkFault, Stopped, DeviceFault, ClockFault, OutOfMemory}
use Rattle.rep_lane.specs.declared.lane.Tally.{Tally}
use Rattle.rep_lane.proofs.AnswerLemmas.{replies_from-length}
use Rattle.rep_lane.proofs.ServingLemmas.{lanes_are_served}
use Rattle.rep_run.specs.Extraction.{IsExtractOf}
use Rattle.rep_run.specs.Desk.{CutsExtract}
use Rattle.rep_run.specs.Running.{Meanings, Parts, KeepsHistory, FailsToPut, CutsExtraction, AllWritten, IsDue, OrdersExtraction, LeavesStore, TakesLane, EndsAs, counts_text, first_line, receipts_at, lane_rules, ServesLane}
use Rattle.rep_run.specs.Serving.{Opens, ending_after}
use Rattle.rep_run.proofs.Known.{Changes-behind, Changes-map, Changes-stay, Changes-same, Changes-through, told_on}
use Rattle.rep_run.proofs.DeskLemmas.{IsOpen, store_serves, store_steps}
use Rattle.rep_run.proofs.StepLemmas.{Secured, Stands, secured_on, recorded_front, grows_read, calls_later, lines_stand, sure_receipts}

-- how the command ends
by_test : (answers : List LineAnswer) (b : Bool) → (b ≡ true → refusals_in answers ≡ 0) → (b ≡ false → 0 < refusals_in answers)
    → EndsAs answers Done (if b then ending.AllAnswered else ending.SomeRefused)
by_test answers true none some = none refl
by_test answers false none some = some refl

none_refused : (n : ℕ) → (n == 0) ≡ true → n ≡ 0
none_refused n test = grind (arith, nat_tests)

some_refused : (n : ℕ) → (n == 0) ≡ false → 0 < n
some_refused n test = grind (arith, nat_tests)

pub ends_as : (ended : End) (answers : List LineAnswer) (refused : ℕ) → (ended ≡ Done → refused ≡ refusals_in answers) → (ended ≡ Stopped → ⊥) → EndsAs answers ended (ending_after ended refused)
ends_as Done answers refused counted going =
    by_test answers (refused == 0) (λ test. sym (counted refl) ∙ none_refused refused test)
    (λ test. let some = some_refused refused test in let is = counted refl in omega arith)
ends_as SourceFault answers refused counted going = refl
ends_as InputLimit answers refused counted going = refl
ends_as SinkFault answers refused counted going = refl
ends_as Stopped answers refused counted going = absurd (going refl)
ends_as DeviceFault answers refused counted going = refl
ends_as ClockFault answers refused counted going = refl
ends_as OutOfMemory answers refused counted going = refl

-- how many replies stand wholly
pub whole_within : {Q : Type 0} (steps : Steps Q) (head : LaneHead) (number : ℕ) (old : Q) (next : List (List ℕ)) (new : Q) (replies : List (List ℕ)) (whole : ℕ) (put : List ℕ)
    (ended : End) → EndsLane steps head number old next new replies whole put ended → whole ≤ length replies
whole_within steps head number old next new replies whole put Done t = let all = t.all in omega arith
whole_within steps head number old next new replies whole put SourceFault t = let all = t.all in omega arith
whole_within steps head number old next new replies whole put InputLimit t = let all = t.all in omega arith
whole_within steps head number old next new replies whole put SinkFault (inl t) = let all = t.all_before in omega arith
whole_within steps head number old next new replies whole put SinkFault (inr t) = let all = t.all in omega arith
whole_within steps head number old next new replies whole put Stopped t = let all = t.all in omega arith
whole_within steps head number old next new replies whole put DeviceFault t = let all = t.all in omega arith
whole_within steps head number old next new replies whole put ClockFault t = let all = t.all in omega arith
whole_within steps head number old next new replies whole put OutOfMemory t = let all = t.all in omega arith

done_whole : {Q : Type 0} (steps : Steps Q) (head : LaneHead) (number : ℕ) (old : Q) (next : List (List ℕ)) (new : Q) (replies : List (List ℕ)) (whole : ℕ) (put : List ℕ)
    (ended : End) → EndsLane steps head number old next new replies whole put ended → ended ≡ Done → whole ≡ length replies
done_whole steps head number old next new replies whole put ended t is =
    (subst (λ (e : End). EndsLane steps head number old next new replies whole put e) is t).all

-- the lane that the text tells
pick : {S Q : Type 0} (left : S → Option (List ℕ)) (steps : Steps Q) (head : LaneHead) (number : ℕ) (cutter : Cutter S) (old new : Q) (out_old out_new : Option (List ℕ)) (tally : Tally) (ended : End)
    (runs : Runs left steps head number cutter old new out_old out_new tally ended) (lane : S) (o : Option (List ℕ)) → left lane ≡ o
    → ((text : List ℕ) → left lane ≡ Some text → Heads left cutter text (Ok head))
    → (lines : List (List ℕ)) × AnswersLines steps head old lines runs.answers runs.desk × IfSome o (λ text. TakesLane text head (lines ++ runs.next) ended)
pick left steps head number cutter old new out_old out_new tally ended runs lane None told headed = (runs.lines, runs.answered, tt)
pick left steps head number cutter old new out_old out_new tally ended runs lane (Some text) told headed =
    let h = headed text told in
    let t = runs.text text (h.0 ∷ []) h.2 in
    let count : 1 + length (t.lines ++ runs.next) ≡ suc (length (t.lines ++ runs.next)) = omega arith in (
      t.lines,
      t.answered,
      record {
        first = h.0;
        headed = h.1;
        rest = t.takes.rest;
        lines = t.takes.lines;
        ends = subst (λ (n : ℕ). EndsText text n t.takes.rest ended) count t.takes.ends;
      },
    )

-- the parts that a store hands back
abbrev pub parts_of : {S K D C : Type 0} → S → S → K → State D C → Parts S K D C
parts_of site lane replies s = record { site = site; lane = lane; disk = s.disk; clock = s.clock; replies = replies }

-- what is left by the lane's end
pub record Left {S K D C : Type 0} (m : Meanings S K D C) (Rested : ℕ → Type 0) (old new : Parts S K D C) (site : Site) (head : LaneHead) (replies : List (List ℕ)) (whole : ℕ) (put : List ℕ)
    (next : List (List ℕ)) (given : List ℕ) (before after : List Entry) (answers : List LineAnswer) (ended : End) : Type 0 where
  pub leaves : LeavesStore m old new site head replies whole put next given before after ended
  pub reached : List Entry
  pub reached_is : (reached ≡ after) ⊎ ((ended ≡ DeviceFault) × (fails : FailsToPut m old new site head next given before after)
      × (reached ≡ recorded_after after fails.request (moment_at fails.minute site.offset)))
  pub secured : (rested : ℕ) → Rested rested → IsSome (m.shown old.disk).contents → (m.shown new.disk).moment < last_moment
      → Secured (m.shown old.disk) rested before reached answers (m.shown new.disk)

module _ {S K D C : Type 0} (m : Meanings S K D C) (old : Parts S K D C) (site_text lane : S) (replies : K) (site : Site) (head : LaneHead) (first desk last : State D C)
    (lines next : List (List ℕ)) (answers : List LineAnswer) (said : List (List ℕ)) (whole : ℕ) (put : List ℕ) (Rested : ℕ → Type 0) (same_clock : first.clock ≡ old.clock)
    (served : HasServed {Q = State D C} (lane_rules m old site) (λ (s : State D C). s.history) (λ (s : State D C). m.readings s.clock)
    (IsOpen m.shown (IsSome (m.shown old.disk).contents) site) head first lines answers desk)
    (stands : Stands m.shown m.clock_faults (m.shown old.disk) Rested first.history (m.clock_faults old.clock) answers desk) where
  readings_are : m.readings desk.clock ≡ append_known (m.readings old.clock) served.given
  readings_are = served.readings_are ∙ ap (λ (k : C). append_known (m.readings k) served.given) same_clock

  -- the disk was read at most behind the answers
  left_kept : (l : State D C) (ended : End) → m.readings l.clock ≡ m.readings desk.clock → IsRead (m.shown desk.disk) (m.shown l.disk)
      → (KeepsHistory m old (parts_of site_text lane replies l) served.given first.history desk.history → LeavesStore m old (parts_of site_text lane replies l) site head said whole put next served.given first.history desk.history ended)
      → ((rested : ℕ) → Rested rested → IsSome (m.shown old.disk).contents → (m.shown l.disk).moment < last_moment
      → Secured (m.shown old.disk) rested first.history desk.history answers (m.shown l.disk))
      → Left m Rested old (parts_of site_text lane replies l) site head said whole put next served.given first.history desk.history answers ended
  left_kept l ended same read leaves secured = record {
    leaves = leaves (record {
      readings = same ∙ readings_are;
      contents = Changes-same (λ _ bytes. IsLedgerOf bytes desk.history) (m.shown old.disk).contents (m.shown desk.disk).contents (m.shown l.disk).contents stands.contents read.contents;
      grows = Changes-same (GrowsTo first.history desk.history) (m.shown old.disk).contents (m.shown desk.disk).contents (m.shown l.disk).contents stands.grows read.contents;
      rest = IsAtRest-read (m.shown desk.disk) (m.shown l.disk) stands.rest read;
    });
    reached = desk.history;
    reached_is = inl refl;
    secured = secured;
  }

  left_put : (ended : End) → last ≡ desk
      → ((l : State D C) → KeepsHistory m old (parts_of site_text lane replies l) served.given first.history desk.history → LeavesStore m old (parts_of site_text lane replies l) site head said whole put next served.given first.history desk.history ended)
      → Left m Rested old (parts_of site_text lane replies last) site head said whole put next served.given first.history desk.history answers ended
  left_put ended same leaves =
      subst (λ (l : State D C). Left m Rested old (parts_of site_text lane replies l) site head said whole put next served.given first.history desk.history answers ended) (sym same)
      (left_kept desk ended refl (IsRead-refl (m.shown desk.disk)) (leaves desk) stands.safe)

  told_there : IsSome (m.shown old.disk).contents → IsSome (m.shown desk.disk).contents
  told_there = told_on (λ _ bytes. IsLedgerOf bytes desk.history) (m.shown old.disk).contents (m.shown desk.disk).contents stands.contents

  -- a call of the store in which nothing was recorded
  read_safe : (h : List Entry) → h ≡ desk.history → IsRead (m.shown desk.disk) (m.shown last.disk)
      → IsSafe (m.shown desk.disk).moment desk.history h [] (m.shown desk.disk) (m.shown last.disk)
      → (rested : ℕ) → Rested rested → IsSome (m.shown old.disk).contents → (m.shown last.disk).moment < last_moment
      → Secured (m.shown old.disk) rested first.history desk.history answers (m.shown last.disk)
  read_safe h same read safe rested is_rested told below =
      let later = read.later in
      let earlier : (m.shown desk.disk).moment < last_moment = omega arith in
      let step : Secures (m.shown desk.disk).moment desk.history h [] (m.shown desk.disk) (m.shown last.disk) = safe (told_there told) below in
      secured_on (m.shown old.disk) (m.shown desk.disk) (m.shown last.disk) rested first.history desk.history desk.history answers []
      stands.later later stands.front (IsFrontOf-refl desk.history) (stands.safe rested is_rested told earlier)
      (subst (λ (g : List Entry). Secures (m.shown desk.disk).moment desk.history g [] (m.shown desk.disk) (m.shown last.disk)) same step)

  -- an extraction was cut
  left_cut : (ended : End) (why : DeskFail) (failed : Bool) (t : EndsAtDesk {Q = State D C} (store_steps m.shown m.readings m.clock_faults) head (first_line + length said) why desk next last said whole put)
      (f : FailsToExtract {Q = State D C} (store_steps m.shown m.readings m.clock_faults) head (first_line + length said) why desk t.line put last)
      → CutsExtract m.shown m.readings m.clock_faults failed desk f.from f.to f.due last
      → (CutsExtraction m old (parts_of site_text lane replies last) site head (first_line + length said) next put served.given first.history desk.history
      → LeavesStore m old (parts_of site_text lane replies last) site head said whole put next served.given first.history desk.history ended)
      → Left m Rested old (parts_of site_text lane replies last) site head said whole put next served.given first.history desk.history answers ended
  left_cut ended why failed t f cuts leaves =
      let takes = cuts.takes in
      let read = takes.kept.disk in
      record {
        leaves = leaves (record {
          line = t.line;
          next_is = t.taken;
          seq = f.seq;
          from = f.from;
          to = f.to;
          ordered = f.ordered;
          minute = takes.minute;
          is_reading = takes.clock.in_range;
          due = f.due;
          front = cuts.front;
          made = λ told. subst (λ (of_site : Site). IsExtractOf of_site desk.history f.from f.to takes.minute f.due.size f.due.afd) served.holds.of_site (cuts.made (told_there told));
          cut = f.cut;
          keeps = record {
            readings = takes.clock.given ∙ ap (λ (o : Option (List ℕ)). append_known o (takes.minute ∷ [])) readings_are
                ∙ append_known-append (m.readings old.clock) served.given (takes.minute ∷ []);
            contents = Changes-same (λ _ bytes. IsLedgerOf bytes desk.history) (m.shown old.disk).contents (m.shown desk.disk).contents (m.shown last.disk).contents stands.contents read.contents;
            grows = Changes-same (GrowsTo first.history desk.history) (m.shown old.disk).contents (m.shown desk.disk).contents (m.shown last.disk).contents stands.grows read.contents;
            rest = IsAtRest-read (m.shown desk.disk) (m.shown last.disk) stands.rest read;
          };
        });
        reached = desk.history;
        reached_is = inl refl;
        secured = read_safe desk.history refl read (f.failed.safe served.holds.running);
      }

  -- an entry was to be put, and the disk failed
  left_stopped : (t : EndsAtDesk {Q = State D C} (store_steps m.shown m.readings m.clock_faults) head (first_line + length said) fail.DeviceFault desk next last said whole put)
      → FailsToAnswer {Q = State D C} (store_steps m.shown m.readings m.clock_faults) head fail.DeviceFault desk t.line put last
      → Left m Rested old (parts_of site_text lane replies last) site head said whole put next served.given first.history desk.history answers DeviceFault
  left_stopped t f =
      let q = f.request in
      let asked = f.failed in
      let stops = asked.answered in
      let minute = stops.takes.minute in
      let with_it = recorded_after desk.history q (moment_at minute site.offset) in
      let recorded : recorded_at desk.history q desk.offset last.reading ≡ with_it =
      ap (λ (r : Option ℕ). recorded_at desk.history q desk.offset r) stops.takes.reading ∙ ap (λ (o : ℤ). recorded_after desk.history q (moment_at minute o)) served.holds.offset in
      let rose : Rose (m.shown old.disk).faults (m.shown last.disk).faults =
      rose-wider (m.shown old.disk).faults (m.shown desk.disk).faults (m.shown last.disk).faults (m.shown last.disk).faults stands.disk_faults (omega arith) stops.cause in
      let fails : FailsToPut m old (parts_of site_text lane replies last) site head next served.given first.history desk.history = record {
        line = t.line;
        next_is = t.taken;
        request = q;
        ordered = f.ordered;
        fresh = subst (λ (n : ℕ). IsVerdict n desk.history q Fresh) served.holds.limit stops.fresh;
        minute = minute;
        is_reading = stops.takes.clock.in_range;
        readings = stops.takes.clock.given ∙ ap (λ (o : Option (List ℕ)). append_known o (minute ∷ [])) readings_are
            ∙ append_known-append (m.readings old.clock) served.given (minute ∷ []);
        contents = Changes-behind (λ _ bytes. IsLedgerOf bytes desk.history)
            (λ bytes. IsLeftAt stops.failed desk.history (recorded_at desk.history q desk.offset last.reading) bytes)
            (λ bytes. IsLedgerOf bytes desk.history ⊎ IsLedgerOf bytes with_it) (m.shown old.disk).contents (m.shown desk.disk).contents (m.shown last.disk).contents
            (λ bytes left. subst (λ (h : List Entry). IsLedgerOf bytes desk.history ⊎ IsLedgerOf bytes h) recorded left.either) stands.contents stops.contents;
        around = Changes-map
            (λ was bytes. (middle : List ℕ) × GrowsTo first.history desk.history was middle × ChangesAtEnd stops.failed desk.history (recorded_at desk.history q desk.offset last.reading) middle bytes)
            (λ was bytes. (failed : ℕ) × (middle : List ℕ) × GrowsTo first.history desk.history was middle × ChangesAtEnd failed desk.history with_it middle bytes)
            (m.shown old.disk).contents (m.shown last.disk).contents
            (λ was bytes told t. (stops.failed, t.0, t.1, subst (λ (h : List Entry). ChangesAtEnd stops.failed desk.history h t.0 bytes) recorded t.2))
            (Changes-through (GrowsTo first.history desk.history) (ChangesAtEnd stops.failed desk.history (recorded_at desk.history q desk.offset last.reading))
            (m.shown old.disk).contents (m.shown desk.disk).contents (m.shown last.disk).contents stands.grows stops.around);
        cause = rose;
      } in
      record {
        leaves = (inl ((t.all, f.nothing), fails), rose);
        reached = with_it;
        reached_is = inr (refl, fails, refl);
        secured = λ rested is_rested told below.
            let later = calls_later stops.failed (m.shown desk.disk) (m.shown last.disk) stops.calls in
            let earlier : (m.shown desk.disk).moment < last_moment = omega arith in
            let step : Secures (m.shown desk.disk).moment desk.history (recorded_at desk.history q desk.offset last.reading) [] (m.shown desk.disk) (m.shown last.disk) =
            asked.safe served.holds.running (told_there told) below in
            secured_on (m.shown old.disk) (m.shown desk.disk) (m.shown last.disk) rested first.history desk.history with_it answers []
            stands.later later stands.front (subst (λ (h : List Entry). IsFrontOf desk.history h) recorded (recorded_front desk.history q desk.offset last.reading)) (stands.safe rested is_rested told earlier)
            (subst (λ (h : List Entry). Secures (m.shown desk.disk).moment desk.history h [] (m.shown desk.disk) (m.shown last.disk)) recorded step);
      }

  -- the clock failed
  left_timeless : (h : List Entry) → h ≡ desk.history → MissesTime m.shown m.readings m.clock_faults desk last
      → IsSafe (m.shown desk.disk).moment desk.history h [] (m.shown desk.disk) (m.shown last.disk)
      → AllWritten said whole put → IsDue site head next desk.history ⊎ OrdersExtraction head next
      → Left m Rested old (parts_of site_text lane replies last) site head said whole put next served.given first.history desk.history answers ClockFault
  left_timeless h same misses safe written due =
      left_kept last ClockFault misses.readings misses.kept.disk
      (λ keeps. (
        written,
        keeps,
        due,
        rose-wider (m.clock_faults old.clock) (m.clock_faults desk.clock) (m.clock_faults last.clock) (m.clock_faults last.clock) stands.clock_later (omega arith) misses.cause,
      ))
      (read_safe h same misses.kept.disk safe)

  never_stopped : (count : ℕ) → desk.stopped ≡ Some count → ⊥
  never_stopped count stopped = let running = served.holds.running in absurd cc

  pub left_by : (ended : End) → EndsLane {Q = State D C} (store_steps m.shown m.readings m.clock_faults) head (first_line + length said) desk next last said whole put ended
      → (ended ≡ SourceFault → Rose (m.source_faults old.lane) (m.source_faults lane)) → (ended ≡ SinkFault → Rose (m.sink_faults old.replies) (m.sink_faults replies))
      → Left m Rested old (parts_of site_text lane replies last) site head said whole put next served.given first.history desk.history answers ended
  left_by Done t source sink = left_put Done t.same (λ l keeps. ((t.all, t.nothing), keeps, t.none_taken))
  left_by SourceFault t source sink = left_put SourceFault t.same (λ l keeps. ((t.all, t.nothing), keeps, t.none_taken, source refl))
  left_by InputLimit t source sink = left_put InputLimit t.same (λ l keeps. ((t.all, t.nothing), keeps, t.none_taken))
  left_by SinkFault (inl t) source sink = left_put SinkFault t.same (λ l keeps. (inl ((t.all_before, t.cut), keeps, t.none_taken), sink refl))
  left_by SinkFault (inr t) source sink = elim t.fails [
    | inl f ↦ absurd f.failed.answered
    | inr f ↦ left_cut SinkFault fail.SinkFault false t f f.failed.answered (λ cuts. (inr (t.all, cuts), sink refl))
  ]
  left_by Stopped t source sink = elim t.fails [
    | inl f ↦ absurd (never_stopped f.failed.answered.0 f.failed.answered.1)
    | inr f ↦ absurd (never_stopped f.failed.answered.0 f.failed.answered.1)
  ]
  left_by DeviceFault t source sink = elim t.fails [
    | inl f ↦ left_stopped t f
    | inr f ↦
        left_cut DeviceFault fail.DeviceFault true t f f.failed.answered.0 (λ cuts. (
          inr (t.all, cuts),
          rose-wider (m.shown old.disk).faults (m.shown desk.disk).faults (m.shown last.disk).faults (m.shown last.disk).faults stands.disk_faults (omega arith) f.failed.answered.1,
        ))
  ]
  left_by ClockFault t source sink = elim t.fails [
    | inl f ↦
        let misses = f.failed.answered.1 in
        left_timeless (recorded_at desk.history f.request desk.offset last.reading) (ap (λ (r : Option ℕ). recorded_at desk.history f.request desk.offset r) misses.reading) misses
        (f.failed.safe served.holds.running) (t.all, f.nothing)
        (inl (t.line, f.request, t.taken, f.ordered, subst (λ (n : ℕ). IsVerdict n desk.history f.request Fresh) served.holds.limit f.failed.answered.0))
    | inr f ↦
        left_timeless desk.history refl f.failed.answered (f.failed.safe served.holds.running) (t.all, f.nothing (λ is. absurd cc) (λ is. absurd cc))
        (inr (t.line, f.seq, f.from, f.to, t.taken, f.ordered))
  ]
  left_by OutOfMemory t source sink = elim t.fails [
    | inl f ↦
        let q = f.request in
        let all = f.failed.answered.1 in
        left_kept last OutOfMemory (ap (λ (k : C). m.readings k) all.clock) all.kept.disk
        (λ keeps. (
          (t.all, f.nothing),
          keeps,
          (t.line, q, t.taken, f.ordered, subst (λ (n : ℕ). IsVerdict n desk.history q Fresh) served.holds.limit f.failed.answered.0),
        ))
        (read_safe (recorded_at desk.history q desk.offset last.reading) (ap (λ (r : Option ℕ). recorded_at desk.history q desk.offset r) all.reading) all.kept.disk
        (f.failed.safe served.holds.running))
    | inr f ↦ absurd f.failed.answered
  ]

  pub same_history : (ended : End) → EndsLane {Q = State D C} (store_steps m.shown m.readings m.clock_faults) head (first_line + length said) desk next last said whole put ended
      → last.history ≡ desk.history
  same_history Done t = ap (λ (s : State D C). s.history) t.same
  same_history SourceFault t = ap (λ (s : State D C). s.history) t.same
  same_history InputLimit t = ap (λ (s : State D C). s.history) t.same
  same_history SinkFault (inl t) = ap (λ (s : State D C). s.history) t.same
  same_history SinkFault (inr t) = elim t.fails [ inl f ↦ absurd f.failed.answered | inr f ↦ f.failed.answered.takes.kept.history ]
  same_history Stopped t = elim t.fails [ inl f ↦ f.failed.answered.2.kept.history | inr f ↦ f.failed.answered.2.kept.history ]
  same_history DeviceFault t = elim t.fails [ inl f ↦ f.failed.answered.history | inr f ↦ f.failed.answered.0.takes.kept.history ]
  same_history ClockFault t = elim t.fails [ inl f ↦ f.failed.answered.1.kept.history | inr f ↦ f.failed.answered.kept.history ]
  same_history OutOfMemory t = elim t.fails [ inl f ↦ f.failed.answered.1.kept.history | inr f ↦ absurd f.failed.answered ]

-- the disk counts as rested from the end of its first call on, and from the beginning where it was at rest
abbrev RestedAt : Shown → ℕ → Type 0
RestedAt start rested = (rested ≡ start.moment + 2) ⊎ ((rested ≡ start.moment) × IsAtRest start)

-- the store that was found
opened : {S K D C : Type 0} (m : Meanings S K D C) (old : Parts S K D C) (site : Site) (head : LaneHead) (cutter : Cutter S) (first : State D C) (replies : K)
    → Opens m old site head cutter first replies → Stands m.shown m.clock_faults (m.shown old.disk) (RestedAt (m.shown old.disk)) first.history (m.clock_faults old.clock) [] first
opened {S = S} {K = K} {D = D} {C = C} m old site head cutter first replies opens =
    let r = opens.reopens in
    record {
      front = IsFrontOf-refl first.history;
      contents = Changes-stay (λ bytes. IsLedgerOf bytes first.history) (m.shown old.disk).contents (m.shown first.disk).contents r.kept.contents r.holds;
      grows = grows_read first.history first.history (m.shown old.disk).contents (m.shown first.disk).contents refl r.kept.contents;
      rest = IsAtRest-rests ((m.shown old.disk).moment + 2) (m.shown first.disk) r.rest;
      later = r.kept.later;
      disk_faults = r.kept.faults;
      clock_later = subst (λ (k : C). m.clock_faults old.clock ≤ m.clock_faults k) (sym r.same_clock) (omega arith);
      safe = λ rested is_rested told below. elim is_rested [
        | inl same ↦
            subst (λ (n : ℕ). Secured (m.shown old.disk) n first.history first.history [] (m.shown first.disk)) (sym same)
            (record { late = (r.rest below).0; secures = opens.safe told below; sure = tt })
        | inr t ↦
            subst (λ (n : ℕ). Secured (m.shown old.disk) n first.history first.history [] (m.shown first.disk)) (sym t.0)
            (record { late = r.kept.later; secures = opens.safe_from_rest t.1 told below; sure = tt })
      ];
    }

pub serves_lane : {S K D C : Type 0} (m : Meanings S K D C) (head : LaneHead) (cutter : Cutter S) (first desk last : State D C) (replies replies' : K) (tally : Tally) (ended : End)
    (due told : Ending) (counts : List ℕ) (count : ℕ) (lane lane' : S) (disk : D) (clock : C) (out_old out_new : Option (List ℕ)) (before now : ℕ)
    → Runs {S = S} {Q = State D C} m.left (store_steps m.shown m.readings m.clock_faults) head first_line cutter first desk (m.written replies) (m.written replies') tally ended
    → last ≡ desk → (tally.lines ≡ 0 → (ended ≡ SinkFault → ⊥) → (ended ≡ DeviceFault → head.kind ≡ operator → ⊥) → replies' ≡ replies) → (ended ≡ SourceFault → Rose (m.source_faults cutter.source) (m.source_faults lane))
    → (ended ≡ SinkFault → Rose (m.sink_faults replies) (m.sink_faults replies')) → due ≡ ending_after ended tally.refused → count ≡ length last.history
    → counts ≡ run_text 1 tally.lines tally.receipts tally.refused count → Concludes due counts out_old out_new before now told → lane' ≡ lane → disk ≡ last.disk → clock ≡ last.clock
    → (old : Parts S K D C) (site : Site) (site_text : S) → Opens m old site head cutter first replies
    → ServesLane m old (record { site = site_text; lane = lane'; disk = disk; clock = clock; replies = replies' }) out_old out_new before now (ending_status told)
serves_lane {S = S} {K = K} {D = D} {C = C} m head cutter first desk last replies replies' tally ended due told counts count lane lane' disk clock out_old out_new before now
    runs same untouched source sink due_is count_is counts_are concludes same_lane same_disk same_clock old site site_text opens =
    let p = pick m.left (store_steps m.shown m.readings m.clock_faults) head first_line cutter first desk (m.written replies) (m.written replies') tally ended runs old.lane (m.left old.lane) refl opens.headed in
    let open_first : IsOpen m.shown (IsSome (m.shown old.disk).contents) site first = record {
      running = opens.reopens.is_new.running;
      of_site = opens.reopens.is_new.of_site;
      limit = opens.reopens.is_new.limit;
      offset = opens.reopens.is_new.offset;
      told = λ told. subst IsSome (sym opens.reopens.kept.contents) told;
    } in
    let served = lanes_are_served {Q = State D C} (store_steps m.shown m.readings m.clock_faults) (lane_rules m old site) (λ (s : State D C). s.history) (λ (s : State D C). m.readings s.clock)
    (IsOpen m.shown (IsSome (m.shown old.disk).contents) site)
    (store_serves m.shown m.readings m.clock_faults (IsSome (m.shown old.disk).contents) site) head first p.0 runs.answers runs.desk open_first p.1 in
    let stands = lines_stand m.shown m.readings m.clock_faults (m.shown old.disk) (RestedAt (m.shown old.disk)) first.history (m.clock_faults old.clock) head p.0 runs.answers [] first runs.desk p.1
    (opened m old site head cutter first replies opens) in
    let said = replies_from first_line runs.answers in
    let replied : length (replies_from first_line runs.answers) ≡ length runs.answers = replies_from-length first_line runs.answers in
    let leaves : EndsLane {Q = State D C} (store_steps m.shown m.readings m.clock_faults) head (first_line + length said) runs.desk runs.next last said runs.whole runs.says.next ended =
    subst (λ (n : ℕ). EndsLane {Q = State D C} (store_steps m.shown m.readings m.clock_faults) head (first_line + n) runs.desk runs.next last said runs.whole runs.says.next ended) (sym replied)
    (subst (λ (s : State D C). EndsLane {Q = State D C} (store_steps m.shown m.readings m.clock_faults) head (first_line + length runs.answers) runs.desk runs.next s said runs.whole runs.says.next ended)
    (sym same) runs.ends) in
    let left = left_by m old site_text lane' replies' site head first runs.desk last p.0 runs.next runs.answers said runs.whole runs.says.next (RestedAt (m.shown old.disk)) opens.reopens.same_clock served stands ended leaves
    (λ is. subst (λ (s : S). Rose (m.source_faults old.lane) (m.source_faults s)) (sym same_lane)
    (rose-wider (m.source_faults old.lane) (m.source_faults cutter.source) (m.source_faults lane) (m.source_faults lane) opens.lane_later (omega arith) (source is)))
    (λ is. subst (λ (k : K). Rose (m.sink_faults k) (m.sink_faults replies')) (sym opens.same_replies) (sink is)) in
    let within : runs.whole ≤ length runs.answers =
    (let w : runs.whole ≤ length (replies_from first_line runs.answers) =
    whole_within {Q = State D C} (store_steps m.shown m.readings m.clock_faults) head (first_line + length said) runs.desk runs.next last said runs.whole runs.says.next ended leaves in omega arith) in
    let lines_are : tally.lines ≡ runs.whole = runs.tally_is.lines ∙ length-take-le runs.whole runs.answers within in
    let counts_is : counts ≡ counts_text runs.answers runs.whole (length runs.desk.history) =
    counts_are ∙ ap (λ (n : ℕ). run_text 1 n tally.receipts tally.refused count) lines_are
    ∙ ap (λ (n : ℕ). run_text 1 runs.whole n tally.refused count) runs.tally_is.receipts
    ∙ ap (λ (n : ℕ). run_text 1 runs.whole (receipts_in (take runs.whole runs.answers)) n count) runs.tally_is.refused
    ∙ ap (λ (n : ℕ). run_text 1 runs.whole (receipts_in (take runs.whole runs.answers)) (refusals_in (take runs.whole runs.answers)) n)
    (count_is ∙ ap length (same_history m old site_text lane' replies' site head first runs.desk last p.0 runs.next runs.answers said runs.whole runs.says.next (RestedAt (m.shown old.disk)) opens.reopens.same_clock served stands ended leaves)) in
    let safe : (rested : ℕ) → RestedAt (m.shown old.disk) rested
    → IsSafe rested first.history left.reached (receipts_at (m.shown last.disk).moment runs.answers) (m.shown old.disk) (m.shown last.disk) =
    λ rested is_rested seen below.
    let s = left.secured rested is_rested seen below in
    record {
      past = s.secures.past;
      early = s.secures.early;
      images = s.secures.images;
      sure = s.secures.sure;
      receipted = sure_receipts (m.shown last.disk) (m.shown last.disk).moment runs.answers s.sure;
    } in
    let whole : ServesLane m old (parts_of site_text lane' replies' last) out_old out_new before now (ending_status told) = record {
      site = site;
      has_site = opens.has_site;
      head = head;
      head_in_range = opens.head_in_range;
      before = first.history;
      found = opens.reopens.holds;
      lines = p.0;
      given = served.given;
      answers = runs.answers;
      after = runs.desk.history;
      serves = served.serves;
      ended = ended;
      next = runs.next;
      lane = p.2;
      whole = runs.whole;
      says = record {
        next = runs.says.next;
        said = runs.says.said ∙ ap (λ (k : K). append_known (m.written k) (concat (take runs.whole (replies_from first_line runs.answers)) ++ runs.says.next)) (sym opens.same_replies);
      };
      unopened = λ none other device. untouched (omega (arith, lines_are, within, ap length none)) other device ∙ sym opens.same_replies;
      leaves = left.leaves;
      reached = left.reached;
      reached_is = left.reached_is;
      safe = safe ((m.shown old.disk).moment + 2) (inl refl);
      safe_from_rest = λ rest. safe (m.shown old.disk).moment (inr (refl, rest));
      due = due;
      due_is = subst (λ (e : Ending). EndsAs runs.answers ended e) (sym due_is) (ends_as ended runs.answers tally.refused
          (λ is. runs.tally_is.refused ∙ ap refusals_in (take_all runs.whole runs.answers
          (let all = done_whole {Q = State D C} (store_steps m.shown m.readings m.clock_faults) head (first_line + length said) runs.desk runs.next last said runs.whole runs.says.next ended leaves is in omega arith)))
          (λ is. subst (λ (e : End). LeavesStore m old (parts_of site_text lane' replies' last) site head said runs.whole runs.says.next runs.next served.given first.history runs.desk.history e) is left.leaves));
      told = told;
      concludes = subst (λ (bytes : List ℕ). Concludes due bytes out_old out_new before now told) counts_is concludes;
      status_is = refl;
    } in
    subst (λ (d : D). ServesLane m old (record { site = site_text; lane = lane'; disk = d; clock = clock; replies = replies' }) out_old out_new before now (ending_status told)) (sym same_disk)
    (subst (λ (k : C). ServesLane m old (record { site = site_text; lane = lane'; disk = last.disk; clock = k; replies = replies' }) out_old out_new before now (ending_status told)) (sym same_clock) whole)
