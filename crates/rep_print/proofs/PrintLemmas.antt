-- from the parts of a call of `print` to the whole
use Rattle.std.proofs.Common.{◌≡◌, ℕ, ◌<◌, ◌≤◌, ◌⊎◌, inl, inr, List, [], ◌∷◌, ◌++◌, length, take, drop, Option, Some, ℤ, refl, sym, ap, subst, ◌∙◌, append_assoc, append-nil, length-append, arith}
use Rattle.std.specs.List.{concat}
use Rattle.std.specs.Io.KnownBytes.{append_known}
use Rattle.std.proofs.lemmas.List.{take_all, nil_from_length}
use Rattle.rep_io.specs.Causes.{Rose}
use Rattle.rep_io.specs.Cutter.{Cutter}
use Rattle.rep_wire.specs.declared.request.Entry.{Entry}
use Rattle.rep_report.specs.Saying.{IsFront, IsStrictFront}
use Rattle.rep_report.specs.declared.ending.Ending.TheVariants.{AllAnswered, SomeRefused, SourceFault, SinkFault, DeviceFault, ClockFault, OutOfMemory, InputLimit}
use Rattle.rep_report.proofs.KnownBytes.{append_known-nil, append_known-append}
use Rattle.rep_lane.specs.LaneText.{HasRead}
use Rattle.rep_lane.specs.Answers.{LineAnswer, replies_from, refusals_in}
use Rattle.rep_lane.specs.declared.lane.Tally.{Tally}
use Rattle.rep_lane.proofs.AnswerLemmas.{replies_from-length}
use Rattle.rep_lane.proofs.ServingLemmas.{ServesLines-length}
use Rattle.rep_print.specs.Afd.{IsPrintedFile}
use Rattle.rep_print.specs.Desk.{State}
use Rattle.rep_print.specs.Extraction.{rules_at}
use Rattle.rep_print.specs.Ending.{status_of, last_text, NeedsCounts}
use Rattle.rep_print.specs.Printing.{first_line, Run, IsAllAnswered, IsInOrder, WritesFile, EndsEarly, EndsBy, IsWholeOrNone, Prints, replies_of, counts_text, counts_of_run}
use Rattle.rep_print.specs.Written.{Printed}
use Rattle.rep_print.specs.Steps.{Ran, HasAnswers, HasReplied, EndsLane, Laned, Makes, IsDone, Closes, counts_line, Told}
use Rattle.rep_print.specs.declared.ending.PrintEnding.{PrintEnding}
use Rattle.rep_print.specs.declared.ending.PrintEnding.TheVariants.{NoHead, NoEmployer, Served}
use Rattle.rep_print.proofs.LaneLemmas.{if_told, rose-wider}
use Rattle.rep_print.proofs.CountLemmas.{whole_within, next_front, replied_all, counts_are}

-- what closing a lane added to the readings of the clock, and to the AFD's file
module _ (ended closed : PrintEnding) (zone : ℤ) (h : List Entry) (old new file_old file_new : Option (List ℕ)) where
  abbrev pub extra : Closes ended zone h old new file_old file_new closed → List ℕ
  extra (inl c) = []
  extra (inr (inl c)) = c.2.1.minute ∷ []
  extra (inr (inr (inl c))) = c.2.1.minute ∷ []
  extra (inr (inr (inr c))) = []

  abbrev pub bytes_of : Closes ended zone h old new file_old file_new closed → List ℕ
  bytes_of (inl c) = []
  bytes_of (inr (inl c)) = c.2.0
  bytes_of (inr (inr (inl c))) = c.2.0
  bytes_of (inr (inr (inr c))) = []

  readings_added : (c : Closes ended zone h old new file_old file_new closed) → new ≡ append_known old (extra c)
  readings_added (inl c) = c.2 ∙ sym (append_known-nil old)
  readings_added (inr (inl c)) = c.2.1.readings
  readings_added (inr (inr (inl c))) = c.2.1.readings
  readings_added (inr (inr (inr c))) = c.2.0 ∙ sym (append_known-nil old)

  bytes_added : (c : Closes ended zone h old new file_old file_new closed) → file_new ≡ append_known file_old (bytes_of c)
  bytes_added (inl c) = c.3 ∙ sym (append_known-nil file_old)
  bytes_added (inr (inl c)) = c.2.1.written
  bytes_added (inr (inr (inl c))) = c.2.1.written
  bytes_added (inr (inr (inr c))) = c.2.1 ∙ sym (append_known-nil file_old)

-- no text goes on behind nothing
nothing_behind : (front rest : List ℕ) → [] ≡ front ++ rest → rest ≡ []
nothing_behind [] rest is = sym is
nothing_behind (x ∷ front) rest is = absurd cc

-- how the command ends, by its text
module _ {zone : ℤ} (text : Option (List ℕ)) (run : Run zone) (answers : List LineAnswer) (whole : ℕ) (next counts : List ℕ) (are : run.answers ≡ answers) where
  many : length run.lines ≡ length answers
  many = ServesLines-length (rules_at zone) run.head [] run.lines run.given run.answers run.history run.serves ∙ ap length are

  early : (ended : PrintEnding) → HasReplied answers whole next ended → (ended ≡ Served SinkFault → ⊥) → EndsEarly run whole (run.given ++ []) []
  early ended r other = record {
    all_whole = (replied_all answers whole next ended r other).0 ∙ sym many;
    writes = record { readings = append-nil run.given; nothing = refl };
  }

  left_ends : (ended : PrintEnding) → HasReplied answers whole next ended → EndsLane text run ended → (IsDone ended → ⊥) → EndsBy text run whole (run.given ++ []) [] next counts ended
  left_ends NoHead r ends other = (early NoHead r (λ same. absurd cc), ends)
  left_ends NoEmployer r ends other = (early NoEmployer r (λ same. absurd cc), ends)
  left_ends (Served AllAnswered) r ends other = absurd (other tt)
  left_ends (Served SomeRefused) r ends other = absurd (other tt)
  left_ends (Served SourceFault) r ends other = early (Served SourceFault) r (λ same. absurd cc)
  left_ends (Served InputLimit) r ends other = (early (Served InputLimit) r (λ same. absurd cc), ends)
  left_ends (Served ClockFault) r (inl ends) other = (early (Served ClockFault) r (λ same. absurd cc), inl ends)
  left_ends (Served ClockFault) r (inr ends) other = (early (Served ClockFault) r (λ same. absurd cc), inr (inl ends))
  left_ends (Served OutOfMemory) r ends other = (early (Served OutOfMemory) r (λ same. absurd cc), ends)
  left_ends (Served DeviceFault) r ends other = absurd ends
  left_ends (Served SinkFault) (inl r) ends other = absurd (r.2 refl)
  left_ends (Served SinkFault) (inr r) ends other =
      inl (record {
        all_but_one = r.0 ∙ sym many;
        writes = record { readings = append-nil run.given; nothing = refl };
        cut = subst (λ (x : List LineAnswer). IsStrictFront next (concat (drop whole (replies_from first_line x)))) (sym are) r.1;
      })

  all_answered : (ended : PrintEnding) → IsDone ended → EndsLane text run ended → IsAllAnswered text run
  all_answered NoHead done ends = absurd done
  all_answered NoEmployer done ends = absurd done
  all_answered (Served AllAnswered) done ends = ends
  all_answered (Served SomeRefused) done ends = ends
  all_answered (Served SourceFault) done ends = absurd done
  all_answered (Served SinkFault) done ends = absurd done
  all_answered (Served DeviceFault) done ends = absurd done
  all_answered (Served ClockFault) done ends = absurd done
  all_answered (Served OutOfMemory) done ends = absurd done
  all_answered (Served InputLimit) done ends = absurd done

  done_whole : (ended : PrintEnding) → IsDone ended → HasReplied answers whole next ended → whole ≡ length run.lines
  done_whole ended done r = (replied_all answers whole next ended r (λ same. subst IsDone same done)).0 ∙ sym many

  module _ (at : ℤ) (h : List Entry) (old new file_old file_new : Option (List ℕ)) (same_zone : at ≡ zone) (same_history : h ≡ run.history) where
    abbrev pub file_of : (bytes : List ℕ) (m : Makes at h old new file_old file_new bytes) → IsAllAnswered text run → WritesFile text run (run.given ++ m.minute ∷ []) bytes
    file_of bytes m all = record {
      all_answered = all;
      minute = m.minute;
      is_reading = m.is_reading;
      readings = refl;
      file = m.file;
      printed = subst (λ (z : ℤ). IsPrintedFile z run.history m.minute m.file) same_zone (subst (λ (x : List Entry). IsPrintedFile at x m.minute m.file) same_history m.printed);
      front = m.front;
    }

    done_ends : (ended : PrintEnding) → IsDone ended → HasReplied answers whole next ended → HasAnswers answers ended → EndsLane text run ended
        → (bytes : List ℕ) (m : Makes at h old new file_old file_new bytes) → bytes ≡ m.file → EndsBy text run whole (run.given ++ m.minute ∷ []) bytes next counts ended
    done_ends NoHead done r has ends bytes m is = absurd done
    done_ends NoEmployer done r has ends bytes m is = absurd done
    done_ends (Served AllAnswered) done r has ends bytes m is =
        ((done_whole (Served AllAnswered) done r, (file_of bytes m ends, is)), ap refusals_in are ∙ has.1)
    done_ends (Served SomeRefused) done r has ends bytes m is =
        ((done_whole (Served SomeRefused) done r, (file_of bytes m ends, is)), subst (λ (x : List LineAnswer). 0 < refusals_in x) (sym are) has.1)
    done_ends (Served SourceFault) done r has ends bytes m is = absurd done
    done_ends (Served SinkFault) done r has ends bytes m is = absurd done
    done_ends (Served DeviceFault) done r has ends bytes m is = absurd done
    done_ends (Served ClockFault) done r has ends bytes m is = absurd done
    done_ends (Served OutOfMemory) done r has ends bytes m is = absurd done
    done_ends (Served InputLimit) done r has ends bytes m is = absurd done

    pub closed_ends : (ended closed : PrintEnding) → HasReplied answers whole next ended → HasAnswers answers ended → EndsLane text run ended
        → (c : Closes ended at h old new file_old file_new closed)
        → EndsBy text run whole (run.given ++ extra ended closed at h old new file_old file_new c) (bytes_of ended closed at h old new file_old file_new c) next counts closed
    closed_ends ended closed r has ends (inl c) =
        subst (λ (x : PrintEnding). EndsBy text run whole (run.given ++ []) [] next counts x) (sym c.1) (left_ends ended r ends c.0)
    closed_ends ended closed r has ends (inr (inl c)) =
        subst (λ (x : PrintEnding). EndsBy text run whole (run.given ++ c.2.1.minute ∷ []) c.2.0 next counts x) (sym c.1) (done_ends ended c.0 r has ends c.2.0 c.2.1 c.2.2)
    closed_ends ended closed r has ends (inr (inr (inl c))) =
        subst (λ (x : PrintEnding). EndsBy text run whole (run.given ++ c.2.1.minute ∷ []) c.2.0 next counts x) (sym c.1)
        (inr (inl (record {
          all_whole = done_whole ended c.0 r;
          writes = file_of c.2.0 c.2.1 (all_answered ended c.0 ends);
          cut = c.2.2;
        })))
    closed_ends ended closed r has ends (inr (inr (inr c))) =
        subst (λ (x : PrintEnding). EndsBy text run whole (run.given ++ []) [] next counts x) (sym c.1)
        (early ended r (λ same. subst IsDone same c.0), inr (inr (all_answered ended c.0 ends)))

    -- nothing of an AFD stands, or all of it, unless its sink failed
    pub whole_or_none : (FileFailed : Type 0) (ended closed : PrintEnding) → EndsLane text run ended → (c : Closes ended at h old new file_old file_new closed)
        → (closed ≡ Served SinkFault → (ended ≡ Served SinkFault → ⊥) → FileFailed) → (FileFailed → ⊥)
        → IsWholeOrNone text run (run.given ++ extra ended closed at h old new file_old file_new c) (bytes_of ended closed at h old new file_old file_new c)
    whole_or_none FileFailed ended closed ends (inl c) failed never = inl (record { readings = append-nil run.given; nothing = refl })
    whole_or_none FileFailed ended closed ends (inr (inl c)) failed never = inr (file_of c.2.0 c.2.1 (all_answered ended c.0 ends), c.2.2)
    whole_or_none FileFailed ended closed ends (inr (inr (inl c))) failed never = absurd (never (failed c.1 (λ same. subst IsDone same c.0)))
    whole_or_none FileFailed ended closed ends (inr (inr (inr c))) failed never = inl (record { readings = append-nil run.given; nothing = refl })

  -- where no line was answered, no counts are due
  no_counts : run.lines ≡ [] → IsStrictFront counts (counts_of_run run whole) → ⊥
  no_counts none cut =
      let few : length run.answers ≡ 0 = sym (ServesLines-length (rules_at zone) run.head [] run.lines run.given run.answers run.history run.serves) ∙ ap length none in
      let nothing : counts_of_run run whole ≡ [] = ap (λ (x : List LineAnswer). counts_text x whole (length run.history)) (nil_from_length run.answers few) in
      cut.1 (nothing_behind counts cut.0 (sym nothing ∙ cut.2))

  -- how it ends where the counts' line was cut
  cut_ends : (given written : List ℕ) (closed : PrintEnding) → NeedsCounts closed → EndsBy text run whole given written next counts closed
      → IsStrictFront counts (counts_of_run run whole) → EndsBy text run whole given written next counts (Served SinkFault)
  cut_ends given written NoHead needs ends cut = absurd (no_counts ends.1.none cut)
  cut_ends given written NoEmployer needs ends cut = absurd (no_counts ends.1.none cut)
  cut_ends given written (Served AllAnswered) needs ends cut = inr (inr (record { all_whole = ends.0.0; writes = inr ends.0.1; cut = cut }))
  cut_ends given written (Served SomeRefused) needs ends cut = inr (inr (record { all_whole = ends.0.0; writes = inr ends.0.1; cut = cut }))
  cut_ends given written (Served OutOfMemory) needs ends cut = inr (inr (record { all_whole = ends.0.all_whole; writes = inl (ends.1, ends.0.writes); cut = cut }))
  cut_ends given written (Served SourceFault) needs ends cut = absurd needs
  cut_ends given written (Served SinkFault) needs ends cut = absurd needs
  cut_ends given written (Served DeviceFault) needs ends cut = absurd needs
  cut_ends given written (Served ClockFault) needs ends cut = absurd needs
  cut_ends given written (Served InputLimit) needs ends cut = absurd needs

  pub told_ends : (given written line : List ℕ) (closed told : PrintEnding) (Failed : Type 0) → line ≡ counts_of_run run whole → EndsBy text run whole given written next counts closed
      → (told ≡ closed) ⊎ ((told ≡ Served SinkFault) × NeedsCounts closed × Failed × IsStrictFront counts line)
      → EndsBy text run whole given written next counts told
  told_ends given written line closed told Failed is ends (inl same) = subst (λ (x : PrintEnding). EndsBy text run whole given written next counts x) (sym same) ends
  told_ends given written line closed told Failed is ends (inr t) =
      subst (λ (x : PrintEnding). EndsBy text run whole given written next counts x) (sym t.0)
      (cut_ends given written closed t.1 ends (subst (λ (x : List ℕ). IsStrictFront counts x) is t.3))

-- where the clock wasn't read for the AFD, its file wasn't opened
untouched : (FileUntouched : Type 0) (ended closed : PrintEnding) (zone : ℤ) (h : List Entry) (old new file_old file_new : Option (List ℕ)) (given : List ℕ)
    → (c : Closes ended zone h old new file_old file_new closed) → ((IsDone ended → ⊥) → FileUntouched)
    → ((IsDone closed → ⊥) → (closed ≡ Served SinkFault → ⊥) → FileUntouched)
    → given ++ extra ended closed zone h old new file_old file_new c ≡ given → FileUntouched
untouched FileUntouched ended closed zone h old new file_old file_new given (inl c) one two same = one c.0
untouched FileUntouched ended closed zone h old new file_old file_new given (inr (inl c)) one two same =
    let longer = length-append given (c.2.1.minute ∷ []) in let size : length (given ++ c.2.1.minute ∷ []) ≡ length given = ap length same in absurd (omega arith)
untouched FileUntouched ended closed zone h old new file_old file_new given (inr (inr (inl c))) one two same =
    let longer = length-append given (c.2.1.minute ∷ []) in let size : length (given ++ c.2.1.minute ∷ []) ≡ length given = ap length same in absurd (omega arith)
untouched FileUntouched ended closed zone h old new file_old file_new given (inr (inr (inr c))) one two same =
    two (λ done. subst IsDone c.1 done) (λ sink. (let clash : Served ClockFault ≡ Served SinkFault = sym c.1 ∙ sink in absurd cc))

module _ {S K C : Type 0} (left : S → Option (List ℕ)) (written : K → Option (List ℕ)) (readings : C → Option (List ℕ)) (faults : K → ℕ) (source : S) (file out file_now out_mid out_now : K)
    (old mid : State C) (clock_now : C) (cutter : Cutter S) (tally : Tally) (recorded : ℕ) (ended closed told : PrintEnding)
    (l : Laned readings old mid (written out) (written out_mid) tally ended (λ text. HasRead left cutter text []))
    (fresh : (text : List ℕ) → left source ≡ Some text → HasRead left cutter text [])
    (c : Closes ended mid.zone mid.history (readings mid.clock) (readings clock_now) (written file) (written file_now) closed)
    (t : Told closed (counts_line recorded tally) (written out_mid) (written out_now) (faults out_mid) (faults out_now) told)
    (count : recorded ≡ length mid.history) (out_later : faults out ≤ faults out_mid) (out_fault : ended ≡ Served SinkFault → Rose (faults out) (faults out_mid))
    (file_fault : closed ≡ Served SinkFault → (ended ≡ Served SinkFault → ⊥) → Rose (faults file) (faults file_now))
    (kept : (IsDone ended → ⊥) → file_now ≡ file) (unopened : (IsDone closed → ⊥) → (closed ≡ Served SinkFault → ⊥) → file_now ≡ file) where
  abbrev added : List ℕ
  added = extra ended closed mid.zone mid.history (readings mid.clock) (readings clock_now) (written file) (written file_now) c

  abbrev into_file : List ℕ
  into_file = bytes_of ended closed mid.zone mid.history (readings mid.clock) (readings clock_now) (written file) (written file_now) c

  abbrev said : List ℕ
  said = concat (take l.whole (replies_from first_line l.answers)) ++ l.next ++ t.put ++ t.closing

  within : l.whole ≤ length l.answers
  within = whole_within l.answers l.whole l.next ended l.replied

  -- the whole of a text that is told
  prints_text : (text : Option (List ℕ)) (r : Ran readings old mid l.answers) → IsInOrder text r.run → EndsLane text r.run ended
      → Prints old.zone text (status_of told) (r.run.given ++ added) into_file said (file_now ≡ file) (Rose (faults file) (faults file_now)) (faults out) (faults out_now)
  prints_text text r order ends =
      let run = r.run in
      let counts_is : counts_line recorded tally ≡ counts_of_run run l.whole = counts_are old.zone run l.answers l.whole recorded tally r.answers_are l.tally_is within (count ∙ ap length r.history) in
      let lines : length run.lines ≡ length l.answers = ServesLines-length (rules_at old.zone) run.head [] run.lines run.given run.answers run.history run.serves ∙ ap length r.answers_are in
      let replies_are : replies_from first_line l.answers ≡ replies_of run = ap (replies_from first_line) (sym r.answers_are) in
      let whole_if : (ended ≡ Served SinkFault → ⊥) → l.whole ≡ length run.lines = λ other. (replied_all l.answers l.whole l.next ended l.replied other).0 ∙ sym lines in
      record {
        run = run;
        whole = l.whole;
        ending = told;
        status_is = refl;
        in_order = order;
        says = record {
          next = l.next;
          counts = t.put;
          fault = t.closing;
          bytes = ap (λ (rs : List (List ℕ)). concat (take l.whole rs) ++ l.next ++ t.put ++ t.closing) replies_are;
          next_front = subst (λ (rs : List (List ℕ)). IsFront l.next (concat (drop l.whole rs))) replies_are (next_front l.answers l.whole l.next ended l.replied);
          counts_front = subst (λ (x : List ℕ). IsFront t.put x) counts_is t.put_front;
          fault_front = t.closing_front;
          replied = faults out_mid;
          counted = t.middle;
          since = out_later;
          between = t.since;
          until = t.until;
          replies_whole = λ never. whole_if (λ sink. never (out_fault sink));
          counts_whole = λ never. t.put_whole never ∙ counts_is;
          fault_whole = t.closing_whole;
        };
        ends = told_ends text run l.answers l.whole l.next t.put r.answers_are (run.given ++ added) into_file (counts_line recorded tally) closed told (Rose (faults out_mid) t.middle) counts_is
            (closed_ends text run l.answers l.whole l.next t.put r.answers_are mid.zone mid.history (readings mid.clock) (readings clock_now) (written file) (written file_now) l.zone r.history
            ended closed l.replied l.has ends c) t.told;
        counted = λ needs. t.counted needs ∙ counts_is;
        said_all = λ never.
            let late = t.until in
            let since = t.since in
            let no_sink : ended ≡ Served SinkFault → ⊥ =
            λ sink. never (rose-wider (faults out) (faults out) (faults out_mid) (faults out_now) (omega arith) (omega arith) (out_fault sink)) in
            let all = whole_if no_sink in
            let nothing = (replied_all l.answers l.whole l.next ended l.replied no_sink).1 in
            let counts_whole : t.put ≡ counts_of_run run l.whole =
            t.put_whole (λ rose. never (rose-wider (faults out) (faults out_mid) t.middle (faults out_now) out_later late rose)) ∙ counts_is in
            let fault_whole : t.closing ≡ last_text told =
            t.closing_whole (λ rose. never (rose-wider (faults out) t.middle (faults out_now) (faults out_now) (omega arith) (omega arith) rose)) in
            let many : length (replies_of run) ≡ length run.answers = replies_from-length first_line run.answers in
            let answered : length run.answers ≡ length l.answers = ap length r.answers_are in
            let every : take l.whole (replies_of run) ≡ replies_of run = take_all l.whole (replies_of run) (omega arith) in
            record {
              all_whole = all;
              bytes = ap (λ (rs : List (List ℕ)). concat (take l.whole rs) ++ l.next ++ t.put ++ t.closing) replies_are
                  ∙ ap (λ (rs : List (List ℕ)). concat rs ++ l.next ++ t.put ++ t.closing) every
                  ∙ ap (λ (x : List ℕ). concat (replies_of run) ++ x ++ t.put ++ t.closing) nothing
                  ∙ ap (λ (x : List ℕ). x ++ t.put ++ t.closing) (append-nil (concat (replies_of run)))
                  ∙ ap (λ (x : List ℕ). concat (replies_of run) ++ x ++ t.closing) counts_whole
                  ∙ ap (λ (x : List ℕ). concat (replies_of run) ++ counts_of_run run l.whole ++ x) fault_whole;
            };
        written_all = whole_or_none text run l.answers l.whole l.next t.put r.answers_are mid.zone mid.history (readings mid.clock) (readings clock_now) (written file) (written file_now) l.zone r.history
            (Rose (faults file) (faults file_now)) ended closed ends c file_fault;
        unopened = untouched (file_now ≡ file) ended closed mid.zone mid.history (readings mid.clock) (readings clock_now) (written file) (written file_now) run.given c kept unopened;
      }

  of_run : (r : Ran readings old mid l.answers)
      → Prints old.zone (left source) (status_of told) (r.run.given ++ added) into_file said (file_now ≡ file) (Rose (faults file) (faults file_now)) (faults out) (faults out_now)
      → Printed left written readings faults old.zone (status_of told) source file out old.clock file_now out_now clock_now
  of_run r prints = record {
    given = r.run.given ++ added;
    into_file = into_file;
    said = said;
    readings_are = readings_added ended closed mid.zone mid.history (readings mid.clock) (readings clock_now) (written file) (written file_now) c
        ∙ ap (λ (o : Option (List ℕ)). append_known o added) r.readings_are ∙ append_known-append (readings old.clock) r.run.given added;
    file_is = bytes_added ended closed mid.zone mid.history (readings mid.clock) (readings clock_now) (written file) (written file_now) c;
    out_is = t.said ∙ ap (λ (o : Option (List ℕ)). append_known o (t.put ++ t.closing)) l.said
        ∙ append_known-append (written out) (concat (take l.whole (replies_from first_line l.answers)) ++ l.next) (t.put ++ t.closing)
        ∙ ap (append_known (written out)) (sym (append_assoc (concat (take l.whole (replies_from first_line l.answers)) ++ l.next) t.put t.closing));
    prints = prints;
  }

  pub printed : Printed left written readings faults old.zone (status_of told) source file out old.clock file_now out_now clock_now
  printed =
      let o = l.of_lane (left source) (if_told (λ text. HasRead left cutter text []) (left source) fresh) in
      of_run o.ran (prints_text (left source) o.ran o.in_order o.ends)
