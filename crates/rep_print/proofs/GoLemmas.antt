-- how a lane that is printed goes on behind line 2
use Rattle.std.proofs.Common.{◌≡◌, ◌≢◌, ℕ, zero, suc, ◌+◌, ◌≤◌, inl, inr, List, [], ◌∷◌, ◌++◌, length, take, Option, None, Some, Ok, refl, sym, ap, subst, ◌∙◌, append_assoc, length-append, arith}
use Rattle.std.specs.Prelude.{IfSome}
use Rattle.std.specs.List.{concat}
use Rattle.std.specs.Io.KnownBytes.{append_known}
use Rattle.std.proofs.lemmas.List.{take_all}
use Rattle.rep_io.specs.Lines.{lines_of}
use Rattle.rep_io.specs.Cutter.{Cutter}
use Rattle.rep_wire.specs.declared.head.LaneHead.{LaneHead}
use Rattle.rep_report.specs.declared.ending.Ending.TheVariants.{AllAnswered, SomeRefused, SourceFault, SinkFault, DeviceFault, ClockFault, OutOfMemory, InputLimit}
use Rattle.rep_report.proofs.KnownBytes.{append_known-append}
use Rattle.rep_lane.specs.LaneText.{IsWithin}
use Rattle.rep_lane.specs.Answers.{LineAnswer, answer_bytes, kind_of, as_receipt, as_refusal, replies_from, refusals_in}
use Rattle.rep_lane.specs.Desk.{AnswersLines}
use Rattle.rep_lane.specs.Lane.{IsTally, EndsText, Runs}
use Rattle.rep_lane.specs.declared.answering.Kind.{Kind}
use Rattle.rep_lane.specs.declared.lane.End.{End}
use Rattle.rep_lane.specs.declared.lane.End.TheVariants as end
use Rattle.rep_lane.specs.declared.lane.Tally.{Tally}
use Rattle.rep_lane.proofs.AnswerLemmas.{replies_from-length}
use Rattle.rep_print.specs.Desk.{State, steps_by}
use Rattle.rep_print.specs.Printing.{IsCutOff, IsNextLineOf, IsOperatorHead, IsWholeRunOf, Run, IsRunOf}
use Rattle.rep_print.specs.Steps.{Begins, ending_of, count_first, HasAnswers, HasReplied, EndsLane, OfLane, Laned, IsHeaded, GoesOn}
use Rattle.rep_print.specs.declared.ending.PrintEnding.{PrintEnding}
use Rattle.rep_print.specs.declared.ending.PrintEnding.TheVariants.{Served}
use Rattle.rep_print.proofs.LaneLemmas.{ClockMoves, if_some, rose-wider, come, ran, still, IsStill, never_nil}
use Rattle.rep_print.proofs.StopLemmas.{untimed_still}
use Rattle.rep_print.proofs.EmployerLemmas.{run_employer}
use Rattle.rep_print.proofs.GoneLemmas.{LeavesDesk, IsWritten, Gone, gone}

-- the counts, line 2's answer among them
first_counted : (kind : Kind) (rest tally : Tally) (a : LineAnswer) (answers : List LineAnswer) → kind ≡ kind_of a → IsTally answers rest → tally ≡ count_first kind rest
    → IsTally (a ∷ answers) tally
first_counted kind rest tally a answers is t counted = record {
  lines = ap (λ (x : Tally). x.lines) counted ∙ ap suc t.lines;
  receipts = ap (λ (x : Tally). x.receipts) counted ∙ ap (λ (k : Kind). as_receipt k + rest.receipts) is ∙ ap (λ (n : ℕ). as_receipt (kind_of a) + n) t.receipts;
  refused = ap (λ (x : Tally). x.refused) counted ∙ ap (λ (k : Kind). as_refusal k + rest.refused) is ∙ ap (λ (n : ℕ). as_refusal (kind_of a) + n) t.refused;
}

-- whether a line was refused, by the counts
done_answers : (answers : List LineAnswer) (refused : ℕ) → answers ≢ [] → refused ≡ refusals_in answers → HasAnswers answers (Served (ending_of end.Done refused))
done_answers answers zero some is = (some, sym is)
done_answers answers (suc n) some is = (some, omega arith)

-- the desk didn't fail in a way in which it can't
module _ {C : Type 0} (readings : C → Option (List ℕ)) (faults : C → ℕ) (head : LaneHead) (desk new : State C) (next : List (List ℕ)) where
  leaves_still : (e : End) → LeavesDesk readings faults head desk next new e → IsStill readings faults desk new
  leaves_still end.Done l = still readings faults desk new l.1
  leaves_still end.SourceFault l = still readings faults desk new l.1
  leaves_still end.InputLimit l = still readings faults desk new l.1
  leaves_still end.SinkFault l = still readings faults desk new l.1
  leaves_still end.Stopped l = absurd l
  leaves_still end.DeviceFault l = absurd l
  leaves_still end.ClockFault (inl l) = untimed_still readings faults desk l.request new l.failed
  leaves_still end.ClockFault (inr l) = record { zone = l.failed.zone; history = l.failed.history; readings_are = l.failed.readings_are }
  leaves_still end.OutOfMemory l = still readings faults desk new l.failed.1

  moves_same : new ≡ desk → faults desk.clock ≤ faults new.clock
  moves_same same = let is : faults new.clock ≡ faults desk.clock = ap (λ (s : State C). faults s.clock) same in omega arith

  kept_same : new ≡ desk → faults new.clock ≡ faults desk.clock
  kept_same same = ap (λ (s : State C). faults s.clock) same

  leaves_clock : (e : End) (refused : ℕ) → LeavesDesk readings faults head desk next new e
      → ClockMoves (faults desk.clock) (faults new.clock) (Served (ending_of e refused))
  leaves_clock end.Done zero l = (moves_same l.1, λ same. absurd cc, λ other. kept_same l.1)
  leaves_clock end.Done (suc n) l = (moves_same l.1, λ same. absurd cc, λ other. kept_same l.1)
  leaves_clock end.SourceFault refused l = (moves_same l.1, λ same. absurd cc, λ other. kept_same l.1)
  leaves_clock end.InputLimit refused l = (moves_same l.1, λ same. absurd cc, λ other. kept_same l.1)
  leaves_clock end.SinkFault refused l = (moves_same l.1, λ same. absurd cc, λ other. kept_same l.1)
  leaves_clock end.Stopped refused l = absurd l
  leaves_clock end.DeviceFault refused l = absurd l
  leaves_clock end.ClockFault refused (inl l) = (l.failed.later, λ same. l.failed.cause, λ other. absurd (other refl))
  leaves_clock end.ClockFault refused (inr l) = (l.failed.later, λ same. l.failed.cause, λ other. absurd (other refl))
  leaves_clock end.OutOfMemory refused l = (moves_same l.failed.1, λ same. absurd cc, λ other. kept_same l.failed.1)

-- the replies, line 2's among them
module _ (a : LineAnswer) (answers : List LineAnswer) (whole : ℕ) (next : List ℕ) where
  all_replied : (ended : PrintEnding) → (whole ≡ length (replies_from 3 answers)) × (next ≡ []) → (ended ≡ Served SinkFault → ⊥) → HasReplied (a ∷ answers) (suc whole) next ended
  all_replied ended w other = inl (ap suc (w.0 ∙ replies_from-length 3 answers), w.1, other)

  replied_on : (e : End) (refused : ℕ) → IsWritten (replies_from 3 answers) whole next e → HasReplied (a ∷ answers) (suc whole) next (Served (ending_of e refused))
  replied_on end.Done zero w = all_replied (Served AllAnswered) w (λ same. absurd cc)
  replied_on end.Done (suc n) w = all_replied (Served SomeRefused) w (λ same. absurd cc)
  replied_on end.SourceFault refused w = all_replied (Served SourceFault) w (λ same. absurd cc)
  replied_on end.InputLimit refused w = all_replied (Served InputLimit) w (λ same. absurd cc)
  replied_on end.SinkFault refused w = inr (ap suc (w.0 ∙ replies_from-length 3 answers), w.1, refl)
  replied_on end.Stopped refused w = all_replied (Served DeviceFault) w (λ same. absurd cc)
  replied_on end.DeviceFault refused w = all_replied (Served DeviceFault) w (λ same. absurd cc)
  replied_on end.ClockFault refused w = all_replied (Served ClockFault) w (λ same. absurd cc)
  replied_on end.OutOfMemory refused w = all_replied (Served OutOfMemory) w (λ same. absurd cc)

  -- where a lane came to its end, all of its answers are counted
  all_whole : (e : End) → e ≡ end.Done → IsWritten (replies_from 3 answers) whole next e → take whole answers ≡ answers
  all_whole end.Done same w = let many = replies_from-length 3 answers in let is = w.0 in take_all whole answers (omega arith)
  all_whole end.SourceFault same w = absurd cc
  all_whole end.InputLimit same w = absurd cc
  all_whole end.SinkFault same w = absurd cc
  all_whole end.Stopped same w = absurd cc
  all_whole end.DeviceFault same w = absurd cc
  all_whole end.ClockFault same w = absurd cc
  all_whole end.OutOfMemory same w = absurd cc

  has_on : {C : Type 0} (readings : C → Option (List ℕ)) (faults : C → ℕ) (head : LaneHead) (desk new : State C) (at : List (List ℕ)) (e : End) (tally : Tally)
      → LeavesDesk readings faults head desk at new e → IsWritten (replies_from 3 answers) whole next e → IsTally (a ∷ take whole answers) tally
      → HasAnswers (a ∷ answers) (Served (ending_of e tally.refused))
  has_on readings faults head desk new at end.Done tally l w t =
      done_answers (a ∷ answers) tally.refused (never_nil a answers) (t.refused ∙ ap (λ (x : List LineAnswer). refusals_in (a ∷ x)) (all_whole end.Done refl w))
  has_on readings faults head desk new at end.SourceFault tally l w t = tt
  has_on readings faults head desk new at end.InputLimit tally l w t = tt
  has_on readings faults head desk new at end.SinkFault tally l w t = tt
  has_on readings faults head desk new at end.Stopped tally l w t = absurd l
  has_on readings faults head desk new at end.DeviceFault tally l w t = absurd l
  has_on readings faults head desk new at end.ClockFault tally l w t = tt
  has_on readings faults head desk new at end.OutOfMemory tally l w t = tt

module _ {S C : Type 0} (left : S → Option (List ℕ)) (readings : C → Option (List ℕ)) (faults : C → ℕ) (head : LaneHead) (kind : Kind) (c_old c_mid : Cutter S)
    (old mid new : State C) (out_old out_mid out_new : Option (List ℕ)) (tally : Tally) (ended : PrintEnding) (empty : old.history ≡ [])
    (b : Begins left readings faults head c_old c_mid old mid out_old out_mid (Ok kind)) where
  -- what a text that is told says of the lines behind line 2
  pub record Reads (text : List ℕ) (lines at : List (List ℕ)) (e : End) : Type 0 where
    pub first : List ℕ
    pub headed : IsOperatorHead head first
    pub rest : List (List ℕ)
    pub are : lines_of text ≡ (first ∷ b.line ∷ []) ++ (lines ++ at) ++ rest
    pub ends : EndsText text (length (first ∷ b.line ∷ []) + length (lines ++ at)) rest e

  module _ (lines : List (List ℕ)) (answers : List LineAnswer) (desk : State C) (at : List (List ℕ))
      (answered : AnswersLines (steps_by readings faults) head mid lines answers desk) (kept : IsStill readings faults desk new) where
    abbrev pub run_here : Run old.zone
    run_here = (ran readings faults head old (b.line ∷ lines) (b.answers.1.a ∷ answers) desk new empty (mid, b.answers.1.answers, answered) b.answers.0 kept).run

    abbrev pub of_text : (e : End) (text : List ℕ) → Reads text lines at e → IsRunOf text run_here
    of_text e text t = record {
      first = t.first;
      headed = t.headed;
      behind = at ++ t.rest;
      lines = t.are ∙ ap (λ (x : List (List ℕ)). t.first ∷ b.line ∷ x) (append_assoc lines at t.rest);
    }

    taken : length (lines ++ at) ≡ length lines + length at
    taken = length-append lines at

    whole_here : at ≡ [] → (text : List ℕ) → Reads text lines at end.Done → IsWholeRunOf text run_here
    whole_here none text t = record {
      of_text = of_text end.Done text t;
      none_behind = ap (λ (x : List (List ℕ)). x ++ t.rest) none ∙ t.ends.0;
      short = t.ends.1;
    }

    cut_here : at ≡ [] → (text : List ℕ) → Reads text lines at end.InputLimit → IsCutOff text run_here
    cut_here is text t =
        let none : length at ≡ 0 = ap length is in
        let many = taken in
        let over = t.ends.1 in
        record { long = t.ends.0; read = inr (of_text end.InputLimit text t, omega arith) }

    next_timed : (line : List ℕ) → at ≡ line ∷ [] → (text : List ℕ) → Reads text lines at end.ClockFault → IsNextLineOf text run_here line
    next_timed line is text t =
        let one : length at ≡ 1 = ap length is in
        let many = taken in
        record {
          of_text = of_text end.ClockFault text t;
          rest = t.rest;
          next = ap (λ (x : List (List ℕ)). x ++ t.rest) is;
          within = subst (λ (n : ℕ). IsWithin n text) (omega arith) t.ends;
        }

    next_kept : (line : List ℕ) → at ≡ line ∷ [] → (text : List ℕ) → Reads text lines at end.OutOfMemory → IsNextLineOf text run_here line
    next_kept line is text t =
        let one : length at ≡ 1 = ap length is in
        let many = taken in
        record {
          of_text = of_text end.OutOfMemory text t;
          rest = t.rest;
          next = ap (λ (x : List (List ℕ)). x ++ t.rest) is;
          within = subst (λ (n : ℕ). IsWithin n text) (omega arith) t.ends;
        }

    pub text_ends : (text : Option (List ℕ)) (e : End) (refused : ℕ) → LeavesDesk readings faults head desk at new e
        → IfSome text (λ t. Reads t lines at e) → EndsLane text run_here (Served (ending_of e refused))
    text_ends text end.Done zero l is = record {
      some = never_nil b.line lines;
      whole = if_some (λ t. Reads t lines at end.Done) (λ t. IsWholeRunOf t run_here) text (whole_here l.0) is;
    }
    text_ends text end.Done (suc n) l is = record {
      some = never_nil b.line lines;
      whole = if_some (λ t. Reads t lines at end.Done) (λ t. IsWholeRunOf t run_here) text (whole_here l.0) is;
    }
    text_ends text end.SourceFault refused l is = tt
    text_ends text end.InputLimit refused l is = if_some (λ t. Reads t lines at end.InputLimit) (λ t. IsCutOff t run_here) text (cut_here l.0) is
    text_ends text end.SinkFault refused l is = tt
    text_ends text end.Stopped refused l is = absurd l
    text_ends text end.DeviceFault refused l is = absurd l
    text_ends text end.ClockFault refused (inl l) is =
        inl (record {
          line = l.line;
          next = if_some (λ t. Reads t lines at end.ClockFault) (λ t. IsNextLineOf t run_here l.line) text (next_timed l.line l.next_is) is;
          request = l.request;
          ordered = l.ordered;
          fresh = l.failed.fresh;
          begins = b.answers.0;
        })
    text_ends text end.ClockFault refused (inr l) is =
        inr (record {
          line = l.line;
          next = if_some (λ t. Reads t lines at end.ClockFault) (λ t. IsNextLineOf t run_here l.line) text (next_timed l.line l.next_is) is;
          seq = l.seq;
          from = l.from;
          to = l.to;
          ordered = l.ordered;
          some = never_nil b.line lines;
        })
    text_ends text end.OutOfMemory refused l is = record {
      line = l.line;
      next = if_some (λ t. Reads t lines at end.OutOfMemory) (λ t. IsNextLineOf t run_here l.line) text (next_kept l.line l.next_is) is;
      request = l.request;
      ordered = l.ordered;
      fresh = l.failed.0;
      begins = b.answers.0;
    }

    pub lane_ends : (text : Option (List ℕ)) (e : End) → LeavesDesk readings faults head desk at new e → ended ≡ Served (ending_of e tally.refused)
        → IfSome text (λ t. Reads t lines at e) → OfLane readings old new (b.answers.1.a ∷ answers) ended text
    lane_ends text e l is reads = record {
      ran = ran readings faults head old (b.line ∷ lines) (b.answers.1.a ∷ answers) desk new empty (mid, b.answers.1.answers, answered) b.answers.0 kept;
      in_order = λ some. if_some (λ t. Reads t lines at e) (λ t. IsRunOf t run_here) text (of_text e) reads;
      ends = subst (λ (x : PrintEnding). EndsLane text run_here x) (sym is) (text_ends text e tally.refused l reads);
    }

  -- where the lane went on
  goes : (rest : Tally) (e : End) → Runs left (steps_by readings faults) head 3 c_mid mid new out_mid out_new rest e
      → Gone left readings faults head 3 c_mid mid new out_mid out_new rest e
  goes rest e r =
      let a = b.answers.1.a in
      let answered : AnswersLines (steps_by readings faults) head old (b.line ∷ r.lines) (a ∷ r.answers) r.desk = (mid, b.answers.1.answers, r.answered) in
      let here = ran readings faults head old (b.line ∷ r.lines) (a ∷ r.answers) r.desk r.desk empty answered b.answers.0 (still readings faults r.desk r.desk refl) in
      gone left readings faults head 3 c_mid mid new out_mid out_new rest e r (run_employer here.run (never_nil a r.answers))

  of_told : (rest : Tally) (e : End) (r : Gone left readings faults head 3 c_mid mid new out_mid out_new rest e) → IsStill readings faults r.desk new
      → ended ≡ Served (ending_of e tally.refused) → (text : Option (List ℕ)) → IfSome text (IsHeaded left head c_old)
      → OfLane readings old new (b.answers.1.a ∷ r.answers) ended text
  of_told rest e r kept is None told = lane_ends r.lines r.answers r.desk r.next r.answered kept None e r.leaves is tt
  of_told rest e r kept is (Some text) headed =
      let n = b.text text (headed.0 ∷ []) headed.2 in
      let t = r.text text (headed.0 ∷ b.line ∷ []) n.read in
      lane_ends t.lines r.answers r.desk r.next t.answered kept (Some text) e r.leaves is
      (record { first = headed.0; headed = headed.1; rest = t.takes.rest; are = t.takes.lines; ends = t.takes.ends })

  pub gone_on : GoesOn left readings faults head kind c_mid mid new out_mid out_new tally ended
      → Laned readings old new out_old out_new tally ended (IsHeaded left head c_old)
  gone_on g =
      let rest = g.0 in
      let e = g.1 in
      let r = goes rest e g.2 in
      let a = b.answers.1.a in
      let kept = leaves_still readings faults head r.desk new r.next e r.leaves in
      let answered : AnswersLines (steps_by readings faults) head old (b.line ∷ r.lines) (a ∷ r.answers) r.desk = (mid, b.answers.1.answers, r.answered) in
      let counted = first_counted kind rest tally a (take r.whole r.answers) b.answers.1.is_kind r.tally_is g.3 in
      let first = concat (take r.whole (replies_from 3 r.answers)) in
      let reply = answer_bytes 2 a in
      record {
        zone = kept.zone ∙ (come readings faults head old (b.line ∷ r.lines) (a ∷ r.answers) r.desk answered).0;
        answers = a ∷ r.answers;
        whole = suc r.whole;
        next = r.put;
        said = r.said
            ∙ ap (λ (o : Option (List ℕ)). append_known o (first ++ r.put)) b.answers.1.said
            ∙ append_known-append out_old reply (first ++ r.put)
            ∙ ap (append_known out_old) (sym (append_assoc reply first r.put));
        replied = subst (λ (x : PrintEnding). HasReplied (a ∷ r.answers) (suc r.whole) r.put x) (sym g.4) (replied_on a r.answers r.whole r.put e tally.refused r.written);
        tally_is = counted;
        has = subst (λ (x : PrintEnding). HasAnswers (a ∷ r.answers) x) (sym g.4)
            (has_on a r.answers r.whole r.put readings faults head r.desk new r.next e tally r.leaves r.written counted);
        of_lane = of_told rest e r kept g.4;
      }

  pub clock_goes : GoesOn left readings faults head kind c_mid mid new out_mid out_new tally ended → ClockMoves (faults old.clock) (faults new.clock) ended
  clock_goes g =
      let r = goes g.0 g.1 g.2 in
      let a = b.answers.1.a in
      let answered : AnswersLines (steps_by readings faults) head old (b.line ∷ r.lines) (a ∷ r.answers) r.desk = (mid, b.answers.1.answers, r.answered) in
      let is : faults r.desk.clock ≡ faults old.clock = (come readings faults head old (b.line ∷ r.lines) (a ∷ r.answers) r.desk answered).1 in
      let before : faults old.clock ≤ faults r.desk.clock = omega arith in
      let moves = leaves_clock readings faults head r.desk new r.next g.1 tally.refused r.leaves in
      let later : faults r.desk.clock ≤ faults new.clock = moves.0 in (
        omega arith,
        λ same. rose-wider (faults old.clock) (faults r.desk.clock) (faults new.clock) (faults new.clock) before (omega arith) (moves.1 (sym g.4 ∙ same)),
        λ other. moves.2 (λ same. other (g.4 ∙ same)) ∙ is,
      )
