-- how the lines of a lane that is printed go on one after another
use Rattle.std.proofs.Common.{◌≡◌, ◌≢◌, ℕ, suc, ◌<◌, ◌≤◌, inl, inr, List, [], ◌∷◌, ◌++◌, length, take, Option, None, Some, Result, Ok, Err, ℤ, refl, sym, ap, subst, ◌∙◌, append_assoc, append-nil, arith}
use Rattle.std.specs.Prelude.{IfSome}
use Rattle.std.specs.List.{concat}
use Rattle.rep_io.specs.Causes.{Rose}
use Rattle.rep_io.specs.Lines.{lines_of, longest_line, longest_text}
use Rattle.rep_io.specs.Cutter.{Cutter}
use Rattle.std.specs.Io.KnownBytes.{append_known}
use Rattle.rep_wire.specs.declared.head.LaneHead.{LaneHead}
use Rattle.rep_wire.specs.declared.request.Entry.{Entry}
use Rattle.rep_report.specs.declared.ending.Ending.TheVariants.{AllAnswered, SomeRefused, SourceFault, SinkFault, DeviceFault, ClockFault, OutOfMemory, InputLimit}
use Rattle.rep_report.proofs.KnownBytes.{append_known-nil}
use Rattle.rep_lane.specs.LaneText.{IsWithin, HasRead}
use Rattle.rep_lane.specs.Answers.{LineAnswer, replies_from}
use Rattle.rep_lane.specs.Desk.{AnswersLines}
use Rattle.rep_lane.specs.Serving.{ServesLines, IsServing, ServesRequest, HasServed}
use Rattle.rep_lane.specs.Line.{AnswersOne, FailsHere}
use Rattle.rep_lane.specs.declared.answering.Kind.{Kind}
use Rattle.rep_lane.specs.declared.desk.DeskFail.{DeskFail}
use Rattle.rep_lane.specs.declared.desk.DeskFail.TheVariants as fail
use Rattle.rep_lane.specs.declared.lane.End.{End}
use Rattle.rep_lane.specs.declared.lane.End.TheVariants as end
use Rattle.rep_lane.specs.declared.lane.Tally.{Tally}
use Rattle.rep_lane.proofs.ServingLemmas.{lanes_are_served}
use Rattle.rep_print.specs.Desk.{State, steps_by, Served as WasServed}
use Rattle.rep_print.specs.Extraction.{IsExtraction, rules_at}
use Rattle.rep_print.specs.Printing.{BeginsByEmployer, IsCutOff, IsEmployerLine, LacksOperatorHead, first_line}
use Rattle.rep_print.specs.Steps.{EndsAtHead, HeadsBy, AnswersFirst, FailsAtFirst, IsNext, LacksNext, Begins, ending_of, Ran, HasAnswers, EndsLane, Laned}
use Rattle.rep_print.proofs.EmployerLemmas.{no_extraction}
use Rattle.rep_print.specs.declared.ending.PrintEnding.{PrintEnding}
use Rattle.rep_print.specs.declared.ending.PrintEnding.TheVariants.{NoHead, NoEmployer, Served}

pub never_nil : {X : Type 0} (x : X) (xs : List X) → x ∷ xs ≢ []
never_nil x xs e = let long : suc (length xs) ≡ 0 = ap length e in omega arith

-- a count that rose has risen still, wherever it began lower and ended higher
pub rose-wider : (a b c d : ℕ) → a ≤ b → c ≤ d → Rose b c → Rose a d
rose-wider a b c d low high rose = omega arith

module _ {C : Type 0} (readings : C → Option (List ℕ)) (faults : C → ℕ) where
  -- how far a desk has come from this one: at the same offset, and its clock's count is the same
  abbrev pub HasCome : State C → State C → Type 0
  HasCome old s = (s.zone ≡ old.zone) × (faults s.clock ≡ faults old.clock)

  pub serving : (start : State C) → IsServing (steps_by readings faults) (rules_at start.zone) (λ (s : State C). s.history) (λ (s : State C). readings s.clock) (HasCome start)
  serving start = record {
    serves = λ old new q reply holds asked.
        let served : WasServed readings faults old q reply new = asked in (
          (served.zone ∙ holds.0, served.kept ∙ holds.1),
          (
            served.given,
            served.readings_are,
            subst (λ (z : ℤ). ServesRequest (rules_at z) old.history q served.given reply new.history) holds.0 served.serves,
          ),
        );
    extracts = λ old new from to x holds takes. (
      (takes.zone ∙ holds.0, takes.kept ∙ holds.1),
      (
        takes.minute ∷ [],
        takes.readings_are,
        record {
          minute = takes.minute;
          is_reading = takes.is_reading;
          one_reading = refl;
          front = takes.front;
          written = subst (λ (z : ℤ). IsExtraction z old.history from to takes.minute x.size x.afd) holds.0 takes.is_due;
          same = takes.history;
        },
      ),
    );
    looks = λ old new front holds shown. (
      subst (HasCome start) (sym shown.1) holds,
      shown.0,
      ap (λ (s : State C). s.history) shown.1,
      ap (λ (s : State C). readings s.clock) shown.1,
    );
  }

  pub come_here : (old : State C) → HasCome old old
  come_here old = (refl, refl)

  pub served : (head : LaneHead) (old : State C) (lines : List (List ℕ)) (answers : List LineAnswer) (desk : State C) → AnswersLines (steps_by readings faults) head old lines answers desk
      → HasServed (rules_at old.zone) (λ (s : State C). s.history) (λ (s : State C). readings s.clock) (HasCome old) head old lines answers desk
  served head old lines answers desk answered =
      lanes_are_served (steps_by readings faults) (rules_at old.zone) (λ (s : State C). s.history) (λ (s : State C). readings s.clock) (HasCome old) (serving old)
      head old lines answers desk (come_here old) answered

  -- what lines that were answered leave
  pub come : (head : LaneHead) (old : State C) (lines : List (List ℕ)) (answers : List LineAnswer) (new : State C)
      → AnswersLines (steps_by readings faults) head old lines answers new → HasCome old new
  come head old lines answers new answered =
      (served head old lines answers new answered).holds

  -- the desk's clock gave no reading, and its history is the same
  pub record IsStill (old new : State C) : Type 0 where
    pub zone : new.zone ≡ old.zone
    pub history : new.history ≡ old.history
    pub readings_are : readings new.clock ≡ readings old.clock

  pub still : (old new : State C) → new ≡ old → IsStill old new
  still old new same = record {
    zone = ap (λ (s : State C). s.zone) same;
    history = ap (λ (s : State C). s.history) same;
    readings_are = ap (λ (s : State C). readings s.clock) same;
  }

  -- a run of the lines that were answered, after which the desk may have failed
  abbrev pub ran : (head : LaneHead) (old : State C) (lines : List (List ℕ)) (answers : List LineAnswer) (desk new : State C) → old.history ≡ []
      → AnswersLines (steps_by readings faults) head old lines answers desk → BeginsByEmployer head lines → IsStill desk new → Ran readings old new answers
  ran head old lines answers desk new empty answered begins kept = record {
    run = record {
      head = head;
      lines = lines;
      given = (served head old lines answers desk answered).given;
      answers = answers;
      history = desk.history;
      serves = subst (λ (h : List Entry). ServesLines (rules_at old.zone) head h lines
          ((served head old lines answers desk answered).given) answers desk.history) empty
          (served head old lines answers desk answered).serves;
      begins = begins;
    };
    answers_are = refl;
    history = kept.history;
    readings_are = kept.readings_are ∙ (served head old lines answers desk answered).readings_are;
  }

-- line 2

-- which of a desk's ends line 2 may come to
module _ {C : Type 0} (readings : C → Option (List ℕ)) (faults : C → ℕ) (head : LaneHead) (line : List ℕ) (old new : State C) (out_old out_new : Option (List ℕ))
    (asks : IsEmployerLine head line) where
  fails_first : (why : DeskFail) → FailsHere (steps_by readings faults) head first_line why line old new out_old out_new
      → FailsAtFirst readings faults head why line old new out_old out_new
  fails_first why f = elim f.fails [
    | inl t ↦ (record {
      fails = record { request = t.request; ordered = t.ordered; failed = t.failed; nothing = refl };
      said = f.said ∙ ap (append_known out_old) t.nothing ∙ append_known-nil out_old;
    })
    | inr t ↦ absurd (no_extraction head line t.seq t.from t.to asks t.ordered)
  ]

  pub answers_first : (e : End) → AnswersOne (steps_by readings faults) head first_line line old new out_old out_new (Err e)
      → AnswersFirst readings faults head line old new out_old out_new (Err (Served (ending_of e 0)))
  answers_first end.Done a = absurd a
  answers_first end.SourceFault a = absurd a
  answers_first end.InputLimit a = absurd a
  answers_first end.SinkFault (inl a) = (asks, a)
  answers_first end.SinkFault (inr a) = absurd (fails_first fail.SinkFault a).fails.failed
  answers_first end.Stopped a = absurd (fails_first fail.Stopped a).fails.failed
  answers_first end.DeviceFault a = absurd (fails_first fail.DeviceFault a).fails.failed
  answers_first end.ClockFault a = (asks, fails_first fail.ClockFault a)
  answers_first end.OutOfMemory a = (asks, fails_first fail.OutOfMemory a)

-- a line that was given and answered as line 2
pub founds : {S C : Type 0} (left : S → Option (List ℕ)) (readings : C → Option (List ℕ)) (faults : C → ℕ) (head : LaneHead) (c_old c_new : Cutter S)
    (old new : State C) (out_old out_new : Option (List ℕ)) (line : List ℕ) (result : Result Kind PrintEnding)
    → ((text : List ℕ) (before : List (List ℕ)) → HasRead left c_old text before → IsNext left c_new line text before)
    → AnswersFirst readings faults head line old new out_old out_new result
    → Begins left readings faults head c_old c_new old new out_old out_new result
founds left readings faults head c_old c_new old new out_old out_new line (Ok kind) next a = record { line = line; answers = a; text = next }
founds left readings faults head c_old c_new old new out_old out_new line (Err NoHead) next a = absurd a
founds left readings faults head c_old c_new old new out_old out_new line (Err NoEmployer) next a = (
  a.1,
  λ text before r.
      let n = next text before r in record {
        behind = line ∷ lines_of n.read.rest;
        lines = n.read.lines ∙ append_assoc before (line ∷ []) (lines_of n.read.rest);
        lacks = a.0;
        within = n.within;
      },
)
founds left readings faults head c_old c_new old new out_old out_new line (Err (Served AllAnswered)) next a = absurd a
founds left readings faults head c_old c_new old new out_old out_new line (Err (Served SomeRefused)) next a = absurd a
founds left readings faults head c_old c_new old new out_old out_new line (Err (Served SourceFault)) next a = absurd a
founds left readings faults head c_old c_new old new out_old out_new line (Err (Served SinkFault)) next a = record { line = line; answers = a; text = next }
founds left readings faults head c_old c_new old new out_old out_new line (Err (Served DeviceFault)) next a = absurd a
founds left readings faults head c_old c_new old new out_old out_new line (Err (Served ClockFault)) next a = record { line = line; answers = a; text = next }
founds left readings faults head c_old c_new old new out_old out_new line (Err (Served OutOfMemory)) next a = record { line = line; answers = a; text = next }
founds left readings faults head c_old c_new old new out_old out_new line (Err (Served InputLimit)) next a = absurd a

-- a line that is too long doesn't ask for the employer's record
pub long_lacks : {S : Type 0} (left : S → Option (List ℕ)) (head : LaneHead) (c : Cutter S) (line : List ℕ) (text : List ℕ) (before : List (List ℕ))
    → longest_line < length line → IsWithin (suc (length before)) text → HasRead left c text (before ++ line ∷ []) → LacksNext head text before
long_lacks left head c line text before long within r = record {
  behind = line ∷ lines_of r.rest;
  lines = r.lines ∙ append_assoc before (line ∷ []) (lines_of r.rest);
  lacks = λ asks. (let short = asks.ordered.short in omega arith);
  within = within;
}

pub none_lacks : (head : LaneHead) (text : List ℕ) (before : List (List ℕ)) → lines_of text ≡ before → length text ≤ longest_text → LacksNext head text before
none_lacks head text before all short = record {
  behind = [];
  lines = all ∙ sym (append-nil before);
  lacks = tt;
  within = inl short;
}

-- the clock's count where a lane ended so
abbrev pub ClockMoves : ℕ → ℕ → PrintEnding → Type 0
ClockMoves before now ended = (before ≤ now) × (ended ≡ Served ClockFault → Rose before now) × ((ended ≡ Served ClockFault → ⊥) → now ≡ before)

no_reply_yet : (answers : List LineAnswer) → answers ≡ [] → concat (take 0 (replies_from first_line answers)) ++ [] ≡ []
no_reply_yet answers none = ap (λ (x : List LineAnswer). concat (take 0 (replies_from first_line x)) ++ []) none

-- what holds of a text that is told
pub if_some : (P Q : List ℕ → Type 0) (text : Option (List ℕ)) → ((t : List ℕ) → P t → Q t) → IfSome text P → IfSome text Q
if_some P Q None goes is = tt
if_some P Q (Some t) goes is = goes t is

pub if_told : (P : List ℕ → Type 0) (text : Option (List ℕ)) → ((t : List ℕ) → text ≡ Some t → P t) → IfSome text P
if_told P None goes = tt
if_told P (Some t) goes = goes t refl

-- a lane that ends before a line was answered
module _ {C : Type 0} (readings : C → Option (List ℕ)) (faults : C → ℕ) (head : LaneHead) (old new : State C) (out_old out_new : Option (List ℕ)) (tally : Tally)
    (empty : old.history ≡ []) (zeros : tally ≡ record { lines = 0; receipts = 0; refused = 0 }) (kept : IsStill readings faults old new) (said : out_new ≡ out_old) where
  pub unanswered : (ended : PrintEnding) (IsText : List ℕ → Type 0) → (ended ≡ Served SinkFault → ⊥) → HasAnswers [] ended
      → ((text : Option (List ℕ)) → IfSome text IsText → EndsLane text (ran readings faults head old [] [] old new empty refl tt kept).run ended)
      → Laned readings old new out_old out_new tally ended IsText
  unanswered ended IsText no_sink has ends = record {
    zone = kept.zone;
    answers = [];
    whole = 0;
    next = [];
    said = said ∙ sym (append_known-nil out_old);
    replied = inl (refl, refl, no_sink);
    tally_is = record {
      lines = ap (λ (t : Tally). t.lines) zeros;
      receipts = ap (λ (t : Tally). t.receipts) zeros;
      refused = ap (λ (t : Tally). t.refused) zeros;
    };
    has = has;
    of_lane = λ text is. record {
      ran = ran readings faults head old [] [] old new empty refl tt kept;
      in_order = λ some. absurd (some refl);
      ends = ends text is;
    };
  }

-- there is no head to begin with
pub headless : {S C : Type 0} (left : S → Option (List ℕ)) (readings : C → Option (List ℕ)) (faults : C → ℕ) (head : LaneHead) (c_old c_new : Cutter S) (old : State C)
    (out : Option (List ℕ)) (tally : Tally) (ended : PrintEnding) → old.history ≡ [] → tally ≡ record { lines = 0; receipts = 0; refused = 0 }
    → EndsAtHead ended → ((text : List ℕ) → HasRead left c_old text [] → HeadsBy left c_new text (Err ended))
    → Laned readings old old out out tally ended (λ text. HasRead left c_old text [])
headless left readings faults head c_old c_new old out tally NoHead empty zeros at heads =
    unanswered readings faults head old old out out tally empty zeros (still readings faults old old refl) refl NoHead (λ text. HasRead left c_old text []) (λ same. absurd cc) refl
    (λ text is. record { none = refl; no_head = if_some (λ t. HasRead left c_old t []) LacksOperatorHead text (λ t r. let h = heads t r in record { no_head = h.0; within = h.1 }) is })
headless left readings faults head c_old c_new old out tally NoEmployer empty zeros at heads = absurd at
headless left readings faults head c_old c_new old out tally (Served AllAnswered) empty zeros at heads = absurd at
headless left readings faults head c_old c_new old out tally (Served SomeRefused) empty zeros at heads = absurd at
headless left readings faults head c_old c_new old out tally (Served SourceFault) empty zeros at heads =
    unanswered readings faults head old old out out tally empty zeros (still readings faults old old refl) refl (Served SourceFault) (λ text. HasRead left c_old text []) (λ same. absurd cc) tt
    (λ text is. tt)
headless left readings faults head c_old c_new old out tally (Served SinkFault) empty zeros at heads = absurd at
headless left readings faults head c_old c_new old out tally (Served DeviceFault) empty zeros at heads = absurd at
headless left readings faults head c_old c_new old out tally (Served ClockFault) empty zeros at heads = absurd at
headless left readings faults head c_old c_new old out tally (Served OutOfMemory) empty zeros at heads = absurd at
headless left readings faults head c_old c_new old out tally (Served InputLimit) empty zeros at heads =
    unanswered readings faults head old old out out tally empty zeros (still readings faults old old refl) refl (Served InputLimit) (λ text. HasRead left c_old text []) (λ same. absurd cc) tt
    (λ text is. if_some (λ t. HasRead left c_old t []) (λ t. IsCutOff t (ran readings faults head old [] [] old old empty refl tt (still readings faults old old refl)).run) text
    (λ t r. let h = heads t r in record { long = h.0; read = inl (h.1, refl) }) is)
