-- how a lane that is printed stops at line 2
use Rattle.std.proofs.Common.{◌≡◌, ℕ, inl, inr, List, [], ◌∷◌, Option, Err, refl, ap, ◌∙◌, append-nil, arith}
use Rattle.rep_io.specs.Lines.{lines_of}
use Rattle.rep_io.specs.Cutter.{Cutter}
use Rattle.rep_wire.specs.Reply.{reply_text}
use Rattle.rep_wire.specs.declared.head.LaneHead.{LaneHead}
use Rattle.rep_report.specs.declared.ending.Ending.TheVariants.{AllAnswered, SomeRefused, SourceFault, SinkFault, DeviceFault, ClockFault, OutOfMemory, InputLimit}
use Rattle.rep_lane.specs.Answers.{replied}
use Rattle.rep_lane.specs.declared.lane.Tally.{Tally}
use Rattle.rep_print.specs.Desk.{State, Untimed}
use Rattle.rep_print.specs.Printing.{IsCutOff, IsNextLineOf, IsRunOf, LacksLineTwo, Run}
use Rattle.rep_print.specs.Steps.{Begins, Laned, IsHeaded, IsRefusal}
use Rattle.rep_print.specs.declared.ending.PrintEnding.{PrintEnding}
use Rattle.rep_print.specs.declared.ending.PrintEnding.TheVariants.{NoHead, NoEmployer, Served}
use Rattle.rep_print.proofs.LaneLemmas.{ClockMoves, come, if_some, ran, still, IsStill, unanswered}

-- the clock failed, and the desk is as it was but for that
pub untimed_still : {C : Type 0} (readings : C → Option (List ℕ)) (faults : C → ℕ) (old : State C) (q : _) (new : State C) → Untimed readings faults old q new → IsStill readings faults old new
untimed_still readings faults old q new u = record { zone = u.zone; history = u.history; readings_are = u.readings_are }

module _ {S C : Type 0} (left : S → Option (List ℕ)) (readings : C → Option (List ℕ)) (faults : C → ℕ) (head : LaneHead) (c_old c_new : Cutter S) (old new : State C)
    (out_old out_new : Option (List ℕ)) (tally : Tally) (empty : old.history ≡ []) (zeros : tally ≡ record { lines = 0; receipts = 0; refused = 0 }) where
  -- the run of no line
  abbrev here : IsStill readings faults old new → Run old.zone
  here kept = (ran readings faults head old [] [] old new empty refl tt kept).run

  pub stopped : (ended : PrintEnding) → Begins left readings faults head c_old c_new old new out_old out_new (Err ended)
      → Laned readings old new out_old out_new tally ended (IsHeaded left head c_old)
  stopped NoHead b = absurd b
  stopped NoEmployer b =
      unanswered readings faults head old new out_old out_new tally empty zeros (still readings faults old new b.0.same) b.0.said NoEmployer (IsHeaded left head c_old) (λ same. absurd cc) refl
      (λ text is. record {
        none = refl;
        lacks = if_some (IsHeaded left head c_old) (λ t. LacksLineTwo t (here (still readings faults old new b.0.same))) text
            (λ t headed.
            let l = b.1 t (headed.0 ∷ []) headed.2 in
            record { of_text = record { first = headed.0; headed = headed.1; behind = l.behind; lines = l.lines }; lacks = l.lacks; within = l.within }) is;
      })
  stopped (Served AllAnswered) b = absurd b
  stopped (Served SomeRefused) b = absurd b
  stopped (Served DeviceFault) b = absurd b
  stopped (Served SourceFault) b =
      unanswered readings faults head old new out_old out_new tally empty zeros (still readings faults old new b.same) b.said (Served SourceFault) (IsHeaded left head c_old) (λ same. absurd cc) tt
      (λ text is. tt)
  stopped (Served InputLimit) b =
      unanswered readings faults head old new out_old out_new tally empty zeros (still readings faults old new b.0.same) b.0.said (Served InputLimit) (IsHeaded left head c_old) (λ same. absurd cc) tt
      (λ text is. if_some (IsHeaded left head c_old) (λ t. IsCutOff t (here (still readings faults old new b.0.same))) text
      (λ t headed.
      let l = b.1 t (headed.0 ∷ []) headed.2 in
      record { long = l.0; read = inr (record { first = headed.0; headed = headed.1; behind = lines_of headed.2.rest; lines = headed.2.lines }, l.1) }) is)
  stopped (Served ClockFault) b =
      let fails = b.answers.1.fails in
      unanswered readings faults head old new out_old out_new tally empty zeros (untimed_still readings faults old fails.request new fails.failed) b.answers.1.said (Served ClockFault) (IsHeaded left head c_old)
      (λ same. absurd cc) tt
      (λ text is. inl (record {
        line = b.line;
        next = if_some (IsHeaded left head c_old) (λ t. IsNextLineOf t (here (untimed_still readings faults old fails.request new fails.failed)) b.line) text
            (λ t headed.
            let n = b.text t (headed.0 ∷ []) headed.2 in
            record {
              of_text = record { first = headed.0; headed = headed.1; behind = b.line ∷ lines_of n.read.rest; lines = n.read.lines };
              rest = lines_of n.read.rest;
              next = refl;
              within = n.within;
            }) is;
        request = fails.request;
        ordered = fails.ordered;
        fresh = fails.failed.fresh;
        begins = b.answers.0;
      }))
  stopped (Served OutOfMemory) b =
      let fails = b.answers.1.fails in
      unanswered readings faults head old new out_old out_new tally empty zeros (still readings faults old new fails.failed.1) b.answers.1.said (Served OutOfMemory) (IsHeaded left head c_old)
      (λ same. absurd cc) tt
      (λ text is. record {
        line = b.line;
        next = if_some (IsHeaded left head c_old) (λ t. IsNextLineOf t (here (still readings faults old new fails.failed.1)) b.line) text
            (λ t headed.
            let n = b.text t (headed.0 ∷ []) headed.2 in
            record {
              of_text = record { first = headed.0; headed = headed.1; behind = b.line ∷ lines_of n.read.rest; lines = n.read.lines };
              rest = lines_of n.read.rest;
              next = refl;
              within = n.within;
            }) is;
        request = fails.request;
        ordered = fails.ordered;
        fresh = fails.failed.0;
        begins = b.answers.0;
      })
  stopped (Served SinkFault) b =
      let writes = b.answers.1 in
      let a = replied writes.a in
      record {
        zone = (come readings faults head old (b.line ∷ []) (a ∷ []) new (new, writes.answers, refl)).0;
        answers = a ∷ [];
        whole = 0;
        next = writes.put;
        said = writes.said;
        replied = inr (refl, (writes.cut.0, writes.cut.1, append-nil (reply_text 2 writes.a.seq writes.a.reply) ∙ writes.cut.2), refl);
        tally_is = record {
          lines = ap (λ (t : Tally). t.lines) zeros;
          receipts = ap (λ (t : Tally). t.receipts) zeros;
          refused = ap (λ (t : Tally). t.refused) zeros;
        };
        has = tt;
        of_lane = λ text is. record {
          ran = ran readings faults head old (b.line ∷ []) (a ∷ []) new new empty (new, writes.answers, refl) b.answers.0 (still readings faults new new refl);
          in_order = λ some. if_some (IsHeaded left head c_old)
              (λ t. IsRunOf t (ran readings faults head old (b.line ∷ []) (a ∷ []) new new empty (new, writes.answers, refl) b.answers.0 (still readings faults new new refl)).run) text
              (λ t headed.
              let n = b.text t (headed.0 ∷ []) headed.2 in
              record { first = headed.0; headed = headed.1; behind = lines_of n.read.rest; lines = n.read.lines }) is;
          ends = tt;
        };
      }

  -- and what the clock's count did
  pub clock_moves : (ended : PrintEnding) → Begins left readings faults head c_old c_new old new out_old out_new (Err ended) → ClockMoves (faults old.clock) (faults new.clock) ended
  clock_moves NoHead b = absurd b
  clock_moves NoEmployer b = (let same : faults new.clock ≡ faults old.clock = ap (λ (s : State C). faults s.clock) b.0.same in omega arith, λ same. absurd cc, λ other. ap (λ (s : State C). faults s.clock) b.0.same)
  clock_moves (Served AllAnswered) b = absurd b
  clock_moves (Served SomeRefused) b = absurd b
  clock_moves (Served DeviceFault) b = absurd b
  clock_moves (Served SourceFault) b = (let same : faults new.clock ≡ faults old.clock = ap (λ (s : State C). faults s.clock) b.same in omega arith, λ same. absurd cc, λ other. ap (λ (s : State C). faults s.clock) b.same)
  clock_moves (Served InputLimit) b = (let same : faults new.clock ≡ faults old.clock = ap (λ (s : State C). faults s.clock) b.0.same in omega arith, λ same. absurd cc, λ other. ap (λ (s : State C). faults s.clock) b.0.same)
  clock_moves (Served ClockFault) b = (b.answers.1.fails.failed.later, λ same. b.answers.1.fails.failed.cause, λ other. absurd (other refl))
  clock_moves (Served OutOfMemory) b =
      (let same : faults new.clock ≡ faults old.clock = ap (λ (s : State C). faults s.clock) b.answers.1.fails.failed.1 in omega arith, λ same. absurd cc, λ other. ap (λ (s : State C). faults s.clock) b.answers.1.fails.failed.1)
  clock_moves (Served SinkFault) b =
      (let same : faults new.clock ≡ faults old.clock = (come readings faults head old (b.line ∷ []) (replied b.answers.1.a ∷ []) new (new, b.answers.1.answers, refl)).1 in omega arith, λ same. absurd cc, λ other. (come readings faults head old (b.line ∷ []) (replied b.answers.1.a ∷ []) new (new, b.answers.1.answers, refl)).1)

  -- a lane that is refused leaves the desk as it was
  pub refused_same : (ended : PrintEnding) → Begins left readings faults head c_old c_new old new out_old out_new (Err ended) → IsRefusal ended → new ≡ old
  refused_same NoHead b refused = absurd b
  refused_same NoEmployer b refused = b.0.same
  refused_same (Served e) b refused = absurd refused
