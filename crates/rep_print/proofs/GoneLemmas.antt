-- what a lane that went on has left: an extraction that was cut is the last of its answers
use Rattle.std.proofs.Common.{◌≡◌, ℕ, suc, ◌+◌, ◌⊎◌, inl, inr, List, [], ◌∷◌, ◌++◌, length, take, drop, Option, Err, refl, sym, ap, subst, ◌∙◌, append-nil, length-append, arith}
use Rattle.std.specs.List.{concat}
use Rattle.std.specs.Io.KnownBytes.{append_known}
use Rattle.std.proofs.lemmas.List.{take_all}
use Rattle.rep_io.specs.Cutter.{Cutter}
use Rattle.rep_wire.specs.LaneGrammar.{Orders}
use Rattle.rep_wire.specs.declared.head.LaneHead.{LaneHead}
use Rattle.rep_wire.specs.declared.request.Request.{Request}
use Rattle.rep_wire.specs.declared.request.Order.TheVariants.{Asked, Extract}
use Rattle.rep_report.specs.Saying.{IsStrictFront}
use Rattle.rep_lane.specs.LaneText.{HasRead}
use Rattle.rep_lane.specs.Answers.{LineAnswer, extracted, extract_bytes, replies_from}
use Rattle.rep_lane.specs.Desk.{AnswersLine, AnswersLines}
use Rattle.rep_lane.specs.Lane.{IsTally, AnswersText, TakesLines, Runs}
use Rattle.rep_lane.specs.Line.{FailsToExtract}
use Rattle.rep_lane.specs.declared.desk.DeskFail.TheVariants as fail
use Rattle.rep_lane.specs.declared.lane.End.{End}
use Rattle.rep_lane.specs.declared.lane.End.TheVariants as end
use Rattle.rep_lane.specs.declared.lane.Tally.{Tally}
use Rattle.rep_lane.proofs.AnswerLemmas.{AnswersLines-append, replies_from-append, replies_from-length}
use Rattle.rep_print.specs.Desk.{State, Asks, Untimed, MissesTime, steps_by}
use Rattle.rep_print.specs.Writing.{HasEmployer}

-- the next line asks for a request, at which the desk failed
pub record FailsAtRequest (Failed : Request → Type 0) (head : LaneHead) (next : List (List ℕ)) : Type 0 where
  pub line : List ℕ
  pub next_is : next ≡ line ∷ []
  pub request : Request
  pub ordered : Orders head line (Asked request)
  pub failed : Failed request

-- the next line orders an extraction, at which the clock failed
pub record FailsAtPeriod {C : Type 0} (readings : C → Option (List ℕ)) (faults : C → ℕ) (head : LaneHead) (desk : State C) (next : List (List ℕ)) (new : State C) : Type 0 where
  pub line : List ℕ
  pub next_is : next ≡ line ∷ []
  pub seq : ℕ
  pub from : ℕ
  pub to : ℕ
  pub ordered : Orders head line (Extract seq from to)
  pub failed : MissesTime readings faults desk new

-- how the desk was left, once the lines were answered
abbrev pub LeavesDesk : {C : Type 0} → (C → Option (List ℕ)) → (C → ℕ) → LaneHead → State C → List (List ℕ) → State C → End → Type 0
LeavesDesk readings faults head desk next new end.Done = (next ≡ []) × (new ≡ desk)
LeavesDesk readings faults head desk next new end.SourceFault = (next ≡ []) × (new ≡ desk)
LeavesDesk readings faults head desk next new end.InputLimit = (next ≡ []) × (new ≡ desk)
LeavesDesk readings faults head desk next new end.SinkFault = (next ≡ []) × (new ≡ desk)
LeavesDesk readings faults head desk next new end.Stopped = ⊥
LeavesDesk readings faults head desk next new end.DeviceFault = ⊥
LeavesDesk readings faults head desk next new end.ClockFault =
    FailsAtRequest (λ q. Untimed readings faults desk q new) head next ⊎ FailsAtPeriod readings faults head desk next new
LeavesDesk readings faults head desk next new end.OutOfMemory =
    FailsAtRequest (λ q. Asks readings faults desk q (Err fail.OutOfMemory) new) head next

-- which of the replies were written
abbrev pub IsWritten : List (List ℕ) → ℕ → List ℕ → End → Type 0
IsWritten replies whole put end.Done = (whole ≡ length replies) × (put ≡ [])
IsWritten replies whole put end.SourceFault = (whole ≡ length replies) × (put ≡ [])
IsWritten replies whole put end.InputLimit = (whole ≡ length replies) × (put ≡ [])
IsWritten replies whole put end.SinkFault = (suc whole ≡ length replies) × IsStrictFront put (concat (drop whole replies))
IsWritten replies whole put end.Stopped = (whole ≡ length replies) × (put ≡ [])
IsWritten replies whole put end.DeviceFault = (whole ≡ length replies) × (put ≡ [])
IsWritten replies whole put end.ClockFault = (whole ≡ length replies) × (put ≡ [])
IsWritten replies whole put end.OutOfMemory = (whole ≡ length replies) × (put ≡ [])

-- what a lane has left that went on from a line
pub record Gone {S C : Type 0} (left : S → Option (List ℕ)) (readings : C → Option (List ℕ)) (faults : C → ℕ) (head : LaneHead) (number : ℕ) (c : Cutter S)
    (old new : State C) (out_old out_new : Option (List ℕ)) (tally : Tally) (e : End) : Type 0 where
  pub answers : List LineAnswer
  pub desk : State C
  pub lines : List (List ℕ)
  pub answered : AnswersLines (steps_by readings faults) head old lines answers desk
  pub whole : ℕ
  pub put : List ℕ
  pub said : out_new ≡ append_known out_old (concat (take whole (replies_from number answers)) ++ put)
  pub tally_is : IsTally (take whole answers) tally
  pub next : List (List ℕ)
  pub leaves : LeavesDesk readings faults head desk next new e
  pub written : IsWritten (replies_from number answers) whole put e
  pub text : (text : List ℕ) (before : List (List ℕ)) → HasRead left c text before
      → AnswersText (steps_by readings faults) head old answers desk next e text before

-- what comes behind a list
take_front : {X : Type 0} (xs ys : List X) → take (length xs) (xs ++ ys) ≡ xs
take_front [] ys = refl
take_front (x ∷ xs) ys = ap (λ zs. x ∷ zs) (take_front xs ys)

drop_front : {X : Type 0} (xs ys : List X) → drop (length xs) (xs ++ ys) ≡ ys
drop_front [] ys = refl
drop_front (x ∷ xs) ys = drop_front xs ys

take_whole : {X : Type 0} (n : ℕ) (xs ys : List X) → n ≡ length xs → take n (xs ++ ys) ≡ take n xs
take_whole n xs ys is =
    ap (λ (k : ℕ). take k (xs ++ ys)) is ∙ take_front xs ys ∙ sym (take_all n xs (omega (arith, is)))

drop_whole : {X : Type 0} (n : ℕ) (xs ys : List X) → n ≡ length xs → drop n (xs ++ ys) ≡ ys
drop_whole n xs ys is = ap (λ (k : ℕ). drop k (xs ++ ys)) is ∙ drop_front xs ys

module _ {S C : Type 0} (left : S → Option (List ℕ)) (readings : C → Option (List ℕ)) (faults : C → ℕ) (head : LaneHead) (number : ℕ) (c : Cutter S)
    (old new : State C) (out_old out_new : Option (List ℕ)) (tally : Tally) where
  -- nothing changes
  abbrev plain : (e : End) (r : Runs left (steps_by readings faults) head number c old new out_old out_new tally e)
      → LeavesDesk readings faults head r.desk r.next new e → IsWritten (replies_from number r.answers) r.whole r.says.next e
      → Gone left readings faults head number c old new out_old out_new tally e
  plain e r leaves written = record {
    answers = r.answers;
    desk = r.desk;
    lines = r.lines;
    answered = r.answered;
    whole = r.whole;
    put = r.says.next;
    said = r.says.said;
    tally_is = r.tally_is;
    next = r.next;
    leaves = leaves;
    written = written;
    text = r.text;
  }

  -- the extraction that was cut
  cut_short : (r : Runs left (steps_by readings faults) head number c old new out_old out_new tally end.SinkFault) (line : List ℕ) → r.next ≡ line ∷ []
      → FailsToExtract (steps_by readings faults) head (number + length r.answers) fail.SinkFault r.desk line r.says.next new
      → r.whole ≡ length (replies_from number r.answers) → Gone left readings faults head number c old new out_old out_new tally end.SinkFault
  cut_short r line taken t all =
      let due = extract_bytes (number + length r.answers) t.seq t.due in
      let a = extracted t.seq t.due in
      let step : AnswersLine (steps_by readings faults) head r.desk line a new =
      record { from = t.from; to = t.to; ordered = t.ordered; done = t.failed } in
      let replies : replies_from number (r.answers ++ a ∷ []) ≡ replies_from number r.answers ++ due ∷ [] = replies_from-append number r.answers (a ∷ []) in
      let many = replies_from-length number r.answers in
      let more : length (replies_from number r.answers ++ due ∷ []) ≡ length (replies_from number r.answers) + 1 = length-append (replies_from number r.answers) (due ∷ []) in
      let same_size = ap length replies in record {
        answers = r.answers ++ a ∷ [];
        desk = new;
        lines = r.lines ++ line ∷ [];
        answered = AnswersLines-append (steps_by readings faults) head old r.lines r.answers r.desk (line ∷ []) (a ∷ []) new r.answered (new, step, refl);
        whole = r.whole;
        put = r.says.next;
        said = r.says.said
            ∙ ap (λ (rs : List (List ℕ)). append_known out_old (concat rs ++ r.says.next))
            (sym (ap (take r.whole) replies ∙ take_whole r.whole (replies_from number r.answers) (due ∷ []) all));
        tally_is = subst (λ (xs : List LineAnswer). IsTally xs tally) (sym (take_whole r.whole r.answers (a ∷ []) (all ∙ many))) r.tally_is;
        next = [];
        leaves = (refl, refl);
        written = (
          omega arith,
          subst (λ (text : List ℕ). IsStrictFront r.says.next text)
              (sym (ap (λ (rs : List (List ℕ)). concat (drop r.whole rs)) replies ∙ ap concat (drop_whole r.whole (replies_from number r.answers) (due ∷ []) all) ∙ append-nil due))
              t.cut,
        );
        text = λ text before read.
            let told = r.text text before read in
            record {
              lines = told.lines ++ line ∷ [];
              answered = AnswersLines-append (steps_by readings faults) head old told.lines r.answers r.desk (line ∷ []) (a ∷ []) new told.answered (new, step, refl);
              takes = subst (λ (ls : List (List ℕ)). TakesLines text before ls end.SinkFault)
                  (ap (λ (n : List (List ℕ)). told.lines ++ n) taken ∙ sym (append-nil (told.lines ++ line ∷ []))) told.takes;
            };
      }

  pub gone : (e : End) (r : Runs left (steps_by readings faults) head number c old new out_old out_new tally e) → HasEmployer r.desk.history
      → Gone left readings faults head number c old new out_old out_new tally e
  gone end.Done r has = plain end.Done r (r.ends.none_taken, r.ends.same) (r.ends.all, r.ends.nothing)
  gone end.SourceFault r has = plain end.SourceFault r (r.ends.none_taken, r.ends.same) (r.ends.all, r.ends.nothing)
  gone end.InputLimit r has = plain end.InputLimit r (r.ends.none_taken, r.ends.same) (r.ends.all, r.ends.nothing)
  gone end.SinkFault r has = elim r.ends [
    | inl reply ↦ plain end.SinkFault r (reply.none_taken, reply.same) (reply.all_before, reply.cut)
    | inr at ↦ elim at.fails [
      | inl t ↦ absurd t.failed
      | inr t ↦ cut_short r at.line at.taken t at.all
    ]
  ]
  gone end.Stopped r has = elim r.ends.fails [
    | inl t ↦ absurd t.failed
    | inr t ↦ absurd (t.failed.none has)
  ]
  gone end.DeviceFault r has = elim r.ends.fails [
    | inl t ↦ absurd t.failed
    | inr t ↦ absurd t.failed
  ]
  gone end.ClockFault r has = elim r.ends.fails [
    | inl t ↦ plain end.ClockFault r (inl (record { line = r.ends.line; next_is = r.ends.taken; request = t.request; ordered = t.ordered; failed = t.failed })) (r.ends.all, t.nothing)
    | inr t ↦ plain end.ClockFault r
        (inr (record {
          line = r.ends.line;
          next_is = r.ends.taken;
          seq = t.seq;
          from = t.from;
          to = t.to;
          ordered = t.ordered;
          failed = t.failed;
        })) (r.ends.all, t.nothing (λ same. absurd cc) (λ same. absurd cc))
  ]
  gone end.OutOfMemory r has = elim r.ends.fails [
    | inl t ↦ plain end.OutOfMemory r (record { line = r.ends.line; next_is = r.ends.taken; request = t.request; ordered = t.ordered; failed = t.failed }) (r.ends.all, t.nothing)
    | inr t ↦ absurd t.failed
  ]
