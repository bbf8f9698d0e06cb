-- what comes of a lane's next line
use Rattle.std.proofs.Common.{◌≡◌, ℕ, suc, ◌+◌, ◌<◌, ◌⊎◌, inl, inr, List, [], ◌∷◌, ◌++◌, length, Option, Result, Ok, Err, refl, sym, ap, subst, ◌∙◌, append-nil, arith}
use Rattle.rep_io.specs.Lines.{lines_of, longest_line}
use Rattle.rep_io.specs.Cutter.{Cutter, line_start}
use Rattle.rep_wire.specs.Reply.{reply_text}
use Rattle.rep_wire.specs.declared.head.LaneHead.{LaneHead}
use Rattle.rep_report.proofs.KnownBytes.{append_known-nil}
use Rattle.rep_lane.specs.LaneText.{HasRead, IsWithin}
use Rattle.rep_lane.specs.Answers.{LineAnswer, replied}
use Rattle.rep_lane.specs.Desk.{Steps, AnswersLine}
use Rattle.rep_lane.specs.Line.{AnswersOne, FailsAt, FailsHere, CutsReply}
use Rattle.rep_lane.specs.Lane.{EndsLane, EndsText, TakesLines, Runs}
use Rattle.rep_lane.specs.Next.{TakesNext, no_lines}
use Rattle.rep_lane.specs.declared.answering.Kind.{Kind}
use Rattle.rep_lane.specs.declared.desk.DeskFail.{DeskFail}
use Rattle.rep_lane.specs.declared.desk.DeskFail.TheVariants as fail
use Rattle.rep_lane.specs.declared.lane.End.{End}
use Rattle.rep_lane.specs.declared.lane.End.TheVariants.{Done, SourceFault, InputLimit, SinkFault, Stopped, DeviceFault, ClockFault, OutOfMemory}
use Rattle.rep_lane.proofs.AnswerLemmas.{AnswersLine-long}

-- the same line, or both too long
abbrev pub IsAs : List ℕ → List ℕ → Type 0
IsAs real line = (real ≡ line) ⊎ ((longest_line < length real) × (longest_line < length line))

-- the text's next line was read, and told as this one
pub record ReadsLine {S : Type 0} (left : S → Option (List ℕ)) (after : Cutter S) (line : List ℕ) (text : List ℕ) (before : List (List ℕ)) : Type 0 where
  pub real : List ℕ
  pub told : IsAs real line
  pub within : IsWithin (suc (length before)) text
  pub read : HasRead left after text (before ++ real ∷ [])

pub answers_real : {Q : Type 0} (steps : Steps Q) (head : LaneHead) (old : Q) (real line : List ℕ) (a : LineAnswer) (new : Q) → IsAs real line
    → AnswersLine steps head old line a new → AnswersLine steps head old real a new
answers_real steps head old real line a new (inl same) t = subst (λ (l : List ℕ). AnswersLine steps head old l a new) (sym same) t
answers_real steps head old real line a new (inr long) t = AnswersLine-long steps head head old line real a new long.1 long.0 t

-- a line at which the desk failed isn't too long
fails_real : {Q : Type 0} (steps : Steps Q) (head : LaneHead) (number : ℕ) (why : DeskFail) (old : Q) (real line put : List ℕ) (new : Q) → IsAs real line
    → FailsAt steps head number why old line put new → real ≡ line
fails_real steps head number why old real line put new (inl same) f = same
fails_real steps head number why old real line put new (inr long) (inl f) = let short = f.ordered.short in absurd (omega arith)
fails_real steps head number why old real line put new (inr long) (inr f) = let short = f.ordered.short in absurd (omega arith)

within-snoc : (text : List ℕ) (n : ℕ) → IsWithin (suc n) text → IsWithin (n + 1) text
within-snoc text n within = subst (λ (k : ℕ). IsWithin k text) (omega arith) within

-- the number of the next line where none was answered
number-none : (number : ℕ) → number ≡ number + length {A = LineAnswer} []
number-none number = omega arith

-- the lane ends before a line was taken
pub ends_now : {S Q : Type 0} (left : S → Option (List ℕ)) (steps : Steps Q) (head : LaneHead) (number : ℕ) (c : Cutter S) (q : Q) (out : Option (List ℕ))
    (ended : End) → EndsLane steps head (number + length {A = LineAnswer} []) q [] q [] 0 [] ended
    → ((text : List ℕ) (before : List (List ℕ)) → HasRead left c text before → TakesLines text before [] ended)
    → Runs left steps head number c q q out out no_lines ended
ends_now left steps head number c q out ended ends takes = record {
  answers = [];
  desk = q;
  lines = [];
  answered = refl;
  whole = 0;
  says = record { next = []; said = sym (append_known-nil out) };
  tally_is = record { lines = refl; receipts = refl; refused = refl };
  next = [];
  ends = ends;
  text = λ text before r. record { lines = []; answered = refl; takes = takes text before r };
}

-- where nothing more is taken, the text's lines are those before and what is left
pub takes_none : {S : Type 0} (left : S → Option (List ℕ)) (c : Cutter S) (text : List ℕ) (before : List (List ℕ)) (ended : End) (rest : List (List ℕ))
    → lines_of text ≡ before ++ rest → EndsText text (length before) rest ended → TakesLines text before [] ended
takes_none left c text before ended rest lines ends = record {
  rest = rest;
  lines = lines ∙ ap (λ (l : List (List ℕ)). l ++ rest) (sym (append-nil before));
  ends = subst (λ (n : ℕ). EndsText text n rest ended) (omega arith) ends;
}

-- the lane ends at a line
module _ {S Q : Type 0} (left : S → Option (List ℕ)) (steps : Steps Q) (head : LaneHead) (number : ℕ) (c after : Cutter S) (old new : Q)
    (out_old out_new : Option (List ℕ)) (line : List ℕ)
    (reads : (text : List ℕ) (before : List (List ℕ)) → HasRead left c text before → ReadsLine left after line text before) where
  -- the desk failed there
  fails_at : (why : DeskFail) (ended : End) (f : FailsHere steps head number why line old new out_old out_new)
      → (FailsAt steps head (number + length {A = LineAnswer} []) why old line f.put new → EndsLane steps head (number + length {A = LineAnswer} []) old (line ∷ []) new [] 0 f.put ended)
      → ((text : List ℕ) (taken : ℕ) (rest : List (List ℕ)) → IsWithin taken text → EndsText text taken rest ended)
      → Runs left steps head number c old new out_old out_new no_lines ended
  fails_at why ended f ends within = record {
    answers = [];
    desk = old;
    lines = [];
    answered = refl;
    whole = 0;
    says = record { next = f.put; said = f.said };
    tally_is = record { lines = refl; receipts = refl; refused = refl };
    next = line ∷ [];
    ends = ends (subst (λ (n : ℕ). FailsAt steps head n why old line f.put new) (number-none number) f.fails);
    text = λ text before r.
        let x = reads text before r in
        record {
          lines = [];
          answered = refl;
          takes = record {
            rest = lines_of x.read.rest;
            lines = x.read.lines ∙ ap (λ (l : List ℕ). (before ++ l ∷ []) ++ lines_of x.read.rest) (fails_real steps head number why old x.real line f.put new x.told f.fails);
            ends = within text (length before + 1) (lines_of x.read.rest) (within-snoc text (length before) x.within);
          };
        };
  }

  -- the reply was cut there
  cut_at : CutsReply steps head number line old new out_old out_new → Runs left steps head number c old new out_old out_new no_lines SinkFault
  cut_at t = record {
    answers = replied t.a ∷ [];
    desk = new;
    lines = line ∷ [];
    answered = (new, t.answers, refl);
    whole = 0;
    says = record { next = t.put; said = t.said };
    tally_is = record { lines = refl; receipts = refl; refused = refl };
    next = [];
    ends = inl (record {
      none_taken = refl;
      same = refl;
      all_before = refl;
      cut = (t.cut.0, t.cut.1, append-nil (reply_text number t.a.seq t.a.reply) ∙ t.cut.2);
    });
    text = λ text before r.
        let x = reads text before r in
        record {
          lines = x.real ∷ [];
          answered = (new, answers_real steps head old x.real line (replied t.a) new x.told t.answers, refl);
          takes = record { rest = lines_of x.read.rest; lines = x.read.lines; ends = within-snoc text (length before) x.within };
        };
  }

  -- the next line was taken, or the lane ended there
  pub line_taken : line_start c < line_start after → (result : Result Kind End) → AnswersOne steps head number line old new out_old out_new result
      → TakesNext left steps head number c after old new out_old out_new result
  line_taken advances (Ok kind) t = record {
    a = t.a;
    line = line;
    answered = t.answers;
    said = t.said;
    is_kind = t.is_kind;
    advances = advances;
    text = λ text before r.
        let x = reads text before r in
        record { line = x.real; answered = answers_real steps head old x.real line t.a new x.told t.answers; read = x.read };
  }
  line_taken advances (Err SinkFault) (inl t) = cut_at t
  line_taken advances (Err SinkFault) (inr t) =
      fails_at fail.SinkFault SinkFault t (λ fails. inr (record { line = line; taken = refl; fails = fails; all = refl })) (λ text taken rest within. within)
  line_taken advances (Err Stopped) t =
      fails_at fail.Stopped Stopped t (λ fails. record { line = line; taken = refl; fails = fails; all = refl }) (λ text taken rest within. within)
  line_taken advances (Err DeviceFault) t =
      fails_at fail.DeviceFault DeviceFault t (λ fails. record { line = line; taken = refl; fails = fails; all = refl }) (λ text taken rest within. within)
  line_taken advances (Err ClockFault) t =
      fails_at fail.ClockFault ClockFault t (λ fails. record { line = line; taken = refl; fails = fails; all = refl }) (λ text taken rest within. within)
  line_taken advances (Err OutOfMemory) t =
      fails_at fail.OutOfMemory OutOfMemory t (λ fails. record { line = line; taken = refl; fails = fails; all = refl }) (λ text taken rest within. within)
  line_taken advances (Err Done) t = absurd t
  line_taken advances (Err SourceFault) t = absurd t
  line_taken advances (Err InputLimit) t = absurd t

-- an answered line doesn't end the lane by its text
pub not_by_text : {Q : Type 0} (steps : Steps Q) (head : LaneHead) (number : ℕ) (line : List ℕ) (old new : Q) (out_old out_new : Option (List ℕ))
    (result : Result Kind End) (ended : End) → (AnswersOne steps head number line old new out_old out_new (Err ended) → ⊥)
    → AnswersOne steps head number line old new out_old out_new result → result ≡ Err ended → ⊥
not_by_text steps head number line old new out_old out_new result ended never t is =
    never (subst (λ (r : Result Kind End). AnswersOne steps head number line old new out_old out_new r) is t)
