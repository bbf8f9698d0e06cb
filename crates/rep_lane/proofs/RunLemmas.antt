-- how the lines of a lane are answered one after another
use Rattle.std.proofs.Common.{◌≡◌, ℕ, ◌+◌, ◌≤◌, inl, inr, List, [], ◌∷◌, ◌++◌, length, take, drop, Option, refl, sym, ap, subst, ◌∙◌, append_assoc, append-nil, length-append, arith}
use Rattle.std.specs.List.{concat}
use Rattle.std.specs.Io.KnownBytes.{append_known}
use Rattle.std.proofs.Math.Seq.{take-append-add, drop-append-add}
use Rattle.std.proofs.lemmas.List.{nil_from_length}
use Rattle.std.proofs.lemmas.List.Folds.{concat-append}
use Rattle.rep_io.specs.Cutter.{Cutter, line_start}
use Rattle.rep_wire.specs.declared.head.LaneHead.{LaneHead}
use Rattle.rep_report.specs.Saying.{IsStrictFront}
use Rattle.rep_report.proofs.KnownBytes.{append_known-nil, append_known-append}
use Rattle.rep_lane.specs.LaneText.{HasRead}
use Rattle.rep_lane.specs.Answers.{LineAnswer, answer_bytes, replies_from, kind_of, as_receipt, as_refusal, receipts_in, refusals_in}
use Rattle.rep_lane.specs.Desk.{Steps, AnswersLines}
use Rattle.rep_lane.specs.Lane.{IsTally, EndsBetween, EndsInReply, EndsAtDesk, EndsLane, EndsText, TakesLines, Runs}
use Rattle.rep_lane.specs.Next.{TakesOne, no_lines}
use Rattle.rep_lane.specs.declared.answering.Kind.{Kind}
use Rattle.rep_lane.specs.declared.desk.DeskFail.{DeskFail}
use Rattle.rep_lane.specs.declared.desk.DeskFail.TheVariants as fail
use Rattle.rep_lane.specs.declared.lane.End.{End}
use Rattle.rep_lane.specs.declared.lane.End.TheVariants.{Done, SourceFault, InputLimit, SinkFault, Stopped, DeviceFault, ClockFault, OutOfMemory}
use Rattle.rep_lane.specs.declared.lane.Tally.{Tally}
use Rattle.rep_lane.proofs.AnswerLemmas.{AnswersLines-append, AnswersLines-push, replies_from-length, replies_from-append, receipts_in-append, refusals_in-append}

-- the text's lines behind those before have these answers so far
pub record SoFar {S Q : Type 0} (left : S → Option (List ℕ)) (steps : Steps Q) (head : LaneHead) (old now : Q) (answers : List LineAnswer)
    (c : Cutter S) (text : List ℕ) (before : List (List ℕ)) : Type 0 where
  pub lines : List (List ℕ)
  pub answered : AnswersLines steps head old lines answers now
  pub read : HasRead left c text (before ++ lines)

-- the lines from `first` on up to the one before `number` were answered
pub record UnderWay {S Q : Type 0} (left : S → Option (List ℕ)) (steps : Steps Q) (head : LaneHead) (first number : ℕ) (c_old c : Cutter S)
    (old now : Q) (out_old out : Option (List ℕ)) (tally : Tally) : Type 0 where
  pub answers : List LineAnswer
  pub lines : List (List ℕ)
  pub answered : AnswersLines steps head old lines answers now
  pub counted : number ≡ first + length answers
  pub far : line_start c_old + length answers ≤ line_start c
  pub said : out ≡ append_known out_old (concat (replies_from first answers))
  pub tally_is : IsTally answers tally
  pub text : (text : List ℕ) (before : List (List ℕ)) → HasRead left c_old text before → SoFar left steps head old now answers c text before

-- no line was answered yet
pub start : {S Q : Type 0} (left : S → Option (List ℕ)) (steps : Steps Q) (head : LaneHead) (first : ℕ) (c : Cutter S) (q : Q) (out : Option (List ℕ))
    → UnderWay left steps head first first c c q q out out no_lines
start left steps head first c q out = record {
  answers = [];
  lines = [];
  answered = refl;
  counted = omega arith;
  far = omega arith;
  said = sym (append_known-nil out);
  tally_is = record { lines = refl; receipts = refl; refused = refl };
  text = λ text before r. record { lines = []; answered = refl; read = subst (λ (ls : List (List ℕ)). HasRead left c text ls) (sym (append-nil before)) r };
}

-- by one line more the tally counts it
pub record Counts (old new : Tally) (kind : Kind) : Type 0 where
  pub lines : new.lines ≡ old.lines + 1
  pub receipts : new.receipts ≡ old.receipts + as_receipt kind
  pub refused : new.refused ≡ old.refused + as_refusal kind

tally-push : (answers : List LineAnswer) (a : LineAnswer) (old new : Tally) (kind : Kind) → kind ≡ kind_of a → Counts old new kind
    → IsTally answers old → IsTally (answers ++ a ∷ []) new
tally-push answers a old new kind is_kind counts is =
    let more : length (answers ++ a ∷ []) ≡ length answers + 1 = length-append answers (a ∷ []) in
    let receipts : receipts_in (answers ++ a ∷ []) ≡ receipts_in answers + (as_receipt (kind_of a) + 0) = receipts_in-append answers (a ∷ []) in
    let refusals : refusals_in (answers ++ a ∷ []) ≡ refusals_in answers + (as_refusal (kind_of a) + 0) = refusals_in-append answers (a ∷ []) in
    let receipt : as_receipt kind ≡ as_receipt (kind_of a) = ap as_receipt is_kind in
    let refusal : as_refusal kind ≡ as_refusal (kind_of a) = ap as_refusal is_kind in
    let lines_is = is.lines in
    let receipts_is = is.receipts in
    let refused_is = is.refused in
    let lines_more = counts.lines in
    let receipts_more = counts.receipts in
    let refused_more = counts.refused in
    record { lines = omega arith; receipts = omega arith; refused = omega arith }

-- the bytes of one line more
replies-push : (first number : ℕ) (answers : List LineAnswer) (a : LineAnswer) → number ≡ first + length answers
    → concat (replies_from first (answers ++ a ∷ [])) ≡ concat (replies_from first answers) ++ answer_bytes number a
replies-push first number answers a counted =
    ap concat (replies_from-append first answers (a ∷ []))
    ∙ concat-append (replies_from first answers) (replies_from (first + length answers) (a ∷ []))
    ∙ ap (λ (xs : List ℕ). concat (replies_from first answers) ++ xs) (append-nil (answer_bytes (first + length answers) a))
    ∙ ap (λ (n : ℕ). concat (replies_from first answers) ++ answer_bytes n a) (sym counted)

module _ {S Q : Type 0} (left : S → Option (List ℕ)) (steps : Steps Q) (head : LaneHead) (first number : ℕ) (c_old c : Cutter S)
    (old now : Q) (out_old out : Option (List ℕ)) (tally : Tally)
    (u : UnderWay left steps head first number c_old c old now out_old out tally) where
  pub goes_on : (after : Cutter S) (new : Q) (out_new : Option (List ℕ)) (kind : Kind) (more : Tally)
      → TakesOne left steps head number c after now new out out_new kind → Counts tally more kind
      → UnderWay left steps head first (number + 1) c_old after old new out_old out_new more
  goes_on after new out_new kind more t counts =
      let counted = u.counted in
      let far = u.far in
      let advances = t.advances in
      let longer : length (u.answers ++ t.a ∷ []) ≡ length u.answers + 1 = length-append u.answers (t.a ∷ []) in
      record {
        answers = u.answers ++ t.a ∷ [];
        lines = u.lines ++ t.line ∷ [];
        answered = AnswersLines-push steps head old u.lines u.answers now t.line t.a new u.answered t.answered;
        counted = omega arith;
        far = omega arith;
        said = t.said ∙ ap (λ (o : Option (List ℕ)). append_known o (answer_bytes number t.a)) u.said
            ∙ append_known-append out_old (concat (replies_from first u.answers)) (answer_bytes number t.a)
            ∙ ap (append_known out_old) (sym (replies-push first number u.answers t.a u.counted));
        tally_is = tally-push u.answers t.a tally more kind t.is_kind counts u.tally_is;
        text = λ text before r.
            let x = u.text text before r in
            let y = t.text text (before ++ x.lines) x.read in
            record {
              lines = x.lines ++ y.line ∷ [];
              answered = AnswersLines-push steps head old x.lines u.answers now y.line t.a new x.answered y.answered;
              read = subst (λ (ls : List (List ℕ)). HasRead left after text ls) (append_assoc before x.lines (y.line ∷ [])) y.read;
            };
      }

-- how a lane ends, behind more replies
module _ {Q : Type 0} (steps : Steps Q) (head : LaneHead) (number : ℕ) (old : Q) (next : List (List ℕ)) (new : Q) (replies others all : List (List ℕ)) (whole : ℕ)
    (bytes : List ℕ) (size : length all ≡ length replies + length others) (behind : drop (length replies + whole) all ≡ drop whole others) where
  between-behind : EndsBetween old next new others whole bytes → EndsBetween old next new all (length replies + whole) bytes
  between-behind e = record { none_taken = e.none_taken; same = e.same; all = (let last = e.all in omega arith); nothing = e.nothing }

  reply-behind : EndsInReply old next new others whole bytes → EndsInReply old next new all (length replies + whole) bytes
  reply-behind e = record {
    none_taken = e.none_taken;
    same = e.same;
    all_before = (let last = e.all_before in omega arith);
    cut = subst (λ (rs : List (List ℕ)). IsStrictFront bytes (concat rs)) (sym behind) e.cut;
  }

  desk-behind : (why : DeskFail) → EndsAtDesk steps head number why old next new others whole bytes → EndsAtDesk steps head number why old next new all (length replies + whole) bytes
  desk-behind why e = record { line = e.line; taken = e.taken; fails = e.fails; all = (let last = e.all in omega arith) }

  ends-behind : (ended : End) → EndsLane steps head number old next new others whole bytes ended → EndsLane steps head number old next new all (length replies + whole) bytes ended
  ends-behind Done e = between-behind e
  ends-behind SourceFault e = between-behind e
  ends-behind InputLimit e = between-behind e
  ends-behind SinkFault (inl e) = inl (reply-behind e)
  ends-behind SinkFault (inr e) = inr (desk-behind fail.SinkFault e)
  ends-behind Stopped e = desk-behind fail.Stopped e
  ends-behind DeviceFault e = desk-behind fail.DeviceFault e
  ends-behind ClockFault e = desk-behind fail.ClockFault e
  ends-behind OutOfMemory e = desk-behind fail.OutOfMemory e

-- the lines behind lines
takes-behind : (text : List ℕ) (before lines more : List (List ℕ)) (next : List (List ℕ)) (ended : End) → TakesLines text (before ++ lines) (more ++ next) ended
    → TakesLines text before ((lines ++ more) ++ next) ended
takes-behind text before lines more next ended t =
    let moved : before ++ lines ++ (more ++ next) ≡ before ++ ((lines ++ more) ++ next) =
    append_assoc before lines (more ++ next) ∙ ap (λ (l : List (List ℕ)). before ++ l) (sym (append_assoc lines more next)) in
    let inner : length (lines ++ more ++ next) ≡ length (lines ++ more) + length next = length-append (lines ++ more) next in
    let outer : length (lines ++ more) ≡ length lines + length more = length-append lines more in
    let front : length (before ++ lines) ≡ length before + length lines = length-append before lines in
    let back : length (more ++ next) ≡ length more + length next = length-append more next in
    let same : length (before ++ lines) + length (more ++ next) ≡ length before + length (lines ++ more ++ next) = omega arith in
    record {
      rest = t.rest;
      lines = t.lines ∙ ap (λ (l : List (List ℕ)). l ++ t.rest) moved;
      ends = subst (λ (n : ℕ). EndsText text n t.rest ended) same t.ends;
    }

module _ {S Q : Type 0} (left : S → Option (List ℕ)) (steps : Steps Q) (head : LaneHead) (first number : ℕ) (c_old c : Cutter S)
    (old now new : Q) (out_old out out_new : Option (List ℕ)) (tally : Tally) (ended : End)
    (u : UnderWay left steps head first number c_old c old now out_old out tally)
    (t : Runs left steps head number c now new out out_new no_lines ended) where
  replies : List (List ℕ)
  replies = replies_from first u.answers

  others : List (List ℕ)
  others = replies_from number t.answers

  all_replies : replies_from first (u.answers ++ t.answers) ≡ replies_from first u.answers ++ replies_from number t.answers
  all_replies =
      replies_from-append first u.answers t.answers
      ∙ ap (λ (n : ℕ). replies_from first u.answers ++ replies_from n t.answers) (sym u.counted)

  as_many : length (replies_from first u.answers) ≡ length u.answers
  as_many = replies_from-length first u.answers

  taken : take (length u.answers + t.whole) (replies_from first (u.answers ++ t.answers)) ≡ replies_from first u.answers ++ take t.whole (replies_from number t.answers)
  taken =
      ap (λ (n : ℕ). take (n + t.whole) (replies_from first (u.answers ++ t.answers))) (sym as_many)
      ∙ ap (take (length (replies_from first u.answers) + t.whole)) all_replies
      ∙ take-append-add (replies_from first u.answers) (replies_from number t.answers) t.whole

  left_over : drop (length (replies_from first u.answers) + t.whole) (replies_from first (u.answers ++ t.answers)) ≡ drop t.whole (replies_from number t.answers)
  left_over =
      ap (drop (length (replies_from first u.answers) + t.whole)) all_replies
      ∙ drop-append-add (replies_from first u.answers) (replies_from number t.answers) t.whole

  said_all : out_new ≡ append_known out_old (concat (take (length u.answers + t.whole) (replies_from first (u.answers ++ t.answers))) ++ t.says.next)
  said_all =
      t.says.said
      ∙ ap (λ (o : Option (List ℕ)). append_known o (concat (take t.whole (replies_from number t.answers)) ++ t.says.next)) u.said
      ∙ append_known-append out_old (concat (replies_from first u.answers)) (concat (take t.whole (replies_from number t.answers)) ++ t.says.next)
      ∙ ap (append_known out_old) (sym (append_assoc (concat (replies_from first u.answers)) (concat (take t.whole (replies_from number t.answers))) t.says.next)
      ∙ ap (λ (xs : List ℕ). xs ++ t.says.next) (sym (concat-append (replies_from first u.answers) (take t.whole (replies_from number t.answers))) ∙ ap concat (sym taken)))

  none_whole : take t.whole t.answers ≡ []
  none_whole = nil_from_length (take t.whole t.answers) (sym t.tally_is.lines)

  counted_all : take (length u.answers + t.whole) (u.answers ++ t.answers) ≡ u.answers
  counted_all = take-append-add u.answers t.answers t.whole ∙ ap (λ (l : List LineAnswer). u.answers ++ l) none_whole ∙ append-nil u.answers

  ends_all : EndsLane steps head (first + length (u.answers ++ t.answers)) t.desk t.next new (replies_from first (u.answers ++ t.answers)) (length u.answers + t.whole) t.says.next ended
  ends_all =
      let size : length (replies_from first (u.answers ++ t.answers)) ≡ length (replies_from first u.answers) + length (replies_from number t.answers) =
      ap length all_replies ∙ length-append (replies_from first u.answers) (replies_from number t.answers) in
      let counted = u.counted in
      let longer : length (u.answers ++ t.answers) ≡ length u.answers + length t.answers = length-append u.answers t.answers in
      let same : number + length t.answers ≡ first + length (u.answers ++ t.answers) = omega arith in
      subst (λ (n : ℕ). EndsLane steps head n t.desk t.next new (replies_from first (u.answers ++ t.answers)) (length u.answers + t.whole) t.says.next ended) same
      (subst (λ (n : ℕ). EndsLane steps head (number + length t.answers) t.desk t.next new (replies_from first (u.answers ++ t.answers)) (n + t.whole) t.says.next ended) as_many
      (ends-behind steps head (number + length t.answers) t.desk t.next new (replies_from first u.answers) (replies_from number t.answers)
      (replies_from first (u.answers ++ t.answers)) t.whole t.says.next size left_over ended t.ends))

  pub ends : Runs left steps head first c_old old new out_old out_new tally ended
  ends = record {
    answers = u.answers ++ t.answers;
    desk = t.desk;
    lines = u.lines ++ t.lines;
    answered = AnswersLines-append steps head old u.lines u.answers now t.lines t.answers t.desk u.answered t.answered;
    whole = length u.answers + t.whole;
    says = record { next = t.says.next; said = said_all };
    tally_is = subst (λ (l : List LineAnswer). IsTally l tally) (sym counted_all) u.tally_is;
    next = t.next;
    ends = ends_all;
    text = λ text before r.
        let x = u.text text before r in
        let y = t.text text (before ++ x.lines) x.read in
        record {
          lines = x.lines ++ y.lines;
          answered = AnswersLines-append steps head old x.lines u.answers now y.lines t.answers t.desk x.answered y.answered;
          takes = takes-behind text before x.lines y.lines t.next ended y.takes;
        };
  }
