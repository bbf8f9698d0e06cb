-- the answers to the lines of a lane, one behind the other
use Rattle.std.proofs.Common.{◌≡◌, ℕ, suc, ◌+◌, ◌<◌, ◌≤◌, inl, inr, List, [], ◌∷◌, ◌++◌, length, refl, ap, subst, ◌∙◌, arith}
use Rattle.rep_io.specs.Lines.{longest_line}
use Rattle.rep_wire.specs.LaneGrammar.{IsMalformed}
use Rattle.rep_wire.specs.declared.head.LaneHead.{LaneHead}
use Rattle.rep_wire.specs.declared.reading.Malformed.{Malformed}
use Rattle.rep_wire.specs.declared.reply.Answer.{Answer}
use Rattle.rep_wire.specs.declared.reply.Answer.TheVariants.{Receipt, Refused}
use Rattle.rep_lane.specs.Answers.{LineAnswer, replied, extracted, answer_bytes, replies_from, kind_of, kind_of_reply, as_receipt, as_refusal, receipts_in, refusals_in}
use Rattle.rep_lane.specs.Desk.{Steps, AnswersLine, AnswersLines}

-- one line more at the front
pub AnswersLines-front : {Q : Type 0} (steps : Steps Q) (head : LaneHead) (old : Q) (line : List ℕ) (a : LineAnswer) (next : Q)
    (lines : List (List ℕ)) (answers : List LineAnswer) (new : Q) → AnswersLine steps head old line a next
    → AnswersLines steps head next lines answers new → AnswersLines steps head old (line ∷ lines) (a ∷ answers) new
AnswersLines-front steps head old line a next lines answers new first rest = (next, first, rest)

-- lines behind lines
pub AnswersLines-append : {Q : Type 0} (steps : Steps Q) (head : LaneHead) (old : Q) (lines : List (List ℕ)) (answers : List LineAnswer) (mid : Q)
    (more : List (List ℕ)) (others : List LineAnswer) (new : Q) → AnswersLines steps head old lines answers mid
    → AnswersLines steps head mid more others new → AnswersLines steps head old (lines ++ more) (answers ++ others) new
AnswersLines-append {Q} steps head old [] [] mid more others new same behind =
    subst (λ (q : Q). AnswersLines steps head q more others new) same behind
AnswersLines-append steps head old (line ∷ lines) (a ∷ answers) mid more others new t behind =
    (t.0, t.1, AnswersLines-append steps head t.0 lines answers mid more others new t.2 behind)
AnswersLines-append steps head old [] (a ∷ answers) mid more others new t behind = absurd t
AnswersLines-append steps head old (line ∷ lines) [] mid more others new t behind = absurd t

-- one line more at the end
pub AnswersLines-push : {Q : Type 0} (steps : Steps Q) (head : LaneHead) (old : Q) (lines : List (List ℕ)) (answers : List LineAnswer) (mid : Q)
    (line : List ℕ) (a : LineAnswer) (new : Q) → AnswersLines steps head old lines answers mid
    → AnswersLine steps head mid line a new → AnswersLines steps head old (lines ++ line ∷ []) (answers ++ a ∷ []) new
AnswersLines-push steps head old lines answers mid line a new t last =
    AnswersLines-append steps head old lines answers mid (line ∷ []) (a ∷ []) new t (new, last, refl)

-- an answer for each line
pub AnswersLines-length : {Q : Type 0} (steps : Steps Q) (head : LaneHead) (old : Q) (lines : List (List ℕ)) (answers : List LineAnswer) (new : Q)
    → AnswersLines steps head old lines answers new → length lines ≡ length answers
AnswersLines-length steps head old [] [] new t = refl
AnswersLines-length steps head old (line ∷ lines) (a ∷ answers) new t = ap suc (AnswersLines-length steps head t.0 lines answers new t.2)
AnswersLines-length steps head old [] (a ∷ answers) new t = absurd t
AnswersLines-length steps head old (line ∷ lines) [] new t = absurd t

-- a line that is too long is malformed as each other one is
IsMalformed-long : (head other : LaneHead) (line long : List ℕ) (malformed : Malformed) → longest_line < length line → longest_line < length long
    → IsMalformed head line malformed → IsMalformed other long malformed
IsMalformed-long head other line long malformed is_long too (inl m) = inl (too, m.1, m.2)
IsMalformed-long head other line long malformed is_long too (inr m) = let short = m.short in absurd (omega arith)

-- a line that is too long has the answer of each other one, on whatever lane
pub AnswersLine-long : {Q : Type 0} (steps : Steps Q) (head other : LaneHead) (old : Q) (line long : List ℕ) (a : LineAnswer) (new : Q)
    → longest_line < length line → longest_line < length long → AnswersLine steps head old line a new → AnswersLine steps other old long a new
AnswersLine-long steps head other old line long (replied a) new is_long too (inl t) = let short = t.ordered.short in absurd (omega arith)
AnswersLine-long steps head other old line long (replied a) new is_long too (inr t) = inr (record {
  malformed = t.malformed;
  is_malformed = IsMalformed-long head other line long t.malformed is_long too t.is_malformed;
  seq = t.seq;
  front = t.front;
  shown = t.shown;
  reply = t.reply;
})
AnswersLine-long steps head other old line long (extracted seq x) new is_long too t = let short = t.ordered.short in absurd (omega arith)

-- an answer is at most one receipt or refusal
one_reply : (answer : Answer) → as_receipt (kind_of_reply answer) + as_refusal (kind_of_reply answer) ≤ 1
one_reply (Receipt slip) = omega arith
one_reply (Refused code) = omega arith

one_kind : (a : LineAnswer) → as_receipt (kind_of a) + as_refusal (kind_of a) ≤ 1
one_kind (replied a) = one_reply a.reply.answer
one_kind (extracted seq x) = omega arith

-- there are no more receipts and refusals than answers; the others are extractions
pub receipts-and-refusals : (answers : List LineAnswer) → receipts_in answers + refusals_in answers ≤ length answers
receipts-and-refusals [] = omega arith
receipts-and-refusals (a ∷ answers) =
    let rest = receipts-and-refusals answers in
    let one = one_kind a in
    omega arith

pub receipts_in-append : (answers others : List LineAnswer) → receipts_in (answers ++ others) ≡ receipts_in answers + receipts_in others
receipts_in-append [] others = omega arith
receipts_in-append (a ∷ answers) others = let rest = receipts_in-append answers others in omega arith

pub refusals_in-append : (answers others : List LineAnswer) → refusals_in (answers ++ others) ≡ refusals_in answers + refusals_in others
refusals_in-append [] others = omega arith
refusals_in-append (a ∷ answers) others = let rest = refusals_in-append answers others in omega arith

-- bytes for each answer
pub replies_from-length : (number : ℕ) (answers : List LineAnswer) → length (replies_from number answers) ≡ length answers
replies_from-length number [] = refl
replies_from-length number (a ∷ answers) = ap suc (replies_from-length (suc number) answers)

pub replies_from-append : (number : ℕ) (answers others : List LineAnswer)
    → replies_from number (answers ++ others) ≡ replies_from number answers ++ replies_from (number + length answers) others
replies_from-append number [] others = ap (λ (n : ℕ). replies_from n others) (omega arith)
replies_from-append number (a ∷ answers) others =
    let rest = replies_from-append (suc number) answers others in
    let same : suc number + length answers ≡ number + suc (length answers) = omega arith in
    ap (λ (rs : List (List ℕ)). answer_bytes number a ∷ rs) (rest ∙ ap (λ (n : ℕ). replies_from (suc number) answers ++ replies_from n others) same)
