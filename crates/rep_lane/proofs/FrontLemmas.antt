-- the replies to lines that are served, over fronts of the history
use Rattle.std.proofs.Common.{◌≡◌, ℕ, suc, ◌+◌, ◌≤◌, inl, inr, List, [], ◌∷◌, length, take, sym, ap, subst, ◌∙◌, length-append, arith}
use Rattle.std.proofs.Math.Seq.{take-append_seam}
use Rattle.rep_wire.specs.declared.head.LaneHead.{LaneHead}
use Rattle.rep_wire.specs.declared.request.Request.{Request}
use Rattle.rep_wire.specs.declared.request.Entry.{Entry}
use Rattle.rep_wire.specs.declared.reply.Slip.{Slip}
use Rattle.rep_wire.specs.declared.reply.Answer.{Answer}
use Rattle.rep_wire.specs.declared.reply.Answer.TheVariants.{Receipt, Refused}
use Rattle.rep_wire.specs.declared.reply.Reply.{Reply}
use Rattle.rep_core.specs.History.{IsNumbered}
use Rattle.rep_core.specs.Answered.{IsAnswer}
use Rattle.rep_lane.specs.Answers.{LineAnswer, replied, extracted}
use Rattle.rep_lane.specs.Desk.{malformed_reply}
use Rattle.rep_lane.specs.Serving.{Rules, ServesLine, ServesLines}
use Rattle.rep_lane.specs.Fronts.{front_of, IsUpTo, IsAnswerOver, AreFrontReplies}
use Rattle.rep_lane.proofs.ServingLemmas.{GoesOn, ServesLine-goes_on, ServesLines-goes_on}

-- the first entries of a history that goes on
first_of : (h after : List Entry) → GoesOn h after → take (length h) after ≡ h
first_of h after on = ap (take (length h)) on.1 ∙ take-append_seam h on.0

no_shorter : (h after : List Entry) → GoesOn h after → length h ≤ length after
no_shorter h after on =
    let size : length after ≡ length h + length on.0 = ap length on.1 ∙ length-append h on.0 in
    omega arith

numbered_within : (h : List Entry) (nsr : ℕ) (e : Entry) → IsNumbered h nsr e → (1 ≤ nsr) × (nsr ≤ length h)
numbered_within h nsr e is =
    let size : length h ≡ length is.before + suc (length is.behind) = ap length is.split ∙ length-append is.before (e ∷ is.behind) in
    let number = is.number in
    (omega arith, omega arith)

up_to_asked : (limit : ℕ) (h : List Entry) (q : Request) (answer : Answer) (front : ℕ) → front ≡ length h → IsAnswer limit h q answer → IsUpTo front answer
up_to_asked limit h q (Receipt slip) front is t =
    let within = numbered_within h t.0 t.1 t.3 in
    let nsr : slip.nsr ≡ t.0 = ap (λ (s : Slip). s.nsr) t.4 in
    let least = within.0 in
    let most = within.1 in
    (omega arith, omega arith)
up_to_asked limit h q (Refused code) front is t = tt

-- a line's answer is that over the history that it leaves
answer_over : (rules : Rules) (head : LaneHead) (h : List Entry) (line given : List ℕ) (a : LineAnswer) (middle : List Entry)
    → ServesLine rules head h line given a middle → IsAnswerOver rules head middle line a
answer_over rules head h line given (replied a) middle (inl t) = (
  t.served.replies.front,
  inl (record { request = t.request; ordered = t.ordered; seq = t.seq; reply = t.served.replies }),
  up_to_asked rules.limit middle t.request a.reply.answer a.reply.front t.served.replies.front t.served.replies.answer,
)
answer_over rules head h line given (replied a) middle (inr t) = (
  ap (λ (r : Reply). r.front) t.reply ∙ ap length (sym t.same),
  inr (record {
    malformed = t.malformed;
    is_malformed = t.is_malformed;
    seq = t.seq;
    reply = t.reply ∙ ap (λ (l : List Entry). malformed_reply t.malformed (length l)) (sym t.same);
  }),
  subst (λ (r : Reply). IsUpTo r.front r.answer) (sym t.reply) tt,
)
answer_over rules head h line given (extracted seq x) middle t =
    let s = t.served in (
      s.front ∙ ap length (sym s.same),
      record {
        from = t.from;
        to = t.to;
        ordered = t.ordered;
        minute = s.minute;
        is_reading = s.is_reading;
        written = subst (λ (l : List Entry). rules.extraction l t.from t.to s.minute x.size x.afd) (sym s.same) s.written;
      },
    )

-- and tells how long that history is
tells_length : (rules : Rules) (head : LaneHead) (h : List Entry) (line : List ℕ) (a : LineAnswer) → IsAnswerOver rules head h line a → front_of a ≡ length h
tells_length rules head h line (replied a) over = over.0
tells_length rules head h line (extracted seq x) over = over.0

pub are_front_replies : (rules : Rules) (head : LaneHead) (h : List Entry) (lines : List (List ℕ)) (given : List ℕ) (answers : List LineAnswer) (after : List Entry)
    → ServesLines rules head h lines given answers after → AreFrontReplies rules head (length h) after lines answers
are_front_replies rules head h [] given [] after t = tt
are_front_replies rules head h (line ∷ lines) given (a ∷ answers) after t =
    let on = ServesLines-goes_on rules head t.2 lines t.1 answers after t.5 in
    let over = answer_over rules head h line t.0 a t.2 t.4 in
    let is : front_of a ≡ length t.2 = tells_length rules head t.2 line a over in
    let risen = no_shorter h t.2 (ServesLine-goes_on rules head h line t.0 a t.2 t.4) in
    let within = no_shorter t.2 after on in (
      record {
        risen = omega arith;
        within = omega arith;
        over = subst (λ (n : ℕ). IsAnswerOver rules head (take n after) line a) (sym is)
            (subst (λ (l : List Entry). IsAnswerOver rules head l line a) (sym (first_of t.2 after on)) over);
      },
      subst (λ (n : ℕ). AreFrontReplies rules head n after lines answers) (sym is) (are_front_replies rules head t.2 lines t.1 answers after t.5),
    )
are_front_replies rules head h [] given (a ∷ answers) after t = absurd t
are_front_replies rules head h (line ∷ lines) given [] after t = absurd t
