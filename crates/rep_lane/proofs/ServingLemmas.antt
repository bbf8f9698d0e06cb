-- how the lines of a lane are served over a history, one behind the other
use Rattle.std.proofs.Common.{◌≡◌, ℕ, ℤ, suc, ◌≤◌, inl, inr, List, [], ◌∷◌, ◌++◌, length, Option, refl, sym, ap, subst, ◌∙◌, append_assoc, append-nil, arith, pos, negsuc}
use Rattle.std.proofs.lemmas.Int.{ints}
use Rattle.std.specs.Io.KnownBytes.{append_known}
use Rattle.rep_io.specs.Streams.{IsReading}
use Rattle.rep_fields.specs.Moment.{IsMoment, IsOffset, moment_at}
use Rattle.afd_records.specs.Record.{last_nsr}
use Rattle.rep_wire.specs.declared.head.LaneHead.{LaneHead}
use Rattle.rep_wire.specs.declared.request.Request.{Request}
use Rattle.rep_wire.specs.declared.request.Entry.{Entry}
use Rattle.rep_core.specs.Answered.{entry_of}
use Rattle.rep_core.specs.Valid.{Fits, IsValid, IsFounded}
use Rattle.rep_core.proofs.Verdicts.{fresh_within}
use Rattle.rep_core.proofs.Validity.{Fits-recorded, IsValid-push, IsFounded-push}
use Rattle.rep_report.proofs.KnownBytes.{append_known-nil, append_known-append}
use Rattle.rep_lane.specs.Answers.{LineAnswer, replied, extracted}
use Rattle.rep_lane.specs.Desk.{Steps, AnswersLine, AnswersLines, malformed_reply}
use Rattle.rep_lane.specs.Serving.{Rules, Recording, ServesLine, ServesLines, IsServing, HasServed}

-- one line more at the front
pub ServesLines-front : (rules : Rules) (head : LaneHead) (h : List Entry) (line : List ℕ) (first : List ℕ) (a : LineAnswer) (middle : List Entry)
    (lines : List (List ℕ)) (rest : List ℕ) (answers : List LineAnswer) (after : List Entry) → ServesLine rules head h line first a middle
    → ServesLines rules head middle lines rest answers after → ServesLines rules head h (line ∷ lines) (first ++ rest) (a ∷ answers) after
ServesLines-front rules head h line first a middle lines rest answers after here behind = (first, rest, middle, refl, here, behind)

-- lines behind lines
pub ServesLines-append : (rules : Rules) (head : LaneHead) (h : List Entry) (lines : List (List ℕ)) (given : List ℕ) (answers : List LineAnswer) (mid : List Entry)
    (more : List (List ℕ)) (others_given : List ℕ) (others : List LineAnswer) (after : List Entry) → ServesLines rules head h lines given answers mid
    → ServesLines rules head mid more others_given others after
    → ServesLines rules head h (lines ++ more) (given ++ others_given) (answers ++ others) after
ServesLines-append rules head h [] given [] mid more others_given others after t behind =
    subst (λ (g : List ℕ). ServesLines rules head h more (g ++ others_given) others after) (sym t.0)
    (subst (λ (p : List Entry). ServesLines rules head p more others_given others after) t.1 behind)
ServesLines-append rules head h (line ∷ lines) given (a ∷ answers) mid more others_given others after t behind = (
  t.0,
  t.1 ++ others_given,
  t.2,
  ap (λ (g : List ℕ). g ++ others_given) t.3 ∙ append_assoc t.0 t.1 others_given,
  t.4,
  ServesLines-append rules head t.2 lines t.1 answers mid more others_given others after t.5 behind,
)
ServesLines-append rules head h [] given (a ∷ answers) mid more others_given others after t behind = absurd t
ServesLines-append rules head h (line ∷ lines) given [] mid more others_given others after t behind = absurd t

-- one line more at the end
pub ServesLines-push : (rules : Rules) (head : LaneHead) (h : List Entry) (lines : List (List ℕ)) (given : List ℕ) (answers : List LineAnswer) (mid : List Entry)
    (line : List ℕ) (last : List ℕ) (a : LineAnswer) (after : List Entry) → ServesLines rules head h lines given answers mid
    → ServesLine rules head mid line last a after
    → ServesLines rules head h (lines ++ line ∷ []) (given ++ last) (answers ++ a ∷ []) after
ServesLines-push rules head h lines given answers mid line last a after t here =
    ServesLines-append rules head h lines given answers mid (line ∷ []) last (a ∷ []) after t (last, [], after, sym (append-nil last), here, (refl, refl))

-- an answer for each line
pub ServesLines-length : (rules : Rules) (head : LaneHead) (h : List Entry) (lines : List (List ℕ)) (given : List ℕ) (answers : List LineAnswer) (after : List Entry)
    → ServesLines rules head h lines given answers after → length lines ≡ length answers
ServesLines-length rules head h [] given [] after t = refl
ServesLines-length rules head h (line ∷ lines) given (a ∷ answers) after t =
    ap suc (ServesLines-length rules head t.2 lines t.1 answers after t.5)
ServesLines-length rules head h [] given (a ∷ answers) after t = absurd t
ServesLines-length rules head h (line ∷ lines) given [] after t = absurd t

-- the history begins with the one before
abbrev pub GoesOn : List Entry → List Entry → Type 0
GoesOn h after = (added : List Entry) × (after ≡ h ++ added)

pub GoesOn-same : (h after : List Entry) → after ≡ h → GoesOn h after
GoesOn-same h after same = ([], same ∙ sym (append-nil h))

pub GoesOn-on : (h mid after : List Entry) → GoesOn h mid → GoesOn mid after → GoesOn h after
GoesOn-on h mid after one two = (one.0 ++ two.0, two.1 ∙ ap (λ (p : List Entry). p ++ two.0) one.1 ∙ append_assoc h one.0 two.0)

Recording-goes_on : (rules : Rules) (h : List Entry) (q : Request) (given : List ℕ) (after : List Entry) → Recording rules h q given after → GoesOn h after
Recording-goes_on rules h q [] after r = GoesOn-same h after r.1
Recording-goes_on rules h q (minute ∷ []) after r = (entry_of q (moment_at minute rules.offset) ∷ [], r.2)
Recording-goes_on rules h q (minute ∷ next ∷ minutes) after r = absurd r

pub ServesLine-goes_on : (rules : Rules) (head : LaneHead) (h : List Entry) (line given : List ℕ) (a : LineAnswer) (after : List Entry)
    → ServesLine rules head h line given a after → GoesOn h after
ServesLine-goes_on rules head h line given (replied a) after (inl t) = Recording-goes_on rules h t.request given after t.served.recording
ServesLine-goes_on rules head h line given (replied a) after (inr t) = GoesOn-same h after t.same
ServesLine-goes_on rules head h line given (extracted seq x) after t = GoesOn-same h after t.served.same

pub ServesLines-goes_on : (rules : Rules) (head : LaneHead) (h : List Entry) (lines : List (List ℕ)) (given : List ℕ) (answers : List LineAnswer) (after : List Entry)
    → ServesLines rules head h lines given answers after → GoesOn h after
ServesLines-goes_on rules head h [] given [] after t = GoesOn-same h after t.1
ServesLines-goes_on rules head h (line ∷ lines) given (a ∷ answers) after t =
    GoesOn-on h t.2 after (ServesLine-goes_on rules head h line t.0 a t.2 t.4) (ServesLines-goes_on rules head t.2 lines t.1 answers after t.5)
ServesLines-goes_on rules head h [] given (a ∷ answers) after t = absurd t
ServesLines-goes_on rules head h (line ∷ lines) given [] after t = absurd t

-- a reading of the clock is a stamp at each offset
pub IsMoment-at : (minute : ℕ) (offset : ℤ) → IsReading minute → IsOffset offset → IsMoment (moment_at minute offset)
IsMoment-at minute (pos ahead) reading near = record { local = let late = reading.1 in omega arith; offset = near }
IsMoment-at minute (negsuc less) reading near = record { local = let late = reading.1 in let early = reading.0 in omega (arith, ints); offset = near }

-- a property of histories that an entry which fits keeps is kept by lines that are served
module _ (Good : List Entry → Type 0) (push : (h : List Entry) (e : Entry) → Good h → Fits h e → Good (h ++ e ∷ [])) (rules : Rules) (few : rules.limit ≤ last_nsr)
    (near : IsOffset rules.offset) (head : LaneHead) where
  keeps_line : (h : List Entry) (line given : List ℕ) (a : LineAnswer) (after : List Entry) → ServesLine rules head h line given a after → Good h → Good after
  keeps_line h line [] (replied a) after (inl t) good = subst Good (sym t.served.recording.1) good
  keeps_line h line (minute ∷ []) (replied a) after (inl t) good =
      let r = t.served.recording in
      subst Good (sym r.2) (push h (entry_of t.request (moment_at minute rules.offset)) good
      (Fits-recorded h t.request (moment_at minute rules.offset) t.ordered.in_range.request (IsMoment-at minute rules.offset r.1 near)
      (fresh_within rules.limit last_nsr h t.request few r.0)))
  keeps_line h line (minute ∷ next ∷ minutes) (replied a) after (inl t) good = absurd t.served.recording
  keeps_line h line given (replied a) after (inr t) good = subst Good (sym t.same) good
  keeps_line h line given (extracted seq x) after t good = subst Good (sym t.served.same) good

  keeps_lines : (h : List Entry) (lines : List (List ℕ)) (given : List ℕ) (answers : List LineAnswer) (after : List Entry)
      → ServesLines rules head h lines given answers after → Good h → Good after
  keeps_lines h [] given [] after t good = subst Good (sym t.1) good
  keeps_lines h (line ∷ lines) given (a ∷ answers) after t good =
      keeps_lines t.2 lines t.1 answers after t.5 (keeps_line h line t.0 a t.2 t.4 good)
  keeps_lines h [] given (a ∷ answers) after t good = absurd t
  keeps_lines h (line ∷ lines) given [] after t good = absurd t

pub ServesLines-valid : (rules : Rules) (head : LaneHead) (h : List Entry) (lines : List (List ℕ)) (given : List ℕ) (answers : List LineAnswer) (after : List Entry)
    → rules.limit ≤ last_nsr → IsOffset rules.offset → ServesLines rules head h lines given answers after → IsValid h → IsValid after
ServesLines-valid rules head h lines given answers after few near t valid =
    keeps_lines IsValid IsValid-push rules few near head h lines given answers after t valid

pub ServesLines-founded : (rules : Rules) (head : LaneHead) (h : List Entry) (lines : List (List ℕ)) (given : List ℕ) (answers : List LineAnswer) (after : List Entry)
    → rules.limit ≤ last_nsr → IsOffset rules.offset → ServesLines rules head h lines given answers after → IsFounded h → IsFounded after
ServesLines-founded rules head h lines given answers after few near t founded =
    keeps_lines IsFounded IsFounded-push rules few near head h lines given answers after t founded

-- a desk that serves over a history serves the lines that it answers
module _ {Q : Type 0} (steps : Steps Q) (rules : Rules) (history : Q → List Entry) (readings : Q → Option (List ℕ)) (Holds : Q → Type 0)
    (serving : IsServing steps rules history readings Holds) (head : LaneHead) where
  line_is_served : (old : Q) (line : List ℕ) (a : LineAnswer) (new : Q) → Holds old → AnswersLine steps head old line a new
      → Holds new × ((given : List ℕ) × (readings new ≡ append_known (readings old) given) × ServesLine rules head (history old) line given a (history new))
  line_is_served old line (replied a) new holds (inl t) =
      let s = serving.serves old new t.request a.reply holds t.asked in
      (s.0, (s.1.0, s.1.1, inl (record { request = t.request; ordered = t.ordered; seq = t.seq; served = s.1.2 })))
  line_is_served old line (replied a) new holds (inr t) =
      let s = serving.looks old new t.front holds t.shown in (
        s.0,
        (
          [],
          s.3 ∙ sym (append_known-nil (readings old)),
          inr (record {
            malformed = t.malformed;
            is_malformed = t.is_malformed;
            seq = t.seq;
            reply = t.reply ∙ ap (malformed_reply t.malformed) s.1;
            no_reading = refl;
            same = s.2;
          }),
        ),
      )
  line_is_served old line (extracted seq x) new holds t =
      let s = serving.extracts old new t.from t.to x holds t.done in
      (s.0, (s.1.0, s.1.1, record { from = t.from; to = t.to; ordered = t.ordered; served = s.1.2 }))

  pub lines_are_served : (old : Q) (lines : List (List ℕ)) (answers : List LineAnswer) (new : Q) → Holds old → AnswersLines steps head old lines answers new
      → HasServed rules history readings Holds head old lines answers new
  lines_are_served old [] [] new holds same = record {
    holds = subst Holds (sym same) holds;
    given = [];
    readings_are = ap readings same ∙ sym (append_known-nil (readings old));
    serves = (refl, ap history same);
  }
  lines_are_served old (line ∷ lines) (a ∷ answers) new holds t =
      let one = line_is_served old line a t.0 holds t.1 in
      let rest = lines_are_served t.0 lines answers new one.0 t.2 in
      record {
        holds = rest.holds;
        given = one.1.0 ++ rest.given;
        readings_are = rest.readings_are ∙ ap (λ (o : Option (List ℕ)). append_known o rest.given) one.1.1 ∙ append_known-append (readings old) one.1.0 rest.given;
        serves = (one.1.0, rest.given, history t.0, refl, one.1.2, rest.serves);
      }
  lines_are_served old [] (a ∷ answers) new holds t = absurd t
  lines_are_served old (line ∷ lines) [] new holds t = absurd t

pub lanes_are_served : {Q : Type 0} (steps : Steps Q) (rules : Rules) (history : Q → List Entry) (readings : Q → Option (List ℕ))
    (Holds : Q → Type 0) → IsServing steps rules history readings Holds → (head : LaneHead) (old : Q) (lines : List (List ℕ)) (answers : List LineAnswer)
    (new : Q) → Holds old → AnswersLines steps head old lines answers new → HasServed rules history readings Holds head old lines answers new
lanes_are_served steps rules history readings Holds serving head =
    lines_are_served steps rules history readings Holds serving head
