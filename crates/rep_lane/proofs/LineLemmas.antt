-- a line's answer, and its reply
use Rattle.std.proofs.Common.{◌≡◌, ◌≢◌, ℕ, List, [], Option, Result, Ok, Err, inl, inr, length, refl, sym, ap, ◌∙◌, subst, arith}
use Rattle.std.specs.Io.KnownBytes.{append_known}
use Rattle.rep_wire.specs.LaneGrammar.{Orders, IsMalformed}
use Rattle.rep_wire.specs.Reply.{extract_text}
use Rattle.rep_wire.specs.declared.head.LaneHead.{LaneHead}
use Rattle.rep_wire.specs.declared.reading.Malformed.{Malformed}
use Rattle.rep_wire.specs.declared.reply.Reply.{Reply}
use Rattle.rep_wire.specs.declared.request.Request.{Request}
use Rattle.rep_wire.specs.declared.request.Order.TheVariants.{Asked, Extract}
use Rattle.rep_report.proofs.KnownBytes.{append_known-nil}
use Rattle.rep_lane.specs.Answers.{Answered, Extracted, replied, extracted, extract_bytes}
use Rattle.rep_lane.specs.Desk.{Steps, Extracting, AnswersLine, PutsExtract, malformed_reply}
use Rattle.rep_lane.specs.Line.{FailsAt, AnswersOne, WritesReply, end_of}
use Rattle.rep_lane.specs.declared.answering.Kind.{Kind}
use Rattle.rep_lane.specs.declared.answering.Kind.TheVariants.{Extraction}
use Rattle.rep_lane.specs.declared.desk.DeskFail.{DeskFail}
use Rattle.rep_lane.specs.declared.desk.DeskFail.TheVariants as fail
use Rattle.rep_lane.specs.declared.lane.End.{End}

-- the line has this reply, and this came of writing it
pub replies_one : {Q : Type 0} (steps : Steps Q) (head : LaneHead) (number : ℕ) (line : List ℕ) (old new : Q) (out_old out_new : Option (List ℕ))
    (a : Answered) (result : Result Kind End) → AnswersLine steps head old line (replied a) new → WritesReply number a.seq a.reply out_old out_new result
    → AnswersOne steps head number line old new out_old out_new result
replies_one steps head number line old new out_old out_new a (Ok kind) answers w =
    record { a = replied a; answers = answers; said = w.0; is_kind = w.1 }
replies_one steps head number line old new out_old out_new a (Err ended) answers w =
    subst (λ (e : End). AnswersOne steps head number line old new out_old out_new (Err e)) (sym w.1)
    (inl (record { a = a; answers = answers; put = w.0; said = w.2; cut = w.3 }))

-- the desk failed at the line
pub fails_one : {Q : Type 0} (steps : Steps Q) (head : LaneHead) (number : ℕ) (line : List ℕ) (old new : Q) (out_old out_new : Option (List ℕ)) (put : List ℕ)
    (why : DeskFail) → FailsAt steps head number why old line put new → out_new ≡ append_known out_old put
    → AnswersOne steps head number line old new out_old out_new (Err (end_of why))
fails_one steps head number line old new out_old out_new put fail.Stopped failed said = record { put = put; fails = failed; said = said }
fails_one steps head number line old new out_old out_new put fail.DeviceFault failed said = record { put = put; fails = failed; said = said }
fails_one steps head number line old new out_old out_new put fail.ClockFault failed said = record { put = put; fails = failed; said = said }
fails_one steps head number line old new out_old out_new put fail.SinkFault failed said = inr (record { put = put; fails = failed; said = said })
fails_one steps head number line old new out_old out_new put fail.OutOfMemory failed said = record { put = put; fails = failed; said = said }

-- the desk failed at a request, and nothing was written
pub fails_request : {Q : Type 0} (steps : Steps Q) (head : LaneHead) (number : ℕ) (line : List ℕ) (old new : Q) (out : Option (List ℕ)) (q : Request)
    (why : DeskFail) (ended : End) → ended ≡ end_of why → Orders head line (Asked q) → steps.asks old q (Err why) new
    → AnswersOne steps head number line old new out out (Err ended)
fails_request steps head number line old new out q why ended is ordered failed =
    subst (λ (e : End). AnswersOne steps head number line old new out out (Err e)) (sym is)
    (fails_one steps head number line old new out out [] why (inl (record { request = q; ordered = ordered; failed = failed; nothing = refl })) (sym (append_known-nil out)))

-- an extraction was written wholly
pub extracts_one : {Q : Type 0} (steps : Steps Q) (head : LaneHead) (number : ℕ) (line : List ℕ) (old new : Q) (out_old out_new : Option (List ℕ)) (seq from to : ℕ)
    → Orders head line (Extract seq from to) → PutsExtract steps.extracts number seq from to old new out_old out_new (Ok tt)
    → AnswersOne steps head number line old new out_old out_new (Ok Extraction)
extracts_one steps head number line old new out_old out_new seq from to ordered p = record {
  a = extracted seq p.due;
  answers = record { from = from; to = to; ordered = ordered; done = p.step };
  said = p.appended ∙ ap (append_known out_old) p.is_put;
  is_kind = refl;
}

-- or the desk failed at it
pub fails_extraction : {Q : Type 0} (steps : Steps Q) (head : LaneHead) (number : ℕ) (line : List ℕ) (old new : Q) (out_old out_new : Option (List ℕ)) (seq from to : ℕ)
    (why : DeskFail) (ended : End) → ended ≡ end_of why → Orders head line (Extract seq from to)
    → PutsExtract steps.extracts number seq from to old new out_old out_new (Err why)
    → AnswersOne steps head number line old new out_old out_new (Err ended)
fails_extraction steps head number line old new out_old out_new seq from to why ended is ordered p =
    subst (λ (e : End). AnswersOne steps head number line old new out_old out_new (Err e)) (sym is)
    (fails_one steps head number line old new out_old out_new p.put why
    (inr (record { seq = seq; from = from; to = to; ordered = ordered; due = p.due; failed = p.step; cut = p.is_put; nothing = p.nothing })) p.appended)

-- an extraction has a line of its own
pub some_bytes : (number seq : ℕ) (x : Extracted) → extract_bytes number seq x ≢ []
unfolding extract_text
some_bytes number seq x = λ none. omega (arith, ap length none)

-- a desk that fails before it writes puts nothing
pub puts_nothing : {Q : Type 0} (extracts : Extracting Q) (number seq from to : ℕ) (old new : Q) (out : Option (List ℕ)) (due : Extracted) (why : DeskFail)
    → extracts old from to due (Err why) new → PutsExtract extracts number seq from to old new out out (Err why)
puts_nothing extracts number seq from to old new out due why step = record {
  due = due;
  step = step;
  put = [];
  appended = sym (append_known-nil out);
  is_put = (extract_bytes number seq due, some_bytes number seq due, refl);
  nothing = λ sink device. refl;
}

-- a line that orders nothing is refused over what the desk shows
pub refuses_one : {Q : Type 0} (steps : Steps Q) (head : LaneHead) (number : ℕ) (line : List ℕ) (malformed : Malformed) (front : ℕ) (old new : Q)
    (out_old out_new : Option (List ℕ)) (reply : Reply) (result : Result Kind End) → IsMalformed head line malformed → steps.shows old front new
    → reply ≡ malformed_reply malformed front → WritesReply number malformed.seq reply out_old out_new result
    → AnswersOne steps head number line old new out_old out_new result
refuses_one steps head number line malformed front old new out_old out_new reply result is shown reply_is w =
    replies_one steps head number line old new out_old out_new (record { seq = malformed.seq; reply = reply }) result
    (inr (record { malformed = malformed; is_malformed = is; seq = refl; front = front; shown = shown; reply = reply_is })) w
