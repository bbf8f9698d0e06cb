-- what the answers of a lane leave of the disk
use Rattle.std.proofs.Common.{◌≡◌, ℕ, ℤ, ◌<◌, ◌≤◌, inl, inr, List, [], ◌∷◌, ◌++◌, Option, Some, None, Ok, sym, ap, subst, ◌∙◌, append_assoc, append-nil, arith}
use Rattle.std.specs.Prelude.{All, IsSome}
use Rattle.std.proofs.lemmas.List.Elements.{All-nil, All-append, All-cons}
use Rattle.rep_disk.specs.Disk.{Shown, Changes, IsAtRest, last_moment}
use Rattle.rep_wire.specs.declared.head.LaneHead.{LaneHead}
use Rattle.rep_wire.specs.declared.reading.Malformed.{Malformed}
use Rattle.rep_wire.specs.declared.request.Request.{Request}
use Rattle.rep_wire.specs.declared.request.Entry.{Entry}
use Rattle.rep_wire.specs.declared.reply.Answer.{Answer}
use Rattle.rep_wire.specs.declared.reply.Answer.TheVariants.{Receipt, Refused}
use Rattle.rep_wire.specs.declared.reply.Reply.{Reply}
use Rattle.rep_core.specs.Answered.{entry_of}
use Rattle.rep_fields.specs.Moment.{moment_at}
use Rattle.rep_journal.specs.State.{Leaves, MakesCalls}
use Rattle.rep_ledger.specs.Ledger.{IsLedgerOf, frames_of}
use Rattle.rep_ledger.specs.Leaving.{GrowsTo}
use Rattle.rep_ledger.specs.Safety.{HasAtLeast, IsFrontOf, IsSure, Receipted, Secures, receipted_at}
use Rattle.rep_ledger.proofs.DiskSteps.{IsAtRest-read}
use Rattle.rep_ledger.proofs.LeavingLemmas.{GrowsTo-chain, GrowsTo-put, GrowsTo-stay}
use Rattle.rep_ledger.proofs.SafetyLemmas.{IsFrontOf-refl, IsFrontOf-push, IsFrontOf-trans, Secures-trans}
use Rattle.rep_store.specs.State.{State}
use Rattle.rep_store.specs.Steps.{Serves, recorded_at}
use Rattle.rep_lane.specs.Answers.{Answered, Extracted, LineAnswer, replied, extracted}
use Rattle.rep_lane.specs.Desk.{AnswersLine, AnswersLines, malformed_reply}
use Rattle.rep_run.specs.Desk.{Asks, Files}
use Rattle.rep_run.specs.Running.{receipts_at}
use Rattle.rep_run.proofs.Known.{Changes-behind, Changes-same, told_on}
use Rattle.rep_run.proofs.DeskLemmas.{store_steps}

-- each receipt among the answers is sure at a moment
abbrev pub IsSureOf : Shown → ℕ → Answer → Type 0
IsSureOf s m (Receipt slip) = HasAtLeast slip.nsr s m
IsSureOf s m (Refused code) = Unit {0}

abbrev pub IsSureLine : Shown → ℕ → LineAnswer → Type 0
IsSureLine s m (replied a) = IsSureOf s m a.reply.answer
IsSureLine s m (extracted seq x) = Unit {0}

abbrev pub AreSure : Shown → ℕ → List LineAnswer → Type 0
AreSure s m [] = Unit {0}
AreSure s m (a ∷ answers) = IsSureLine s m a × AreSure s m answers

sure_answer : (s : Shown) (m : ℕ) (answer : Answer) → IsSureOf s m answer → All (IsSure s) (receipted_at m answer)
sure_answer s m (Receipt slip) sure = All-cons (IsSure s) (record { moment = m; nsr = slip.nsr }) [] sure (All-nil (IsSure s))
sure_answer s m (Refused code) sure = All-nil (IsSure s)

pub sure_receipts : (s : Shown) (m : ℕ) (answers : List LineAnswer) → AreSure s m answers → All (IsSure s) (receipts_at m answers)
sure_receipts s m [] sure = All-nil (IsSure s)
sure_receipts s m (extracted seq x ∷ answers) sure = sure_receipts s m answers sure.1
sure_receipts s m (replied a ∷ answers) sure =
    All-append (IsSure s) (receipted_at m a.reply.answer) (receipts_at m answers) (sure_answer s m a.reply.answer sure.0) (sure_receipts s m answers sure.1)

answer_is_sure : (s : Shown) (m : ℕ) (answer : Answer) → All (IsSure s) (receipted_at m answer) → IsSureOf s m answer
answer_is_sure s m (Receipt slip) sure = sure 0 (record { moment = m; nsr = slip.nsr }) (omega arith)
answer_is_sure s m (Refused code) sure = tt

still_sure_of : (s t : Shown) (m n : ℕ) → ((nsr : ℕ) → HasAtLeast nsr s m → HasAtLeast nsr t n) → (answer : Answer) → IsSureOf s m answer → IsSureOf t n answer
still_sure_of s t m n on (Receipt slip) sure = on slip.nsr sure
still_sure_of s t m n on (Refused code) sure = tt

still_sure_line : (s t : Shown) (m n : ℕ) → ((nsr : ℕ) → HasAtLeast nsr s m → HasAtLeast nsr t n) → (a : LineAnswer) → IsSureLine s m a → IsSureLine t n a
still_sure_line s t m n on (replied a) sure = still_sure_of s t m n on a.reply.answer sure
still_sure_line s t m n on (extracted seq x) sure = tt

still_sure : (s t : Shown) (m n : ℕ) → ((nsr : ℕ) → HasAtLeast nsr s m → HasAtLeast nsr t n) → (answers : List LineAnswer) → AreSure s m answers → AreSure t n answers
still_sure s t m n on [] sure = tt
still_sure s t m n on (a ∷ answers) sure = (still_sure_line s t m n on a sure.0, still_sure s t m n on answers sure.1)

pub AreSure-push : (s : Shown) (m : ℕ) (answers : List LineAnswer) (a : LineAnswer) → AreSure s m answers → IsSureLine s m a → AreSure s m (answers ++ a ∷ [])
AreSure-push s m [] a sure one = (one, tt)
AreSure-push s m (b ∷ answers) a sure one = (sure.0, AreSure-push s m answers a sure.1 one)

-- what is secure once these answers were given
pub record Secured (start : Shown) (rested : ℕ) (first whole : List Entry) (answers : List LineAnswer) (now : Shown) : Type 0 where
  pub late : rested ≤ now.moment
  pub secures : Secures rested first whole [] start now
  pub sure : AreSure now now.moment answers

-- calls behind those
pub secured_on : (start b c : Shown) (rested : ℕ) (first kept whole : List Entry) (answers : List LineAnswer) (receipts : List Receipted) → start.moment ≤ b.moment → b.moment ≤ c.moment
    → IsFrontOf first kept → IsFrontOf kept whole → Secured start rested first kept answers b → Secures b.moment kept whole receipts b c → Secured start rested first whole answers c
secured_on start b c rested first kept whole answers receipts earlier later front goes_on before step =
    let bare : Secures b.moment kept whole [] b c = record { past = step.past; early = step.early; images = step.images; sure = step.sure; receipted = All-nil (IsSure c) } in
    let all : Secures rested first whole ([] ++ []) start c =
    Secures-trans rested first kept whole [] [] start b c before.late (All-nil (λ (r : Receipted). r.moment ≤ b.moment)) front goes_on earlier before.secures bare in
    record {
      late = let late = before.late in omega arith;
      secures = all;
      sure = still_sure b c b.moment c.moment
          (λ nsr has. all.sure nsr b.moment c.moment before.late later (omega arith)
          (λ image h leaves stands. has image h ((step.past b.moment image (omega arith)).0 leaves) stands)) answers before.sure;
    }

-- and one answer more
pub secured_push : (start b c : Shown) (rested : ℕ) (first kept whole : List Entry) (answers : List LineAnswer) (a : Answered) → start.moment ≤ b.moment → b.moment ≤ c.moment
    → IsFrontOf first kept → IsFrontOf kept whole → Secured start rested first kept answers b
    → Secures b.moment kept whole (receipted_at c.moment a.reply.answer) b c → Secured start rested first whole (answers ++ replied a ∷ []) c
secured_push start b c rested first kept whole answers a earlier later front goes_on before step =
    let on : Secured start rested first whole answers c = secured_on start b c rested first kept whole answers (receipted_at c.moment a.reply.answer) earlier later front goes_on before step in
    record {
      late = on.late;
      secures = on.secures;
      sure = AreSure-push c c.moment answers (replied a) on.sure (answer_is_sure c c.moment a.reply.answer step.receipted);
    }

-- and one extraction more
pub secured_beside : (start b c : Shown) (rested : ℕ) (first kept : List Entry) (answers : List LineAnswer) (seq : ℕ) (x : Extracted) → start.moment ≤ b.moment → b.moment ≤ c.moment
    → IsFrontOf first kept → Secured start rested first kept answers b → Secures b.moment kept kept [] b c → Secured start rested first kept (answers ++ extracted seq x ∷ []) c
secured_beside start b c rested first kept answers seq x earlier later front before step =
    let on : Secured start rested first kept answers c = secured_on start b c rested first kept kept answers [] earlier later front (IsFrontOf-refl kept) before step in
    record { late = on.late; secures = on.secures; sure = AreSure-push c c.moment answers (extracted seq x) on.sure tt }

pub calls_later : (calls : ℕ) (old new : Shown) → MakesCalls calls old new → old.moment ≤ new.moment
calls_later calls old new made = omega arith

pub recorded_front : (h : List Entry) (q : Request) (offset : ℤ) (reading : Option ℕ) → IsFrontOf h (recorded_at h q offset reading)
recorded_front h q offset None = IsFrontOf-refl h
recorded_front h q offset (Some minute) = IsFrontOf-push h (entry_of q (moment_at minute offset))

-- contents that were read at most have no entry more
pub grows_read : (h g : List Entry) (was now : Option (List ℕ)) → g ≡ h → now ≡ was → Changes (GrowsTo h g) was now
grows_read h g was now same stays =
    subst (λ (k : List Entry). Changes (GrowsTo h k) was now) (sym same)
    (subst (λ (o : Option (List ℕ)). Changes (GrowsTo h h) was o) (sym stays) (GrowsTo-stay h was))

-- What is left once these answers were given, since the disk and the clock showed this. What a crash leaves is said for each
-- moment that counts as rested.
pub record Stands {D C : Type 0} (shown : D → Shown) (faults : C → ℕ) (start : Shown) (Rested : ℕ → Type 0) (first : List Entry) (clock_faults : ℕ) (answers : List LineAnswer) (s : State D C) : Type 0 where
  pub front : IsFrontOf first s.history
  pub contents : Changes (λ _ bytes. IsLedgerOf bytes s.history) start.contents (shown s.disk).contents
  pub grows : Changes (GrowsTo first s.history) start.contents (shown s.disk).contents
  pub rest : IsAtRest (shown s.disk)
  pub later : start.moment ≤ (shown s.disk).moment
  pub disk_faults : start.faults ≤ (shown s.disk).faults
  pub clock_later : clock_faults ≤ faults s.clock
  pub safe : (rested : ℕ) → Rested rested → IsSome start.contents → (shown s.disk).moment < last_moment
      → Secured start rested first s.history answers (shown s.disk)

-- what a request that was served leaves of the disk
pub record Goes {D C : Type 0} (shown : D → Shown) (faults : C → ℕ) (q : Request) (old new : State D C) : Type 0 where
  pub running : old.stopped ≡ None
  pub history : new.history ≡ recorded_at old.history q old.offset new.reading
  pub contents : Changes (λ _ bytes. IsLedgerOf bytes old.history) (shown old.disk).contents (shown old.disk).contents
      → Changes (λ _ bytes. IsLedgerOf bytes new.history) (shown old.disk).contents (shown new.disk).contents
  pub grows : Changes (GrowsTo old.history new.history) (shown old.disk).contents (shown new.disk).contents
  pub rest : IsAtRest (shown old.disk) → IsAtRest (shown new.disk)
  pub later : (shown old.disk).moment ≤ (shown new.disk).moment
  pub disk_faults : (shown old.disk).faults ≤ (shown new.disk).faults
  pub clock_later : faults old.clock ≤ faults new.clock

pub goes : {D C : Type 0} (shown : D → Shown) (readings : C → Option (List ℕ)) (faults : C → ℕ) (q : Request) (reply : Reply) (old new : State D C)
    → Serves shown readings faults q reply old new → Goes shown faults q old new
goes {D = D} {C = C} shown readings faults q reply old new serves = elim serves.served [
  | inl t ↦
      let r = t.1 in
      record {
        running = serves.running;
        history = r.history;
        contents = λ _. r.contents;
        grows =
            let entry = entry_of q (moment_at r.takes.minute old.offset) in
            let history : new.history ≡ old.history ++ entry ∷ [] = r.history ∙ ap (λ (o : Option ℕ). recorded_at old.history q old.offset o) r.takes.reading in
            subst (λ (h : List Entry). Changes (GrowsTo old.history h) (shown old.disk).contents (shown new.disk).contents) (sym history)
            (GrowsTo-put old.history entry (shown old.disk).contents (shown new.disk).contents
            (subst (λ (h : List Entry). Leaves (frames_of h) (shown old.disk).contents (shown new.disk).contents) history r.text));
        rest = λ _. r.rest;
        later = calls_later 4 (shown old.disk) (shown new.disk) r.calls;
        disk_faults = omega (arith, r.no_fault);
        clock_later = omega (arith, r.takes.clock.no_fault);
      }
  | inr t ↦
      let l = t.1 in
      let same : new.history ≡ old.history = l.kept.history in
      record {
        running = serves.running;
        history = same ∙ sym (ap (λ (r : Option ℕ). recorded_at old.history q old.offset r) l.reading);
        contents = λ stays. Changes-same (λ _ bytes. IsLedgerOf bytes new.history) (shown old.disk).contents (shown old.disk).contents (shown new.disk).contents
            (subst (λ (h : List Entry). Changes (λ _ bytes. IsLedgerOf bytes h) (shown old.disk).contents (shown old.disk).contents) (sym same) stays) l.kept.disk.contents;
        grows = grows_read old.history new.history (shown old.disk).contents (shown new.disk).contents same l.kept.disk.contents;
        rest = λ rest. IsAtRest-read (shown old.disk) (shown new.disk) rest l.kept.disk;
        later = l.kept.disk.later;
        disk_faults = l.kept.disk.faults;
        clock_later = subst (λ (k : C). faults old.clock ≤ faults k) (sym l.clock) (omega arith);
      }
]

module _ {D C : Type 0} (shown : D → Shown) (readings : C → Option (List ℕ)) (faults : C → ℕ) (start : Shown) (Rested : ℕ → Type 0) (first : List Entry) (clock_faults : ℕ) (head : LaneHead) where
  refl_contents : (h : List Entry) (was now : Option (List ℕ)) → Changes (λ _ bytes. IsLedgerOf bytes h) was now → Changes (λ _ bytes. IsLedgerOf bytes h) now now
  refl_contents h None None changes = tt
  refl_contents h None (Some now) changes = absurd changes
  refl_contents h (Some was) None changes = absurd changes
  refl_contents h (Some was) (Some now) changes = changes

  stands_request : (q : Request) (a : Answered) (answers : List LineAnswer) (old new : State D C) → Asks shown readings faults old q (Ok a.reply) new
      → Stands shown faults start Rested first clock_faults answers old → Stands shown faults start Rested first clock_faults (answers ++ replied a ∷ []) new
  stands_request q a answers old new asked stands =
      let g = goes shown readings faults q a.reply old new asked.answered in
      let on : IsFrontOf old.history new.history = subst (λ (h : List Entry). IsFrontOf old.history h) (sym g.history) (recorded_front old.history q old.offset new.reading) in
      record {
        front = IsFrontOf-trans first old.history new.history stands.front on;
        contents = Changes-behind (λ _ bytes. IsLedgerOf bytes old.history) (λ bytes. IsLedgerOf bytes new.history) (λ bytes. IsLedgerOf bytes new.history)
            start.contents (shown old.disk).contents (shown new.disk).contents (λ now ledger. ledger) stands.contents
            (g.contents (refl_contents old.history start.contents (shown old.disk).contents stands.contents));
        grows = GrowsTo-chain first old.history new.history start.contents (shown old.disk).contents (shown new.disk).contents stands.grows g.grows;
        rest = g.rest stands.rest;
        later = let one = stands.later in let two = g.later in omega arith;
        disk_faults = let one = stands.disk_faults in let two = g.disk_faults in omega arith;
        clock_later = let one = stands.clock_later in let two = g.clock_later in omega arith;
        safe = λ rested is_rested told below.
            let later = g.later in
            let earlier : (shown old.disk).moment < last_moment = omega arith in
            let step : Secures (shown old.disk).moment old.history new.history (receipted_at (shown new.disk).moment a.reply.answer) (shown old.disk) (shown new.disk) =
            subst (λ (h : List Entry). Secures (shown old.disk).moment old.history h (receipted_at (shown new.disk).moment a.reply.answer) (shown old.disk) (shown new.disk)) (sym g.history)
            (asked.safe g.running (told_on (λ _ bytes. IsLedgerOf bytes old.history) start.contents (shown old.disk).contents stands.contents told) below) in
            secured_push start (shown old.disk) (shown new.disk) rested first old.history new.history answers a stands.later later stands.front on (stands.safe rested is_rested told earlier) step;
      }

  stands_looked : (a : Answered) (answers : List LineAnswer) (old new : State D C) → new ≡ old → (front : ℕ) (malformed : Malformed) → a.reply ≡ malformed_reply malformed front
      → Stands shown faults start Rested first clock_faults answers old → Stands shown faults start Rested first clock_faults (answers ++ replied a ∷ []) new
  stands_looked a answers old new same front malformed is stands = subst (λ (s : State D C). Stands shown faults start Rested first clock_faults (answers ++ replied a ∷ []) s) (sym same) (record {
    front = stands.front;
    contents = stands.contents;
    grows = stands.grows;
    rest = stands.rest;
    later = stands.later;
    disk_faults = stands.disk_faults;
    clock_later = stands.clock_later;
    safe = λ rested is_rested told below.
        let before = stands.safe rested is_rested told below in
        record {
          late = before.late;
          secures = before.secures;
          sure = AreSure-push (shown old.disk) (shown old.disk).moment answers (replied a) before.sure
              (subst (λ (r : Reply). IsSureOf (shown old.disk) (shown old.disk).moment r.answer) (sym is) tt);
        };
  })

  stands_extracted : (from to seq : ℕ) (x : Extracted) (answers : List LineAnswer) (old new : State D C) → Files shown readings faults old from to x (Ok tt) new
      → Stands shown faults start Rested first clock_faults answers old → Stands shown faults start Rested first clock_faults (answers ++ extracted seq x ∷ []) new
  stands_extracted from to seq x answers old new files stands =
      let takes = files.answered.takes in
      let read = takes.kept.disk in
      let history : new.history ≡ old.history = takes.kept.history in
      record {
        front = subst (IsFrontOf first) (sym history) stands.front;
        contents = subst (λ (h : List Entry). Changes (λ _ bytes. IsLedgerOf bytes h) start.contents (shown new.disk).contents) (sym history)
            (Changes-same (λ _ bytes. IsLedgerOf bytes old.history) start.contents (shown old.disk).contents (shown new.disk).contents stands.contents read.contents);
        grows = GrowsTo-chain first old.history new.history start.contents (shown old.disk).contents (shown new.disk).contents stands.grows
            (grows_read old.history new.history (shown old.disk).contents (shown new.disk).contents history read.contents);
        rest = IsAtRest-read (shown old.disk) (shown new.disk) stands.rest read;
        later = let one = stands.later in let two = read.later in omega arith;
        disk_faults = let one = stands.disk_faults in let two = read.faults in omega arith;
        clock_later = let one = stands.clock_later in let two = takes.clock.no_fault in omega arith;
        safe = λ rested is_rested told below.
            let later = read.later in
            let earlier : (shown old.disk).moment < last_moment = omega arith in
            let step : Secures (shown old.disk).moment old.history old.history [] (shown old.disk) (shown new.disk) =
            files.safe takes.running (told_on (λ _ bytes. IsLedgerOf bytes old.history) start.contents (shown old.disk).contents stands.contents told) below in
            subst (λ (h : List Entry). Secured start rested first h (answers ++ extracted seq x ∷ []) (shown new.disk)) (sym history)
            (secured_beside start (shown old.disk) (shown new.disk) rested first old.history answers seq x stands.later later stands.front (stands.safe rested is_rested told earlier) step);
      }

  pub lines_stand : (lines : List (List ℕ)) (answers done : List LineAnswer) (old new : State D C) → AnswersLines {Q = State D C} (store_steps shown readings faults) head old lines answers new
      → Stands shown faults start Rested first clock_faults done old → Stands shown faults start Rested first clock_faults (done ++ answers) new
  lines_stand [] [] done old new same stands =
      subst (λ (s : State D C). Stands shown faults start Rested first clock_faults (done ++ []) s) (sym same)
      (subst (λ (xs : List LineAnswer). Stands shown faults start Rested first clock_faults xs old) (sym (append-nil done)) stands)
  lines_stand (line ∷ lines) (a ∷ answers) done old new t stands =
      subst (λ (xs : List LineAnswer). Stands shown faults start Rested first clock_faults xs new) (append_assoc done (a ∷ []) answers)
      (lines_stand lines answers (done ++ a ∷ []) t.0 new t.2 (line_stands line a done old t.0 t.1 stands))
    where
      line_stands : (line : List ℕ) (a : LineAnswer) (done : List LineAnswer) (old next : State D C) → AnswersLine {Q = State D C} (store_steps shown readings faults) head old line a next
          → Stands shown faults start Rested first clock_faults done old → Stands shown faults start Rested first clock_faults (done ++ a ∷ []) next
      line_stands line (replied a) done old next (inl r) stands = stands_request r.request a done old next r.asked stands
      line_stands line (replied a) done old next (inr r) stands = stands_looked a done old next r.shown.1 r.front r.malformed r.reply stands
      line_stands line (extracted seq x) done old next r stands = stands_extracted r.from r.to seq x done old next r.done stands
  lines_stand [] (a ∷ answers) done old new t stands = absurd t
  lines_stand (line ∷ lines) [] done old new t stands = absurd t
