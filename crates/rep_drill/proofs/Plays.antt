-- how the lines of a schedule are played one after another
use Rattle.std.proofs.Common.{◌≡◌, ℕ, suc, ◌+◌, ◌<◌, ◌≤◌, ◌⊎◌, inl, inr, List, [], ◌∷◌, ◌++◌, length, get_or, Option, refl, sym, ap, subst, ◌∙◌, append-nil, length-append, arith}
use Rattle.std.specs.Prelude.{◌↔◌, Any, Bool, true, false, IsTrue, Err}
use Rattle.std.specs.List.{concat}
use Rattle.std.specs.Io.KnownBytes.{append_known}
use Rattle.std.proofs.lemmas.Bool.{cases_lt}
use Rattle.std.proofs.lemmas.Grind.{common_steps}
use Rattle.std.proofs.lemmas.List.Quantifiers.{Any-push}
use Rattle.std.proofs.lemmas.List.Folds.{concat-append}
use Rattle.rep_io.specs.Lines.{lines_of, longest_text}
use Rattle.rep_io.specs.Cutter.{Cutter}
use Rattle.rep_lane.specs.LaneText.{HasRead, IsWithin}
use Rattle.rep_report.proofs.KnownBytes.{append_known-nil, append_known-append}
use Rattle.rep_world.specs.World.{World}
use Rattle.rep_world.specs.declared.event.Seen.{Seen}
use Rattle.rep_drill.specs.Saying.{SeesRefusal, seen_text}
use Rattle.rep_drill.specs.Playing.{CutsOne, EndsPlayed, EndsSchedule, IsWhole, PlaysLine, PlaysLines, PlaysNext, PlaysOne, PlaysOut, PlaysText, RefusesNext, StandsOf, TakesLine, TellsRefusals, texts_from}
use Rattle.rep_drill.specs.declared.ending.DrillEnding.{DrillEnding}
use Rattle.rep_drill.specs.declared.ending.DrillEnding.TheVariants.{AllPlayed, SomeRefused, Refused, SourceFault, SinkFault, OutOfMemory, InputLimit}

-- one line more at the end
pub PlaysLines-push : (old : World) (lines : List (List ℕ)) (seen : List Seen) (mid : World) (line : List ℕ) (s : Seen) (new : World)
    → PlaysLines old lines seen mid → PlaysLine line mid new s → PlaysLines old (lines ++ line ∷ []) (seen ++ s ∷ []) new
PlaysLines-push old [] [] mid line s new same last = (new, subst (λ (w : World). PlaysLine line w new s) same last, refl)
PlaysLines-push old (first ∷ lines) (one ∷ seen) mid line s new t last = (t.0, t.1, PlaysLines-push t.0 lines seen mid line s new t.2 last)
PlaysLines-push old [] (one ∷ seen) mid line s new t last = absurd t
PlaysLines-push old (first ∷ lines) [] mid line s new t last = absurd t

-- of each line something was seen
pub PlaysLines-length : (old : World) (lines : List (List ℕ)) (seen : List Seen) (new : World) → PlaysLines old lines seen new → length seen ≡ length lines
PlaysLines-length old [] [] new t = refl
PlaysLines-length old (line ∷ lines) (one ∷ seen) new t = ap suc (PlaysLines-length t.0 lines seen new t.2)
PlaysLines-length old [] (one ∷ seen) new t = absurd t
PlaysLines-length old (line ∷ lines) [] new t = absurd t

pub texts_from-push : (first : ℕ) (seen : List Seen) (s : Seen) → texts_from first (seen ++ s ∷ []) ≡ texts_from first seen ++ seen_text (first + length seen) s ∷ []
texts_from-push first [] s =
    let same : first ≡ first + length {A = Seen} [] = omega arith in
    ap (λ (n : ℕ). seen_text n s ∷ []) same
texts_from-push first (one ∷ seen) s =
    let behind = texts_from-push (suc first) seen s in
    let same : suc first + length seen ≡ first + length (one ∷ seen) = omega arith in
    ap (λ (texts : List (List ℕ)). seen_text first one ∷ texts) behind
    ∙ ap (λ (n : ℕ). seen_text first one ∷ (texts_from (suc first) seen ++ seen_text n s ∷ [])) same

-- the texts of one event more
texts_push : (number : ℕ) (seen : List Seen) (s : Seen) → number ≡ 1 + length seen → texts_from 1 (seen ++ s ∷ []) ≡ texts_from 1 seen ++ seen_text number s ∷ []
texts_push number seen s is = texts_from-push 1 seen s ∙ ap (λ (n : ℕ). texts_from 1 seen ++ seen_text n s ∷ []) (sym is)

any_kept : (P : Seen → Type 0) (xs : List Seen) (y : Seen) → Any P xs → Any P (xs ++ y ∷ [])
any_kept P xs y any =
    let inside : any.0 < length xs = any.2 in
    let is : get_or xs any.0 any.1 ≡ any.1 = any.3 in
    (any.0, any.1, grind (arith, common_steps), grind (arith, common_steps), any.4)

any_cases : (P : Seen → Type 0) (xs : List Seen) (y : Seen) → Any P (xs ++ y ∷ []) → Any P xs ⊎ P y
any_cases P xs y any =
    let inside : any.0 < length (xs ++ y ∷ []) = any.2 in
    let is : get_or (xs ++ y ∷ []) any.0 any.1 ≡ any.1 = any.3 in
    elim (cases_lt any.0 (length xs)) [
      | inl before ↦ inl (any.0, any.1, before, (let same : get_or (xs ++ y ∷ []) any.0 any.1 ≡ get_or xs any.0 any.1 = grind (arith, common_steps) in sym same ∙ is), any.4)
      | inr past ↦ inr (let last : get_or (xs ++ y ∷ []) any.0 any.1 ≡ y = grind (arith, common_steps) in subst P (sym is ∙ last) any.4)
    ]

-- the lines up to the one before `number` were played
pub record UnderWay {S : Type 0} (left : S → Option (List ℕ)) (c_old c : Cutter S) (old now : World) (out_old out : Option (List ℕ)) (number events : ℕ) (refused : Bool) : Type 0 where
  pub lines : List (List ℕ)
  pub seen : List Seen
  pub plays : PlaysLines old lines seen now
  pub counted : number ≡ 1 + length lines
  pub events_are : events ≡ length lines
  pub said : out ≡ append_known out_old (concat (texts_from 1 seen))
  pub refusals : IsTrue refused ↔ Any SeesRefusal seen
  pub text : (text : List ℕ) → HasRead left c_old text [] → HasRead left c text lines

-- none was played yet
pub start : {S : Type 0} (left : S → Option (List ℕ)) (c : Cutter S) (w : World) (out : Option (List ℕ)) → UnderWay left c c w w out out 1 0 false
start left c w out = record {
  lines = [];
  seen = [];
  plays = refl;
  counted = refl;
  events_are = refl;
  said = sym (append_known-nil out);
  refusals = (λ is. absurd cc, λ any. let none : any.0 < 0 = any.2 in absurd (omega arith));
  text = λ text r. r;
}

module _ {S : Type 0} (left : S → Option (List ℕ)) (c_old c : Cutter S) (old now : World) (out_old out : Option (List ℕ)) (number events : ℕ) (refused : Bool)
    (u : UnderWay left c_old c old now out_old out number events refused) where
  as_many : number ≡ 1 + length u.seen
  as_many = u.counted ∙ ap (λ (n : ℕ). 1 + n) (sym (PlaysLines-length old u.lines u.seen now u.plays))

  -- one more was played
  pub goes_on : (after : Cutter S) (new : World) (out_new : Option (List ℕ)) (line : List ℕ) (is_refused all_refused : Bool)
      → TakesLine left c after line → PlaysOne number line now new out out_new is_refused → IsTrue all_refused ↔ (IsTrue refused ⊎ IsTrue is_refused)
      → UnderWay left c_old after old new out_old out_new (number + 1) number all_refused
  goes_on after new out_new line is_refused all_refused takes one either =
      let counted = u.counted in
      let longer : length (u.lines ++ line ∷ []) ≡ length u.lines + 1 = length-append u.lines (line ∷ []) in
      record {
        lines = u.lines ++ line ∷ [];
        seen = u.seen ++ one.seen ∷ [];
        plays = PlaysLines-push old u.lines u.seen now line one.seen new u.plays one.plays;
        counted = omega arith;
        events_are = omega arith;
        said =
            one.said
            ∙ ap (λ (o : Option (List ℕ)). append_known o (seen_text number one.seen)) u.said
            ∙ append_known-append out_old (concat (texts_from 1 u.seen)) (seen_text number one.seen)
            ∙ ap (append_known out_old) (sym (ap concat (texts_push number u.seen one.seen as_many)
            ∙ concat-append (texts_from 1 u.seen) (seen_text number one.seen ∷ [])
            ∙ ap (λ (xs : List ℕ). concat (texts_from 1 u.seen) ++ xs) (append-nil (seen_text number one.seen))));
        refusals = (
          λ is. elim (either.0 is) [
            | inl before ↦ any_kept SeesRefusal u.seen one.seen (u.refusals.0 before)
            | inr here ↦ Any-push SeesRefusal u.seen one.seen (one.refused.0 here)
          ],
          λ any. elim (any_cases SeesRefusal u.seen one.seen any) [
            | inl before ↦ either.1 (inl (u.refusals.1 before))
            | inr here ↦ either.1 (inr (one.refused.1 here))
          ],
        );
        text = λ text r. takes text u.lines (u.text text r);
      }

  -- the text's lines are those that were played, and what is left
  rest_of : (text : List ℕ) (r : HasRead left c_old text []) → lines_of text ≡ u.lines ++ lines_of (u.text text r).rest
  rest_of text r = (u.text text r).lines

  -- the drill ends where the text does
  pub ends_all : (new : World) (out_new : Option (List ℕ)) (ended : DrillEnding) → EndsPlayed refused ended → new ≡ now → out_new ≡ out
      → ((text : List ℕ) (before : List (List ℕ)) → HasRead left c text before → (lines_of text ≡ before) × (length text ≤ longest_text))
      → PlaysOut left c_old old new out_old out_new ended events
  ends_all new out_new ended is as_now same over = at_end refused ended is refl
    where
      at_end : (r : Bool) (e : DrillEnding) → EndsPlayed r e → r ≡ refused → PlaysOut left c_old old new out_old out_new e events
      at_end false e is this =
          subst (λ (x : DrillEnding). PlaysOut left c_old old new out_old out_new x events) (sym is)
          (record {
            last = now;
            plays = record {
              lines = u.lines;
              seen = u.seen;
              plays = u.plays;
              put = concat (texts_from 1 u.seen);
              said = same ∙ u.said;
              stands = refl;
              refusals = λ any. let yes : refused ≡ true = u.refusals.1 any in absurd cc;
              text = λ text r. record {
                rest = [];
                whole = (over text u.lines (u.text text r)).0 ∙ sym (append-nil u.lines);
                ends = (refl, (over text u.lines (u.text text r)).1);
              };
            };
            whole = λ whole. (as_now, u.events_are);
          })
      at_end true e is this =
          subst (λ (x : DrillEnding). PlaysOut left c_old old new out_old out_new x events) (sym is)
          (record {
            last = now;
            plays = record {
              lines = u.lines;
              seen = u.seen;
              plays = u.plays;
              put = concat (texts_from 1 u.seen);
              said = same ∙ u.said;
              stands = refl;
              refusals = u.refusals.0 (sym this);
              text = λ text r. record {
                rest = [];
                whole = (over text u.lines (u.text text r)).0 ∙ sym (append-nil u.lines);
                ends = (refl, (over text u.lines (u.text text r)).1);
              };
            };
            whole = λ whole. (as_now, u.events_are);
          })

  -- the drill ends before a line more was played
  pub ends_early : (new : World) (out_new : Option (List ℕ)) (ended : DrillEnding) (behind : ℕ) → (IsWhole ended → ⊥)
      → StandsOf (texts_from 1 u.seen) (concat (texts_from 1 u.seen)) ended → TellsRefusals u.seen ended → out_new ≡ out
      → ((text : List ℕ) (r : HasRead left c text u.lines) → PlaysText text u.lines now ended)
      → PlaysOut left c_old old new out_old out_new ended behind
  ends_early new out_new ended behind none stands refusals same ends = record {
    last = now;
    plays = record {
      lines = u.lines;
      seen = u.seen;
      plays = u.plays;
      put = concat (texts_from 1 u.seen);
      said = same ∙ u.said;
      stands = stands;
      refusals = refusals;
      text = λ text r. ends text (u.text text r);
    };
    whole = λ whole. absurd (none whole);
  }

  -- what is left of the text is whatever it is
  pub left_over : (ended : DrillEnding) (text : List ℕ) (r : HasRead left c text u.lines) → EndsSchedule text (length u.lines) (lines_of r.rest) now ended
      → PlaysText text u.lines now ended
  left_over ended text r ends = record { rest = lines_of r.rest; whole = r.lines; ends = ends }

  -- the line is refused
  pub refuses : (text : List ℕ) (at : ℕ) → at ≡ number → RefusesNext now text u.lines → PlaysText text u.lines now (Refused at)
  refuses text at is next =
      let counted = u.counted in
      let same : at ≡ suc (length u.lines) = omega arith in
      record {
        rest = next.line ∷ next.more;
        whole = next.next;
        ends = (same, (next.line, next.more, refl, next.refused, subst (λ (n : ℕ). IsWithin n text) (sym same) next.within));
      }

  -- the output failed at what was seen of one more
  pub cut_at : (after : Cutter S) (new : World) (out_new : Option (List ℕ)) (line : List ℕ) (behind : ℕ) → TakesLine left c after line
      → CutsOne number line now new out out_new → PlaysOut left c_old old new out_old out_new SinkFault behind
  cut_at after new out_new line behind takes one = record {
    last = new;
    plays = record {
      lines = u.lines ++ line ∷ [];
      seen = u.seen ++ one.seen ∷ [];
      plays = PlaysLines-push old u.lines u.seen now line one.seen new u.plays one.plays;
      put = concat (texts_from 1 u.seen) ++ one.put;
      said =
          one.said
          ∙ ap (λ (o : Option (List ℕ)). append_known o one.put) u.said
          ∙ append_known-append out_old (concat (texts_from 1 u.seen)) one.put;
      stands = record {
        before = texts_from 1 u.seen;
        last = seen_text number one.seen;
        split = texts_push number u.seen one.seen as_many;
        front = one.put;
        cut = one.front;
        stands = refl;
      };
      refusals = tt;
      text = λ text r.
          let read = takes text u.lines (u.text text r) in
          record { rest = lines_of read.rest; whole = read.lines; ends = tt };
    };
    whole = λ whole. absurd whole;
  }

  -- the drill ends at the next line
  pub ends_at : (after : Cutter S) (new : World) (out_new : Option (List ℕ)) (ended : DrillEnding) (behind : ℕ)
      → PlaysNext left number c after now new out out_new (Err ended) → PlaysOut left c_old old new out_old out_new ended behind
  ends_at after new out_new AllPlayed behind next = absurd next
  ends_at after new out_new SomeRefused behind next = absurd next
  ends_at after new out_new (Refused at) behind next =
      ends_early new out_new (Refused at) behind (λ whole. whole) refl tt next.1 (λ text r. refuses text at next.0 (next.2 text u.lines r))
  ends_at after new out_new SourceFault behind next =
      ends_early new out_new SourceFault behind (λ whole. whole) refl tt next (λ text r. left_over SourceFault text r tt)
  ends_at after new out_new SinkFault behind next = cut_at after new out_new next.0 behind next.1 next.2
  ends_at after new out_new OutOfMemory behind next =
      ends_early new out_new OutOfMemory behind (λ whole. whole) refl tt next (λ text r. left_over OutOfMemory text r tt)
  ends_at after new out_new InputLimit behind next =
      ends_early new out_new InputLimit behind (λ whole. whole) refl tt next.0 (λ text r. left_over InputLimit text r (next.1 text u.lines r))

  -- there are more lines than can be counted
  pub ends_uncounted : PlaysOut left c_old old now out_old out OutOfMemory events
  ends_uncounted = ends_early now out OutOfMemory events (λ whole. whole) refl tt refl (λ text r. left_over OutOfMemory text r tt)
