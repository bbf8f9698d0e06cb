-- The images at each moment of a `put`.
use Rattle.std.proofs.Common.{◌≡◌, inl, inr, ℕ, ◌+◌, ◌<◌, ◌≤◌, List, [], ◌∷◌, ◌++◌, length, Some, None, Option, sym, ap, subst, arith, length-append}
use Rattle.std.specs.Prelude.{◌↔◌, IfSome, IsSome}
use Rattle.std.proofs.lemmas.Bool.{cases_lt}
use Rattle.rep_disk.specs.Disk.{Shown, Torn, Moves, Moved, KeepsPast, IsAtRest, last_moment}
use Rattle.rep_journal.specs.Format.{Framed, end_of, IsJournalOf}
use Rattle.rep_journal.specs.State.{StandsFor, IsWithOrWithout}
use Rattle.rep_journal.specs.Recovery.{ImageStandsFor, LeavesAtLeast, NeverFalls, PutMoments}
use Rattle.rep_journal.proofs.KindLemmas.{one_journal, kept_not_blank}
use Rattle.rep_journal.proofs.PutLemmas.{IsStaged, torn_behind, torn_gate}

-- what is told of the contents holds of an image that equals them
told_of : (contents : Option (List ℕ)) (P : List ℕ → Type 0) (Leaves : Type 0) (image : List ℕ) → IsSome contents → IfSome contents P → IfSome contents (λ bytes. Leaves ↔ image ≡ bytes) → Leaves → P image
told_of None P Leaves image told p is leaves = absurd (cc)
told_of (Some bytes) P Leaves image told p is leaves = subst P (sym (is.0 leaves)) p

-- at rest, each image is as the contents
pub rest_has : (s : Shown) (P : List ℕ → Type 0) → IsSome s.contents → IfSome s.contents P → IsAtRest s → s.moment < last_moment → (image : List ℕ) → s.may_leave s.moment image → P image
rest_has s P told p rest before image leaves = told_of s.contents P (s.may_leave s.moment image) image told p (rest before image) leaves

-- a step that takes each image as at rest to one that has Q, from the old moment on
pub moved_has : (step : List ℕ → List ℕ → Type 0) (P Q : List ℕ → Type 0) (old new : Shown) → IsSome old.contents → IfSome old.contents P → IsAtRest old → Moved step old new → old.moment ≤ new.moment → new.moment < last_moment
    → ((image : List ℕ) → P image → Q image) → ((was image : List ℕ) → P was → step was image → Q image) → (m : ℕ) (image : List ℕ) → old.moment ≤ m → m ≤ new.moment → new.may_leave m image → Q image
moved_has step P Q old new told p rest moved le before same stepped m image from to leaves = elim (cases_lt old.moment m) [
  | inl later ↦
      let was = moved.images m image later to leaves in
      stepped was.0 image (rest_has old P told p rest (omega arith) was.0 was.1) was.2
  | inr now ↦
      let here : m ≡ old.moment = omega arith in
      let left : old.may_leave m image = (moved.past m image now).0 leaves in
      same image (rest_has old P told p rest (omega arith) image (subst (λ (n : ℕ). old.may_leave n image) here left))
]

-- an image that has frames stands for these alone
pub one_standing : (image : List ℕ) (fs gs : List Framed) → IsJournalOf image fs → ImageStandsFor image gs → gs ≡ fs
one_standing image fs gs j (inl k) = one_journal image gs fs k j
one_standing image [] gs j (inr blank) = blank.0
one_standing image (f ∷ fs) gs j (inr blank) = absurd (kept_not_blank image (f ∷ fs) j (λ e. cc) blank.1)

-- The number of frames never falls in a step from images that stand for some to images that stand for no fewer.
pub moved_never_falls : (fs : List Framed) (step : List ℕ → List ℕ → Type 0) (old new : Shown) → Moved step old new → ((image : List ℕ) → old.may_leave old.moment image → ImageStandsFor image fs)
    → ((m : ℕ) (image : List ℕ) → old.moment < m → m ≤ new.moment → new.may_leave m image → (gs : List Framed) → ImageStandsFor image gs → length fs ≤ length gs) → NeverFalls old new
moved_never_falls fs step old new moved start no_fewer least m later from after to lower image gs leaves stands = elim (cases_lt old.moment m) [
  | inl behind ↦ lower image gs (moved.settles m later image behind after to leaves) stands
  | inr now ↦
      let here : m ≡ old.moment = omega arith in
      elim (cases_lt old.moment later) [
        | inl goes_on ↦
            let was = moved.images later image goes_on to leaves in
            let left : new.may_leave m was.0 = (moved.past m was.0 now).1 (subst (λ (n : ℕ). old.may_leave n was.0) (sym here) was.1) in
            let few = lower was.0 fs left (start was.0 was.1) in
            let more = no_fewer later image goes_on to leaves gs stands in
            omega arith
        | inr stays ↦
            let same : later ≡ m = omega arith in
            lower image gs (subst (λ (n : ℕ). new.may_leave n image) same leaves) stands
      ]
]

-- and so in two steps, one after the other
pub never_falls_on : (old mid new : Shown) → KeepsPast mid new → old.moment ≤ mid.moment → mid.moment ≤ new.moment → NeverFalls old mid → NeverFalls mid new → NeverFalls old new
never_falls_on old mid new past le le_later first second least m later from after to lower image gs leaves stands = elim (cases_lt mid.moment later) [
  | inr early ↦ first least m later from after early (λ i g left s. lower i g ((past m i (omega arith)).1 left) s) image gs ((past later image early).0 leaves) stands
  | inl late ↦ elim (cases_lt mid.moment m) [
    | inl behind ↦ second least m later (omega arith) after to lower image gs leaves stands
    | inr ahead ↦
        let at_mid : LeavesAtLeast least new mid.moment = λ i g left s. first least m mid.moment from ahead (omega arith) (λ j h was t. lower j h ((past m j ahead).1 was) t) i g ((past mid.moment i (omega arith)).0 left) s in
        second least mid.moment later (omega arith) (omega arith) to at_mid image gs leaves stands
  ]
]

pub past_on : (old mid new : Shown) → old.moment ≤ mid.moment → KeepsPast old mid → KeepsPast mid new → KeepsPast old new
past_on old mid new le first second m image at = ((λ leaves. (first m image at).0 ((second m image (omega arith)).0 leaves)), (λ leaves. (second m image (omega arith)).1 ((first m image at).1 leaves)))

module _ (fs : List Framed) (f : Framed) where
  with_or_without : (image : List ℕ) (gs : List Framed) → IsWithOrWithout fs f image → ImageStandsFor image gs → length fs ≤ length gs
  with_or_without image gs (inl j) s = let e = ap length (one_standing image fs gs j s) in omega arith
  with_or_without image gs (inr j) s = let e = ap length (one_standing image (fs ++ f ∷ []) gs j s) in omega (arith, length-append fs (f ∷ []))

  -- after the first write and its sync, or where one of the two failed
  pub staged_moments : (size : ℕ) (old new : Shown) → IsSome old.contents → StandsFor old.contents fs → IsAtRest old → Moves (Torn (end_of fs + 1) size) old new
      → old.moment ≤ new.moment → new.moment ≤ old.moment + 4 → new.moment < last_moment → PutMoments fs f old new
  staged_moments size old new told stands rest moves le calls before =
      let moved = moves before in
      let images = moved_has (Torn (end_of fs + 1) size) (λ b. IsJournalOf b fs) (λ b. IsJournalOf b fs) old new told stands rest moved le before (λ image j. j) (λ was image j torn. torn_behind fs size was image j torn) in
      record {
        past = moved.past;
        closed = λ m image from four to leaves. images m image from to leaves;
        opened = λ m image from to leaves. inl (images m image from to leaves);
        sure = moved_never_falls fs (Torn (end_of fs + 1) size) old new moved (λ image leaves. inl (rest_has old (λ b. IsJournalOf b fs) told stands rest (omega arith) image leaves))
            (λ m image from to leaves gs s. with_or_without image gs (inl (images m image (omega arith) to leaves)) s);
      }

  -- after the second write and its sync, or where one of these two failed
  pub opened_moments : (size : ℕ) (old mid new : Shown) → IsSome old.contents → StandsFor old.contents fs → IsAtRest old → Moves (Torn (end_of fs + 1) size) old mid → old.moment ≤ mid.moment → mid.moment ≡ old.moment + 4
      → IsSome mid.contents → IfSome mid.contents (λ b. IsStaged b fs f) → IsAtRest mid → Moves (Torn (end_of fs) 1) mid new → mid.moment ≤ new.moment → new.moment < last_moment → PutMoments fs f old new
  opened_moments size old mid new told stands rest moves le is told_mid staged rest_mid moves_mid le_mid before =
      let first = staged_moments size old mid told stands rest moves le (omega arith) (omega arith) in
      let moved = moves_mid before in
      let still : (image : List ℕ) → IsStaged image fs f → IsJournalOf image fs = λ image s. record { well_formed = s.well_formed; gate = s.gate; closed = s.closed; rest = _; text = s.text } in
      let later = moved_has (Torn (end_of fs) 1) (λ b. IsStaged b fs f) (λ b. IsWithOrWithout fs f b) mid new told_mid staged rest_mid moved le_mid before (λ image s. inl (still image s)) (λ was image s torn. torn_gate fs f was image s torn) in
      record {
        past = past_on old mid new le first.past moved.past;
        closed = λ m image from four to leaves. first.closed m image from four (omega arith) ((moved.past m image (omega arith)).0 leaves);
        opened = λ m image from to leaves. elim (cases_lt mid.moment m) [
          | inl behind ↦ later m image (omega arith) to leaves
          | inr ahead ↦ first.opened m image from ahead ((moved.past m image ahead).0 leaves)
        ];
        sure = never_falls_on old mid new moved.past le le_mid first.sure
            (moved_never_falls fs (Torn (end_of fs) 1) mid new moved (λ image leaves. inl (still image (rest_has mid (λ b. IsStaged b fs f) told_mid staged rest_mid (omega arith) image leaves)))
            (λ m image from to leaves gs s. with_or_without image gs (later m image (omega arith) to leaves) s));
      }
