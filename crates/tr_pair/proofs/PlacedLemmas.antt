-- Marks that are placed one after the other.
use Rattle.std.proofs.Common.{◌≡◌, ◌+◌, ◌<◌, ◌≤◌, ℕ, zero, suc, Bool, true, false, List, [], ◌∷◌, ◌++◌, length, take, get_or, Some, refl, sym, ap, subst, ◌∙◌, arith, ⊎_elim, below_more}
use Rattle.std.proofs.lemmas.Bool.{cases_Bool, cases_eq, cases_lt}
use Rattle.std.proofs.lemmas.Bool.Decides.{nat_tests}
use Rattle.std.proofs.lemmas.List.{length-append}
use Rattle.std.proofs.lemmas.Option.{get_or_from_slice_get, slice_get_within}
use Rattle.std.specs.List.Sorted.{IsNonDecreasingBy}
use Rattle.std.specs.Prelude.{slice_get, count_by}
use Rattle.tr_days.specs.Journey.{JourneyMark}
use Rattle.tr_pair.specs.Pairs.{ArePlaced, IsCrowded, IsFirstCrowded, is_kept, is_kept_on, most_pairs, number_of, pair_of, placed_as}
use Rattle.tr_pair.specs.declared.placed.Placed.{Placed}
use Rattle.tr_pair.proofs.CountLemmas.{count_more_yes, count_more_no}

-- those at the places below n, none of them with a pair number above the greatest
pub record ArePlacedBelow (marks : List JourneyMark) (n : ℕ) (placed : List Placed) : Type 0 where
  pub size : length placed ≡ n
  pub each : (place : ℕ) (mark : JourneyMark) → place < n → slice_get marks place ≡ Some mark
      → slice_get placed place ≡ Some (placed_as mark (number_of marks place mark))
  pub room : (place : ℕ) (mark : JourneyMark) → place < n → slice_get marks place ≡ Some mark → is_kept mark ≡ true
      → pair_of (number_of marks place mark) ≤ most_pairs

-- below n so many marks of the day's journey are kept; later journeys haven't begun, and earlier ones are over
pub record IsCounted (marks : List JourneyMark) (n day kept : ℕ) : Type 0 where
  pub of_day : count_by (is_kept_on day) (take n marks) ≡ kept
  pub later : (other : ℕ) → day < other → count_by (is_kept_on other) (take n marks) ≡ 0
  pub over : (place : ℕ) (mark : JourneyMark) → n ≤ place → slice_get marks place ≡ Some mark → day ≤ mark.day

pub ArePlacedBelow-nil : (marks : List JourneyMark) → ArePlacedBelow marks 0 []
ArePlacedBelow-nil marks = record {
  size = refl;
  each = λ place mark below _. absurd (omega arith);
  room = λ place mark below _ _. absurd (omega arith);
}

pub IsCounted-nil : (marks : List JourneyMark) → IsCounted marks 0 0 0
IsCounted-nil marks = record { of_day = refl; later = λ other _. refl; over = λ place mark _ _. omega arith }

-- marks that stand by their days
abbrev pub StandByDay : List JourneyMark → Type 0
StandByDay marks = IsNonDecreasingBy (λ (mark : JourneyMark). mark.day) marks

pub day_rises : (marks : List JourneyMark) (m n : ℕ) (mark next : JourneyMark) → StandByDay marks → m ≤ n
    → slice_get marks m ≡ Some mark → slice_get marks n ≡ Some next → mark.day ≤ next.day
day_rises marks m n mark next rises le mark_there next_there =
    let one : get_or marks m mark ≡ mark = get_or_from_slice_get marks m mark mark mark_there in
    let two : get_or marks n mark ≡ next = get_or_from_slice_get marks n next mark next_there in
    let order = rises m n mark le (slice_get_within marks n next next_there) in
    subst (λ (x : JourneyMark). x.day ≤ next.day) one (subst (λ (x : JourneyMark). (get_or marks m mark).day ≤ x.day) two order)

-- the number of the next mark, by what was counted
pub number_next : (marks : List JourneyMark) (n day kept number : ℕ) (mark : JourneyMark) → IsCounted marks n day kept
    → slice_get marks n ≡ Some mark → (mark.day ≡ day → number ≡ kept) → ((mark.day ≡ day → ⊥) → number ≡ 0)
    → number_of marks n mark ≡ number
number_next marks n day kept number mark known there same other =
    let from = known.over n mark (omega arith) there in
    ⊎_elim
    (λ (e : mark.day ≡ day). ap (λ d. count_by (is_kept_on d) (take n marks)) e ∙ known.of_day ∙ sym (same e))
    (λ (differ : mark.day ≡ day → ⊥). known.later mark.day (omega arith) ∙ sym (other differ))
    (cases_eq mark.day day)

kept_itself : (mark : JourneyMark) (kept : Bool) → is_kept mark ≡ kept → is_kept_on mark.day mark ≡ kept
kept_itself mark kept is = grind (arith, nat_tests, is)

not_on : (mark : JourneyMark) (other : ℕ) → mark.day < other → is_kept_on other mark ≡ false
not_on mark other less = grind (arith, nat_tests)

-- what was counted behind the next mark
pub IsCounted-more : (marks : List JourneyMark) (n day kept number more : ℕ) (mark : JourneyMark) → StandByDay marks
    → IsCounted marks n day kept → slice_get marks n ≡ Some mark → number_of marks n mark ≡ number
    → (is_kept mark ≡ true → more ≡ number + 1) → (is_kept mark ≡ false → more ≡ number)
    → IsCounted marks (n + 1) mark.day more
IsCounted-more marks n day kept number more mark rises known there numbered if_kept if_not = record {
  of_day =
      ⊎_elim
      (λ yes. count_more_yes (is_kept_on mark.day) marks n mark there (kept_itself mark true yes) ∙ ap (λ m. m + 1) numbered ∙ sym (if_kept yes))
      (λ no. count_more_no (is_kept_on mark.day) marks n mark there (kept_itself mark false no) ∙ numbered ∙ sym (if_not no))
      (cases_Bool (is_kept mark));
  later = λ other above.
      count_more_no (is_kept_on other) marks n mark there (not_on mark other above)
      ∙ known.later other (let from = known.over n mark (omega arith) there in omega arith);
  over = λ place next from next_there. day_rises marks n place mark next rises (omega arith) there next_there;
}

pub same_some : {X : Type 0} {x y : X} → Some x ≡ Some y → x ≡ y
same_some e = cc

slice_get-append_left : {X : Type 0} (xs ys : List X) (k : ℕ) → k < length xs → slice_get (xs ++ ys) k ≡ slice_get xs k
slice_get-append_left [] ys k within = absurd (omega arith)
slice_get-append_left (x ∷ xs) ys zero within = refl
slice_get-append_left (x ∷ xs) ys (suc k) within = slice_get-append_left xs ys k (omega arith)

slice_get_last : {X : Type 0} (xs : List X) (x : X) → slice_get (xs ++ x ∷ []) (length xs) ≡ Some x
slice_get_last [] x = refl
slice_get_last (y ∷ xs) x = slice_get_last xs x

-- one more mark is placed
pub ArePlacedBelow-more : (marks : List JourneyMark) (n number : ℕ) (placed : List Placed) (mark : JourneyMark)
    → ArePlacedBelow marks n placed → slice_get marks n ≡ Some mark → number_of marks n mark ≡ number
    → (is_kept mark ≡ true → pair_of number ≤ most_pairs)
    → ArePlacedBelow marks (n + 1) (placed ++ placed_as mark number ∷ [])
ArePlacedBelow-more marks n number placed mark known there numbered fits = record {
  size = (let size = known.size in simp length-append (omega arith));
  each = λ place other below other_there.
      below_more (λ k. (m : JourneyMark) → slice_get marks k ≡ Some m
      → slice_get (placed ++ placed_as mark number ∷ []) k ≡ Some (placed_as m (number_of marks k m))) n
      (λ k less m m_there. slice_get-append_left placed (placed_as mark number ∷ []) k (let size = known.size in omega arith) ∙ known.each k m less m_there)
      (λ m m_there.
      let same : mark ≡ m = same_some (sym there ∙ m_there) in
      ap (λ k. slice_get (placed ++ placed_as mark number ∷ []) k) (sym known.size) ∙ slice_get_last placed (placed_as mark number)
      ∙ ap (λ k. Some (placed_as mark k)) (sym numbered)
      ∙ ap (λ x. Some (placed_as x (number_of marks n x))) same)
      place below other other_there;
  room = λ place other below other_there is_kept_one.
      below_more (λ k. (m : JourneyMark) → slice_get marks k ≡ Some m → is_kept m ≡ true → pair_of (number_of marks k m) ≤ most_pairs) n
      (λ k less m m_there kept_one. known.room k m less m_there kept_one)
      (λ m m_there kept_one.
      let same : mark ≡ m = same_some (sym there ∙ m_there) in
      subst (λ x. pair_of (number_of marks n x) ≤ most_pairs) same
      (subst (λ k. pair_of k ≤ most_pairs) (sym numbered) (fits (ap is_kept same ∙ kept_one))))
      place below other other_there is_kept_one;
}

-- all marks are placed
pub ArePlaced-from_below : (marks : List JourneyMark) (n : ℕ) (placed : List Placed) → ArePlacedBelow marks n placed → n ≡ length marks
    → ArePlaced marks placed
ArePlaced-from_below marks n placed known all = record {
  size = known.size ∙ all;
  each = λ place mark there. known.each place mark (let within = slice_get_within marks place mark there in omega arith) there;
}

-- and no journey is crowded
pub not_crowded : (marks : List JourneyMark) (n : ℕ) (placed : List Placed) → ArePlacedBelow marks n placed → length marks ≤ n
    → (day : ℕ) → IsCrowded marks day → ⊥
not_crowded marks n placed known all day crowded =
    let within = slice_get_within marks crowded.place crowded.mark crowded.there in
    let fits = known.room crowded.place crowded.mark (omega arith) crowded.there crowded.kept in
    let above = crowded.above in
    omega arith

-- the next mark is the first without room
pub IsFirstCrowded-next : (marks : List JourneyMark) (n number : ℕ) (placed : List Placed) (mark : JourneyMark) → StandByDay marks
    → ArePlacedBelow marks n placed → slice_get marks n ≡ Some mark → number_of marks n mark ≡ number
    → is_kept mark ≡ true → most_pairs < pair_of number → IsFirstCrowded marks mark.day
IsFirstCrowded-next marks n number placed mark rises known there numbered kept above = record {
  crowded = record {
    place = n;
    mark = mark;
    there = there;
    on_day = refl;
    kept = kept;
    above = subst (λ k. most_pairs < pair_of k) (sym numbered) above;
  };
  first = λ other crowded.
      ⊎_elim
      (λ (before : crowded.place < n).
      let fits = known.room crowded.place crowded.mark before crowded.there crowded.kept in
      let over = crowded.above in
      absurd (omega arith))
      (λ (from : n ≤ crowded.place).
      subst (λ d. mark.day ≤ d) crowded.on_day (day_rises marks n crowded.place mark crowded.mark rises from there crowded.there))
      (cases_lt crowded.place n);
}
