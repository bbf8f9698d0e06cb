-- Entries and their exits.
use Rattle.std.proofs.Common.{◌≡◌, ◌+◌, ◌-◌, ◌%◌, ◌<◌, ◌≤◌, ◌⊎◌, ◌==◌, ◌&&◌, ℕ, Bool, true, false, if◌then◌else◌, List, length, take, Some, inl, inr, refl, sym, ap, subst, ◌∙◌, arith, ⊎_elim, true≢false, eqb-true, eq-eqb}
use Rattle.std.proofs.lemmas.Bool.{cases_Bool, cases_eq, cases_lt}
use Rattle.std.proofs.lemmas.Option.{slice_get_within, slice_get_cases}
use Rattle.std.specs.Prelude.{slice_get, count_by}
use Rattle.tr_days.specs.Journey.{JourneyMark}
use Rattle.tr_pair.specs.Pairs.{ArePair, ArePaired, ArePlaced, HasEntry, IsLastKept, IsLoneEntry, is_kept, is_kept_on, number_of, pair_of, placed_as, sort_of}
use Rattle.tr_pair.specs.declared.placed.Placed.{Placed}
use Rattle.tr_pair.specs.declared.placed.Sort.TheVariants.{Entry, Exit, Dropped}
use Rattle.tr_pair.proofs.CountLemmas.{HasNumber, count_more_yes, count_rises, down_to, last_counted}
use Rattle.tr_pair.proofs.PlacedLemmas.{same_some}

-- by whether the mark is kept
abbrev placed_if : Bool → JourneyMark → ℕ → Placed
placed_if kept mark number =
    if kept
    then record { mark = mark; sort = sort_of number; pair = pair_of number }
    else record { mark = mark; sort = Dropped; pair = 0 }

sort_kept : (mark : JourneyMark) (number : ℕ) → is_kept mark ≡ true → (placed_as mark number).sort ≡ sort_of number
sort_kept mark number kept = ap (λ (b : Bool). (placed_if b mark number).sort) kept

sort_dropped : (mark : JourneyMark) (number : ℕ) → is_kept mark ≡ false → (placed_as mark number).sort ≡ Dropped
sort_dropped mark number dropped = ap (λ (b : Bool). (placed_if b mark number).sort) dropped

pair_kept : (mark : JourneyMark) (number : ℕ) → is_kept mark ≡ true → (placed_as mark number).pair ≡ pair_of number
pair_kept mark number kept = ap (λ (b : Bool). (placed_if b mark number).pair) kept

mark_if : (kept : Bool) (mark : JourneyMark) (number : ℕ) → (placed_if kept mark number).mark ≡ mark
mark_if true mark number = refl
mark_if false mark number = refl

mark_placed : (mark : JourneyMark) (number : ℕ) → (placed_as mark number).mark ≡ mark
mark_placed mark number = mark_if (is_kept mark) mark number

-- even numbers are entries, odd ones exits
sort_even : (number : ℕ) → number % 2 ≡ 0 → sort_of number ≡ Entry
sort_even number even = ap (λ (n : ℕ). if n == 0 then Entry else Exit) even

sort_odd : (number : ℕ) → number % 2 ≡ 1 → sort_of number ≡ Exit
sort_odd number odd = ap (λ (n : ℕ). if n == 0 then Entry else Exit) odd

parity : (number : ℕ) → (number % 2 ≡ 0) ⊎ (number % 2 ≡ 1)
parity number = ⊎_elim (λ even. inl even) (λ odd. inr (omega arith)) (cases_eq (number % 2) 0)

entry≢exit : Entry ≡ Exit → ⊥
entry≢exit e = cc

dropped≢entry : Dropped ≡ Entry → ⊥
dropped≢entry e = cc

dropped≢exit : Dropped ≡ Exit → ⊥
dropped≢exit e = cc

even_entry : (number : ℕ) → sort_of number ≡ Entry → number % 2 ≡ 0
even_entry number is =
    ⊎_elim (λ even. even) (λ odd. absurd (entry≢exit (sym is ∙ sort_odd number odd))) (parity number)

odd_exit : (number : ℕ) → sort_of number ≡ Exit → number % 2 ≡ 1
odd_exit number is =
    ⊎_elim (λ even. absurd (entry≢exit (sym (sort_even number even) ∙ is))) (λ odd. odd) (parity number)

-- an entry is kept, and its number is even
entry_if : (kept : Bool) (mark : JourneyMark) (number : ℕ) → (placed_if kept mark number).sort ≡ Entry → (kept ≡ true) × (number % 2 ≡ 0)
entry_if true mark number is = (refl, even_entry number is)
entry_if false mark number is = absurd (dropped≢entry is)

-- an exit is kept, and its number is odd
exit_if : (kept : Bool) (mark : JourneyMark) (number : ℕ) → (placed_if kept mark number).sort ≡ Exit → (kept ≡ true) × (number % 2 ≡ 1)
exit_if true mark number is = (refl, odd_exit number is)
exit_if false mark number is = absurd (dropped≢exit is)

both : (a b : Bool) → (a && b) ≡ true → (a ≡ true) × (b ≡ true)
both true b is = (refl, is)
both false b is = absurd (true≢false (sym is))

kept_on : (day : ℕ) (mark : JourneyMark) → is_kept_on day mark ≡ true → (is_kept mark ≡ true) × (mark.day ≡ day)
kept_on day mark is =
    let parts = both (is_kept mark) (mark.day == day) is in
    (parts.0, eqb-true mark.day day parts.1)

on_kept : (day : ℕ) (mark : JourneyMark) → is_kept mark ≡ true → mark.day ≡ day → is_kept_on day mark ≡ true
on_kept day mark kept same = ap (λ (b : Bool). b && (mark.day == day)) kept ∙ eq-eqb mark.day day same

-- what stands at a place
record IsPlacedAt (marks : List JourneyMark) (place : ℕ) (here : Placed) : Type 0 where
  mark : JourneyMark
  there : slice_get marks place ≡ Some mark
  is : here ≡ placed_as mark (number_of marks place mark)

placed_there : (marks : List JourneyMark) (placed : List Placed) (place : ℕ) (here : Placed) → ArePlaced marks placed
    → slice_get placed place ≡ Some here → IsPlacedAt marks place here
placed_there marks placed place here known there =
    ⊎_elim
    (λ at. record { mark = at.0; there = at.2; is = same_some (sym there ∙ known.each place at.0 at.2) })
    (λ past. absurd (let far = past.0 in let size = known.size in let within = slice_get_within placed place here there in omega arith))
    (slice_get_cases marks place).1

-- the number of a mark that was counted on the day
number_on : (marks : List JourneyMark) (day k e : ℕ) (one : HasNumber (is_kept_on day) marks k e) → number_of marks e one.element ≡ k
number_on marks day k e one =
    ap (λ (d : ℕ). count_by (is_kept_on d) (take e marks)) (kept_on day one.element one.passes).1 ∙ one.number

-- a kept mark with an even number, and the kept mark of its journey with the next one
are_pair : (marks : List JourneyMark) (placed : List Placed) → ArePlaced marks placed → (place other number : ℕ) (first second : JourneyMark)
    → slice_get marks place ≡ Some first → slice_get marks other ≡ Some second → is_kept first ≡ true → is_kept second ≡ true
    → number_of marks place first ≡ number → number_of marks other second ≡ number + 1 → number % 2 ≡ 0 → place < other
    → second.day ≡ first.day → ArePair placed place other
are_pair marks placed known place other number first second there next_there kept next_kept numbered next_numbered even behind same_day = record {
  begin = placed_as first number;
  finish = placed_as second (number + 1);
  begin_there = known.each place first there ∙ ap (λ n. Some (placed_as first n)) numbered;
  finish_there = known.each other second next_there ∙ ap (λ n. Some (placed_as second n)) next_numbered;
  enters = sort_kept first number kept ∙ sort_even number even;
  exits = sort_kept second (number + 1) next_kept ∙ sort_odd (number + 1) (omega arith);
  behind = behind;
  journey = ap (λ (m : JourneyMark). m.day) (mark_placed second (number + 1)) ∙ same_day ∙ ap (λ (m : JourneyMark). m.day) (sym (mark_placed first number));
  number = pair_kept second (number + 1) next_kept ∙ same_pair number even ∙ sym (pair_kept first number kept);
}
  where
    same_pair : (n : ℕ) → n % 2 ≡ 0 → pair_of (n + 1) ≡ pair_of n
    same_pair n even = omega arith

exit_has_entry : (marks : List JourneyMark) (placed : List Placed) → ArePlaced marks placed → (place : ℕ) (exit : Placed)
    → slice_get placed place ≡ Some exit → exit.sort ≡ Exit → HasEntry placed place
exit_has_entry marks placed known place exit there is_exit =
    let at = placed_there marks placed place exit known there in
    let number = number_of marks place at.mark in
    let odd = exit_if (is_kept at.mark) at.mark number (subst (λ (x : Placed). x.sort ≡ Exit) at.is is_exit) in
    let is_odd : number % 2 ≡ 1 = odd.1 in
    let within : place ≤ length marks = (let below = slice_get_within marks place at.mark at.there in omega arith) in
    let before = last_counted (is_kept_on at.mark.day) marks place (number - 1) within (omega arith) in
    let one = before.2 in
    let on = kept_on at.mark.day one.element one.passes in (
      before.0,
      are_pair marks placed known before.0 place (number - 1) one.element at.mark one.there at.there on.0 odd.0
          (number_on marks at.mark.day (number - 1) before.0 one) (omega arith) (omega arith) before.1 (sym on.1),
    )

-- a kept mark of the journey behind an entry leads to its exit
entry_has_exit : (marks : List JourneyMark) (placed : List Placed) → ArePlaced marks placed → (place other : ℕ) (entry : Placed)
    → entry.sort ≡ Entry → (at : IsPlacedAt marks place entry) (next : JourneyMark)
    → slice_get marks other ≡ Some next → place < other → is_kept next ≡ true → next.day ≡ at.mark.day
    → (exit : ℕ) × ArePair placed place exit
entry_has_exit marks placed known place other entry is_entry at next next_there behind kept same_day =
    let day = at.mark.day in
    let number = number_of marks place at.mark in
    let even = entry_if (is_kept at.mark) at.mark number (subst (λ (x : Placed). x.sort ≡ Entry) at.is is_entry) in
    let counted : count_by (is_kept_on day) (take (place + 1) marks) ≡ number + 1 =
    count_more_yes (is_kept_on day) marks place at.mark at.there (on_kept day at.mark even.0 refl) in
    let total = count_by (is_kept_on day) (take other marks) in
    let risen : count_by (is_kept_on day) (take (place + 1) marks) ≤ total = count_rises (is_kept_on day) marks (place + 1) other (omega arith) in
    let enough : total ≡ (number + 1) + (total - (number + 1)) = omega arith in
    let found = down_to (is_kept_on day) marks (number + 1) (total - (number + 1)) other
    (record { element = next; there = next_there; passes = on_kept day next kept same_day; number = enough }) in
    let one = found.2 in
    let on = kept_on day one.element one.passes in
    let after : place < found.0 =
    ⊎_elim (λ (less : place < found.0). less)
    (λ (back : found.0 ≤ place).
    let fewer : count_by (is_kept_on day) (take found.0 marks) ≤ number = count_rises (is_kept_on day) marks found.0 place back in
    let many : count_by (is_kept_on day) (take found.0 marks) ≡ number + 1 = one.number in
    absurd (omega arith))
    (cases_lt place found.0) in (
      found.0,
      are_pair marks placed known place found.0 number at.mark one.element at.there one.there even.0 on.0
          refl (number_on marks day (number + 1) found.0 one) even.1 after on.1,
    )

lone_is_last : (marks : List JourneyMark) (placed : List Placed) → ArePlaced marks placed → (place : ℕ) → IsLoneEntry placed place
    → IsLastKept placed place
lone_is_last marks placed known place lone last later other last_there later_there behind same_day =
    let at = placed_there marks placed place lone.entry known lone.there in
    let next = placed_there marks placed other later known later_there in
    let same_entry : last ≡ lone.entry = same_some (sym last_there ∙ lone.there) in
    let day_of_last : last.mark.day ≡ at.mark.day =
    ap (λ (x : Placed). x.mark.day) (same_entry ∙ at.is) ∙ ap (λ (m : JourneyMark). m.day) (mark_placed at.mark (number_of marks place at.mark)) in
    let day_of_later : later.mark.day ≡ next.mark.day =
    ap (λ (x : Placed). x.mark.day) next.is ∙ ap (λ (m : JourneyMark). m.day) (mark_placed next.mark (number_of marks other next.mark)) in
    ⊎_elim
    (λ (kept : is_kept next.mark ≡ true).
    let found = entry_has_exit marks placed known place other lone.entry lone.enters at next.mark next.there behind kept
    (sym day_of_later ∙ same_day ∙ day_of_last) in
    absurd (lone.lone found.0 found.1))
    (λ (dropped : is_kept next.mark ≡ false).
    ap (λ (x : Placed). x.sort) next.is ∙ sort_dropped next.mark (number_of marks other next.mark) dropped)
    (cases_Bool (is_kept next.mark))

pub ArePaired-from_placed : (marks : List JourneyMark) (placed : List Placed) → ArePlaced marks placed → ArePaired placed
ArePaired-from_placed marks placed known = record {
  exits = exit_has_entry marks placed known;
  lone = lone_is_last marks placed known;
}
