-- Absences with their days, once they are sorted.
use Rattle.std.proofs.Common.{◌≡◌, ◌<◌, ◌⊎◌, ℕ, Bool, false, List, length, get_or, map, Some, sym, ap, subst, ◌∙◌, arith, IsPermutation, nat_eq}
use Rattle.std.proofs.lemmas.Bool.Decides.{nat_tests}
use Rattle.std.proofs.lemmas.Cmp.{nat_eq_equiv, nat_cmp_total, then_total, on_total}
use Rattle.std.proofs.lemmas.List.{get_or-map, length-map}
use Rattle.std.proofs.lemmas.List.Sorted.{All-permutation, Contains-permutation, ranks_by, sorted_far}
use Rattle.std.proofs.lemmas.Map.Keys.{IsDistinct-IsPermutation, IsDistinct-from_apart, apart_from_distinct}
use Rattle.std.proofs.lemmas.Option.{slice_get_within}
use Rattle.std.specs.List.{IsDistinct}
use Rattle.std.specs.Ordering.{is_lt, nat_cmp, ordering_then}
use Rattle.std.specs.Prelude.{All, AllPairs, IsSortedBy}
use Rattle.tr_plan.specs.declared.absence.Absence.{Absence}
use Rattle.tr_plan.specs.declared.plan.Plan.{Plan}
use Rattle.tr_bank.specs.Absences.{IsAbsenceAt, AreAbsencesOf, IsEarlier}
use Rattle.tr_bank.specs.Dated.{IsDated, AreDated}
use Rattle.tr_bank.specs.declared.listing.Dated.{Dated}

abbrev place_of : Dated → ℕ
place_of dated = dated.place

-- the one stands below the other in the order that the sort goes by
abbrev is_below : Dated → Dated → Bool
is_below one other = is_lt (ordering_then (nat_cmp one.day other.day) (nat_cmp one.place other.place))

abbrev is_same_place : Dated → Dated → Bool
is_same_place one other = nat_eq one.place other.place

same_places : (found : List Dated) → AllPairs (λ one other. one.place < other.place) found → IsDistinct is_same_place found
same_places found rising =
    IsDistinct-from_apart is_same_place found
    (λ i j d order within. let less : (get_or found i d).place < (get_or found j d).place = rising i j d order within in grind (arith, nat_tests))

not_below : (day other_day place other_place : ℕ) → is_lt (ordering_then (nat_cmp other_day day) (nat_cmp other_place place)) ≡ false
    → nat_eq place other_place ≡ false → (day < other_day) ⊎ ((day ≡ other_day) × (place < other_place))
not_below day other_day place other_place order differ = grind (arith, nat_tests)

-- by day, and then by place
in_order : (found dated : List Dated) → AllPairs (λ one other. one.place < other.place) found → IsPermutation found dated
    → IsSortedBy is_below dated
    → AllPairs (λ one other. (one.day < other.day) ⊎ ((one.day ≡ other.day) × (one.place < other.place))) dated
in_order found dated rising moved sorted i j d order within =
    let laws = ranks_by (then_total (on_total (λ (one : Dated). one.day) nat_cmp_total) (on_total (λ (one : Dated). one.place) nat_cmp_total)) (λ (one : Dated). one) in
    let apart = IsDistinct-IsPermutation is_same_place (λ one other. nat_eq_equiv.symm one.place other.place) found dated moved (same_places found rising) in
    not_below (get_or dated i d).day (get_or dated j d).day (get_or dated i d).place (get_or dated j d).place
    (sorted_far is_below laws dated sorted i j d (omega arith) within)
    (apart_from_distinct is_same_place dated i j d apart order within)

earlier_from : (plan : Plan) (link from to : ℕ) (one other : Dated) → IsDated plan link from to one → IsDated plan link from to other
    → (one.day < other.day) ⊎ ((one.day ≡ other.day) × (one.place < other.place)) → IsEarlier plan.absences one.place other.place
earlier_from plan link from to one other known also order before after before_there after_there =
    let first : one.day ≡ before.date = known.day ∙ ap (λ (a : Absence). a.date) (same_some (sym known.absence.absence_there ∙ before_there)) in
    let second : other.day ≡ after.date = also.day ∙ ap (λ (a : Absence). a.date) (same_some (sym also.absence.absence_there ∙ after_there)) in
    subst (λ n. (n < after.date) ⊎ ((n ≡ after.date) × (one.place < other.place))) first
    (subst (λ n. (one.day < n) ⊎ ((one.day ≡ n) × (one.place < other.place))) second order)
  where
    same_some : {X : Type 0} {x y : X} → Some x ≡ Some y → x ≡ y
    same_some e = cc

pub AreAbsencesOf-from_sorted : (plan : Plan) (link from to : ℕ) (found dated : List Dated) (places : List ℕ)
    → AreDated plan link from to found → IsPermutation found dated → IsSortedBy is_below dated → places ≡ map place_of dated
    → AreAbsencesOf plan link from to places
AreAbsencesOf-from_sorted plan link from to found dated places known moved sorted is =
    let dates = All-permutation (IsDated plan link from to) found dated moved known.only in
    let order = in_order found dated known.rising moved sorted in
    let answer : AreAbsencesOf plan link from to (map place_of dated) = record {
      only = λ k d within.
          let there : k < length dated = omega (arith, length-map dated place_of) in
          subst (IsAbsenceAt plan link from to) (sym (get_or-map place_of dated k (record { day = 0; place = d }) d there))
          (dates k (record { day = 0; place = d }) there).absence;
      all = λ place there.
          let one = known.all place there in
          let kept = Contains-permutation found dated one.1 moved (one.0, one.2, one.3) in
          (kept.0, omega (arith, length-map dated place_of, kept.1), get_or-map place_of dated kept.0 one.1 place kept.1 ∙ ap place_of kept.2 ∙ one.4);
      in_order = λ i j d less within.
          let e : Dated = record { day = 0; place = d } in
          let last : j < length dated = omega (arith, length-map dated place_of) in
          let first : i < length dated = omega arith in
          subst (λ n. IsEarlier plan.absences n (get_or (map place_of dated) j d)) (sym (get_or-map place_of dated i e d first))
          (subst (IsEarlier plan.absences (get_or dated i e).place) (sym (get_or-map place_of dated j e d last))
          (earlier_from plan link from to (get_or dated i e) (get_or dated j e) (dates i e first) (dates j e last) (order i j e less last)));
    } in
    subst (AreAbsencesOf plan link from to) (sym is) answer

-- they are places of the plan's absences
pub places_within : (plan : Plan) (link from to : ℕ) (places : List ℕ) → AreAbsencesOf plan link from to places
    → All (λ place. place < length plan.absences) places
places_within plan link from to places known k d within =
    let there = known.only k d within in
    slice_get_within plan.absences (get_or places k d) there.absence there.absence_there
