-- Laws of the marks of a link.
use Rattle.std.proofs.Common.{◌≡◌, ℕ, ◌+◌, ◌≤◌, true, false, not, ◌&&◌, cond, eqb, List, [], ◌++◌, get_or, All, Option, Some, None, inl, inr, refl, sym, ap, ◌∙◌, subst, arith}
use Rattle.std.specs.Prelude.{◌≢◌, AllPairs, IfSome, IfNone, filter, filter_map, slice_get}
use Rattle.std.specs.Ordering.{is_lt, nat_cmp, int_cmp, ordering_then}
use Rattle.std.specs.declared.cmp.Ordering.{Ordering}
use Rattle.std.specs.declared.cmp.Ordering.TheVariants.{Less, Equal, Greater}
use Rattle.std.specs.List.Sorted.{IsSorted, IsSortedBy, IsStable, IsStableBy, IsNonDecreasingBy, ties}
use Rattle.std.proofs.lemmas.List.Sorted.{IsNonDecreasingBy-from_all_adjacent}
use Rattle.std.proofs.lemmas.Bool.{cases_Bool, cases_lt, lt-ltb, false≢true, eqb-true, eq-eqb, ne_eqb}
use Rattle.std.proofs.lemmas.List.Elements.{filter-append}
use Rattle.std.proofs.lemmas.List.Quantifiers.{position-Some}
use Rattle.std.proofs.lemmas.Option.{get_or_from_slice_get}
use Rattle.rep_fields.specs.Moment.{instant_of}
use Rattle.tr_plan.specs.Disregard.{IsDropOf}
use Rattle.tr_plan.specs.declared.disregard.Disregard.{Disregard}
use Rattle.tr_plan.specs.declared.link.Link.{Link}
use Rattle.tr_plan.specs.declared.plan.Plan.{Plan}
use Rattle.tr_days.specs.Cover.{covers, cover_of}
use Rattle.tr_days.specs.Index.{is_of}
use Rattle.tr_days.specs.Journey.{JourneyMark}
use Rattle.tr_days.specs.Marks.{is_at, drop_of, original_mark, included_mark, is_in_period, gathered, kind_of, number_of, mark_cmp}
use Rattle.tr_days.specs.declared.clocking.Clocking.{Clocking}
use Rattle.tr_days.proofs.CoverLemmas.{person_of}
use Rattle.tr_days.proofs.ListLemmas.{filter_map_kept, filter_same}
use Rattle.tr_days.proofs.PlaceLemmas.{some_of, position_at, position_none}

pub at_found : (place : ℕ) (o : Option ℕ) → is_at place o ≡ true → o ≡ Some place
at_found place None is = absurd (false≢true is)
at_found place (Some found) is = ap Some (eqb-true found place is)

-- numbers that differ are found at one place
pub drop_is : (disregards : List Disregard) (nsr : ℕ) (o : Option ℕ) → AllPairs (λ earlier disregard. earlier.nsr ≢ disregard.nsr) disregards
    → IfSome o (IsDropOf disregards nsr) → IfNone o (All (λ disregard. disregard.nsr ≢ nsr) disregards) → o ≡ drop_of disregards nsr
drop_is disregards nsr (Some place) differ is none =
    let d = some_of disregards place is.within in
    sym (position_at (λ disregard. eqb disregard.nsr nsr) disregards place d is.within (eq-eqb (get_or disregards place d).nsr nsr (is.names d))
    (λ k less. ne_eqb (get_or disregards k d).nsr nsr (λ same. differ k place d less is.within (same ∙ sym (is.names d)))))
drop_is disregards nsr None differ is none =
    sym (position_none (λ disregard. eqb disregard.nsr nsr) disregards (λ k d within. ne_eqb (get_or disregards k d).nsr nsr (none k d within)))

-- the covering link of a clocking is its worker's
pub other_worker : (plan : Plan) (place : ℕ) (link : Link) (clocking : Clocking) → slice_get plan.links place ≡ Some link
    → is_of link.cpf clocking ≡ false → original_mark plan place link clocking ≡ None
other_worker plan place link clocking there other = elim (cases_Bool (is_at place (cover_of plan.links clocking.cpf clocking.at))) [
  | inl covered ↦
      let is = at_found place (cover_of plan.links clocking.cpf clocking.at) covered in
      let here = position-Some (λ l. covers l clocking.cpf clocking.at) plan.links place link is in
      let same : link.cpf ≡ clocking.cpf =
      person_of link clocking.cpf clocking.at
      (subst (λ (l : Link). covers l clocking.cpf clocking.at ≡ true) (get_or_from_slice_get plan.links place link link there) here.1) in
      absurd (false≢true (sym other ∙ eq-eqb clocking.cpf link.cpf (sym same)))
  | inr not ↦ ap (λ b. cond b (Some (record {
    at = clocking.at;
    day = Rattle.tr_plan.specs.Link.journey_day link clocking.at;
    from = Rattle.tr_days.specs.declared.root.Root.TheVariants.Original clocking.nsr (Rattle.tr_days.specs.Marks.drop_of plan.disregards clocking.nsr);
  })) None) not
]

-- the worker's clockings have all marks of the link that clockings give
pub worker_marks : (plan : Plan) (place : ℕ) (link : Link) (clockings : List Clocking) → slice_get plan.links place ≡ Some link
    → filter_map (original_mark plan place link) (filter (is_of link.cpf) clockings) ≡ filter_map (original_mark plan place link) clockings
worker_marks plan place link clockings there =
    filter_map_kept (is_of link.cpf) (original_mark plan place link) (λ clocking other. other_worker plan place link clocking there other) clockings

-- what is put behind one after the other is what is gathered
pub gathered_is : (plan : Plan) (place : ℕ) (link : Link) (from to : ℕ) (clockings part : List Clocking) (first both : List JourneyMark)
    → slice_get plan.links place ≡ Some link → part ≡ filter (is_of link.cpf) clockings
    → first ≡ [] ++ filter (is_in_period from to) (filter_map (original_mark plan place link) part)
    → both ≡ first ++ filter (is_in_period from to) (filter_map (included_mark link) (Rattle.std.specs.List.enumerate_from 0 plan.includes))
    → both ≡ gathered plan place link from to clockings
gathered_is plan place link from to clockings part first both there part_is first_is both_is =
    let p = is_in_period from to in
    let of_clockings : filter_map (original_mark plan place link) part ≡ filter_map (original_mark plan place link) clockings =
    ap (filter_map (original_mark plan place link)) part_is ∙ worker_marks plan place link clockings there in
    both_is
    ∙ ap (λ ys. ys ++ filter p (filter_map (included_mark link) (Rattle.std.specs.List.enumerate_from 0 plan.includes)))
    (first_is ∙ ap (filter p) of_clockings)
    ∙ sym (filter-append p (filter_map (original_mark plan place link) clockings) (filter_map (included_mark link) (Rattle.std.specs.List.enumerate_from 0 plan.includes)))

-- marks in their order stand by day
day_from : (a b : JourneyMark) → is_lt (mark_cmp b a) ≡ false → a.day ≤ b.day
day_from a b not_less = elim (cases_lt b.day a.day) [
  | inl less ↦ absurd (false≢true (sym not_less
      ∙ ap (λ q. is_lt (ordering_then (cond q Less (cond (eqb b.day a.day) Equal Greater))
      (ordering_then (int_cmp (instant_of b.at) (instant_of a.at)) (ordering_then (nat_cmp (kind_of b.from) (kind_of a.from)) (nat_cmp (number_of b.from) (number_of a.from))))))
      (lt-ltb b.day a.day less)))
  | inr most ↦ omega (arith, most)
]

pub by_day_from : (marks : List JourneyMark) → IsSorted mark_cmp marks → IsNonDecreasingBy (λ (mark : JourneyMark). mark.day) marks
by_day_from marks sorted =
    IsNonDecreasingBy-from_all_adjacent (λ (mark : JourneyMark). mark.day) marks
    (λ k d within. day_from (get_or marks k d) (get_or marks (k + 1) d) (sorted k d (omega arith) within))

-- the order of the numbers by which marks are put in order
abbrev pub rank_cmp : JourneyMark → JourneyMark → Ordering
rank_cmp a b =
    ordering_then (ordering_then (ordering_then (nat_cmp a.day b.day) (int_cmp (instant_of a.at) (instant_of b.at)))
    (nat_cmp (kind_of a.from) (kind_of b.from))) (nat_cmp (number_of a.from) (number_of b.from))

then_then : (a b c : Ordering) → ordering_then (ordering_then a b) c ≡ ordering_then a (ordering_then b c)
then_then Less b c = refl
then_then Equal b c = refl
then_then Greater b c = refl

rank_is : (a b : JourneyMark) → rank_cmp a b ≡ mark_cmp a b
rank_is a b =
    then_then (ordering_then (nat_cmp a.day b.day) (int_cmp (instant_of a.at) (instant_of b.at)))
    (nat_cmp (kind_of a.from) (kind_of b.from)) (nat_cmp (number_of a.from) (number_of b.from))
    ∙ then_then (nat_cmp a.day b.day) (int_cmp (instant_of a.at) (instant_of b.at))
    (ordering_then (nat_cmp (kind_of a.from) (kind_of b.from)) (nat_cmp (number_of a.from) (number_of b.from)))

pub in_order_from : (marks : List JourneyMark) → IsSortedBy (λ a b. is_lt (rank_cmp a b)) marks → IsSorted mark_cmp marks
in_order_from marks sorted = λ k d low within.
    sym (ap is_lt (rank_is (get_or marks (k + 1) d) (get_or marks k d))) ∙ sorted k d low within

pub ties_from : (old new : List JourneyMark) → IsStableBy (λ a b. is_lt (rank_cmp a b)) old new → IsStable mark_cmp old new
ties_from old new stable = λ x.
    let same : (y : JourneyMark) → ties (λ a b. is_lt (rank_cmp a b)) x y ≡ ties (λ a b. is_lt (mark_cmp a b)) x y = λ y.
    ap (λ p. not p && not (is_lt (rank_cmp y x))) (ap is_lt (rank_is x y)) ∙ ap (λ p. not (is_lt (mark_cmp x y)) && not p) (ap is_lt (rank_is y x)) in
    sym (filter_same (ties (λ a b. is_lt (rank_cmp a b)) x) (ties (λ a b. is_lt (mark_cmp a b)) x) same new) ∙ stable x
    ∙ filter_same (ties (λ a b. is_lt (rank_cmp a b)) x) (ties (λ a b. is_lt (mark_cmp a b)) x) same old
