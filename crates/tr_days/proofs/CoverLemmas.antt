-- Laws of the covering link.
use Rattle.std.proofs.Common.{◌≡◌, ℕ, ◌+◌, ◌<◌, ◌⊎◌, true, eqb, leb, List, length, get_or, min, All, Option, Some, None, IfSome, inl, inr, refl, sym, ap, ◌∙◌, subst, arith}
use Rattle.std.proofs.lemmas.Bool.{cases_lt, and_parts, and_from, eq-eqb, eqb-true, le-leb, leb-true, false_from_ne_true}
use Rattle.std.proofs.lemmas.List.{get_or_default}
use Rattle.std.proofs.lemmas.List.Quantifiers.{position-Some}
use Rattle.std.proofs.lemmas.Option.{same_Some, none-some}
use Rattle.rep_fields.specs.Moment.{Moment, day_of}
use Rattle.tr_plan.specs.Link.{IsOn, IsInDates, IsLink, journey_day}
use Rattle.tr_plan.specs.declared.link.Link.{Link}
use Rattle.tr_days.specs.Cover.{covers, cover_of, journey_of, day_under, is_in_dates}
use Rattle.tr_days.specs.CoverParts.{IsCoveredOn, lower_of}
use Rattle.tr_days.proofs.PlaceLemmas.{some_of, position_at, position_none, find_from_position, find_from_none}

-- the turn is below a day, so a mark counts on its day or on the day before
two_days : (link : Link) (at : Moment) → link.turn < 1440 → (journey_day link at ≡ day_of at) ⊎ (journey_day link at + 1 ≡ day_of at)
two_days link at turn = elim (cases_lt (journey_day link at) (day_of at)) [
  | inl less ↦ inr (omega arith)
  | inr more ↦ inl (omega arith)
]

covers_from : (link : Link) (cpf : ℕ) (at : Moment) → link.cpf ≡ cpf → IsInDates link (journey_day link at) → covers link cpf at ≡ true
covers_from link cpf at same dates =
    and_from (eqb link.cpf cpf) (is_in_dates link (journey_day link at)) (eq-eqb link.cpf cpf same)
    (and_from (leb link.since (journey_day link at)) (leb (journey_day link at) link.until) (le-leb link.since (journey_day link at) dates.since) (le-leb (journey_day link at) link.until dates.until))

pub person_of : (link : Link) (cpf : ℕ) (at : Moment) → covers link cpf at ≡ true → link.cpf ≡ cpf
person_of link cpf at is = eqb-true link.cpf cpf (and_parts (eqb link.cpf cpf) (is_in_dates link (journey_day link at)) is).0

dates_of : (link : Link) (cpf : ℕ) (at : Moment) → covers link cpf at ≡ true → IsInDates link (journey_day link at)
dates_of link cpf at is =
    let both = and_parts (leb link.since (journey_day link at)) (leb (journey_day link at) link.until)
    (and_parts (eqb link.cpf cpf) (is_in_dates link (journey_day link at)) is).1 in
    record { since = leb-true link.since (journey_day link at) both.0; until = leb-true (journey_day link at) link.until both.1 }

module _ (links : List Link) (cpf : ℕ) (at : Moment) where
  -- the CPF's link that is in force on the day covers the mark, where this is the mark's day under it
  pub covered_from : (day place : ℕ) → IsOn links cpf day place → ((link : Link) → journey_day (get_or links place link) at ≡ day)
      → IsCoveredOn links cpf at day place
  covered_from day place on counts = record {
    within = on.within;
    covers = λ link. covers_from (get_or links place link) cpf at (on.person link)
        (subst (λ n. IsInDates (get_or links place link) n) (sym (counts link)) (on.in_dates link));
    counts = counts;
  }

  pub on_from : (day place : ℕ) → IsCoveredOn links cpf at day place → IsOn links cpf day place
  on_from day place is = record {
    within = is.within;
    person = λ link. person_of (get_or links place link) cpf at (is.covers link);
    in_dates = λ link. subst (λ n. IsInDates (get_or links place link) n) (is.counts link) (dates_of (get_or links place link) cpf at (is.covers link));
  }

  -- what a search for the mark's day, or for its eve, finds covers it
  pub covering_at : (day : ℕ) (o : Option ℕ) → IfSome o (IsCoveredOn links cpf at day)
      → IfSome o (λ k. (k < length links) × ((d : Link) → covers (get_or links k d) cpf at ≡ true))
  covering_at day (Some k) is = (is.within, is.covers)
  covering_at day None is = tt

  pub covering_at_eve : (o : Option ℕ) → IfSome o (λ k. (eve : ℕ) × IsCoveredOn links cpf at eve k)
      → IfSome o (λ k. (k < length links) × ((d : Link) → covers (get_or links k d) cpf at ≡ true))
  covering_at_eve (Some k) is = (is.1.within, is.1.covers)
  covering_at_eve None is = tt

  -- of two places, of which each link that covers the mark has one, the lower is the first
  pub first_of_two : (a b : Option ℕ) → IfSome a (λ k. (k < length links) × ((d : Link) → covers (get_or links k d) cpf at ≡ true))
      → IfSome b (λ k. (k < length links) × ((d : Link) → covers (get_or links k d) cpf at ≡ true))
      → ((k : ℕ) (d : Link) → k < length links → covers (get_or links k d) cpf at ≡ true → (a ≡ Some k) ⊎ (b ≡ Some k))
      → lower_of a b ≡ cover_of links cpf at
  first_of_two None None is_a is_b one =
      sym (position_none (λ link. covers link cpf at) links
      (λ k d within. false_from_ne_true (covers (get_or links k d) cpf at) (λ covered. elim (one k d within covered) [
        | inl none ↦ absurd (none-some k none)
        | inr none ↦ absurd (none-some k none)
      ])))
  first_of_two (Some x) None is_a is_b one =
      let d = some_of links x is_a.0 in
      sym (position_at (λ link. covers link cpf at) links x d is_a.0 (is_a.1 d)
      (λ k less. false_from_ne_true (covers (get_or links k d) cpf at) (λ covered. elim (one k d (omega (arith, is_a.0)) covered) [
        | inl same ↦ absurd (omega (arith, same_Some x k same))
        | inr none ↦ absurd (none-some k none)
      ])))
  first_of_two None (Some y) is_a is_b one =
      let d = some_of links y is_b.0 in
      sym (position_at (λ link. covers link cpf at) links y d is_b.0 (is_b.1 d)
      (λ k less. false_from_ne_true (covers (get_or links k d) cpf at) (λ covered. elim (one k d (omega (arith, is_b.0)) covered) [
        | inl none ↦ absurd (none-some k none)
        | inr same ↦ absurd (omega (arith, same_Some y k same))
      ])))
  first_of_two (Some x) (Some y) is_a is_b one =
      let d = some_of links x is_a.0 in
      let there : (covers (get_or links (min x y) d) cpf at ≡ true) × (min x y < length links) = elim (cases_lt x y) [
        | inl less ↦
            let least : min x y ≡ x = omega arith in
            (subst (λ n. covers (get_or links n d) cpf at ≡ true) (sym least) (is_a.1 d), omega (arith, is_a.0))
        | inr more ↦
            let least : min x y ≡ y = omega arith in
            (subst (λ n. covers (get_or links n d) cpf at ≡ true) (sym least) (is_b.1 d), omega (arith, is_b.0))
      ] in
      sym (position_at (λ link. covers link cpf at) links (min x y) d there.1 there.0
      (λ k less. false_from_ne_true (covers (get_or links k d) cpf at) (λ covered. elim (one k d (omega (arith, there.1)) covered) [
        | inl same ↦ absurd (omega (arith, same_Some x k same))
        | inr same ↦ absurd (omega (arith, same_Some y k same))
      ])))

  -- each link that covers the mark does so on the mark's day or on its eve
  pub on_day_or_eve : (a b : Option ℕ) → All IsLink links
      → ((place : ℕ) → IsCoveredOn links cpf at (day_of at) place → a ≡ Some place)
      → ((eve place : ℕ) → eve + 1 ≡ day_of at → IsCoveredOn links cpf at eve place → b ≡ Some place)
      → (k : ℕ) (d : Link) → k < length links → covers (get_or links k d) cpf at ≡ true → (a ≡ Some k) ⊎ (b ≡ Some k)
  on_day_or_eve a b are only_a only_b k d within covered =
      let everywhere : (e : Link) → get_or links k d ≡ get_or links k e = λ e. get_or_default links k d e within in
      let is : (day : ℕ) → journey_day (get_or links k d) at ≡ day → IsCoveredOn links cpf at day k = λ day counts. record {
        within = within;
        covers = λ e. subst (λ (l : Link). covers l cpf at ≡ true) (everywhere e) covered;
        counts = λ e. subst (λ (l : Link). journey_day l at ≡ day) (everywhere e) counts;
      } in
      elim (two_days (get_or links k d) at (are k d within).turn) [
        | inl on_day ↦ inl (only_a k (is (day_of at) on_day))
        | inr on_eve ↦ inr (only_b (journey_day (get_or links k d) at) k on_eve (is (journey_day (get_or links k d) at) refl))
      ]

  -- the journey day is that under the covering link
  pub journey_under : (place : ℕ) (link : Link) → cover_of links cpf at ≡ Some place → link ≡ get_or links place link
      → journey_day link at ≡ journey_of links cpf at
  journey_under place link is here =
      let within = (position-Some (λ l. covers l cpf at) links place link is).0 in
      ap (λ (l : Link). journey_day l at) here
      ∙ sym (ap (λ (o : Option Link). day_under o at) (find_from_position (λ l. covers l cpf at) links place link is within))

  pub journey_alone : cover_of links cpf at ≡ None → day_of at ≡ journey_of links cpf at
  journey_alone is = sym (ap (λ (o : Option Link). day_under o at) (find_from_none (λ l. covers l cpf at) links is))
