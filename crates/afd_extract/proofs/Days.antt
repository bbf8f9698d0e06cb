-- Days by their numbers.
use Rattle.std.proofs.Common.{◌≡◌, ℕ, suc, ◌+◌, ◌-◌, ◌<◌, ◌≤◌, inl, inr, List, length, slice_index, get_or, take, drop, sym, ap, ◌∙◌, subst, arith}
use Rattle.std.proofs.lemmas.List.{length-take-le}
use Rattle.std.proofs.lemmas.Bool.{cases_lt}
use Rattle.rep_core.proofs.Splits.{split_at, split_in, split_of}
use Rattle.afd_extract.specs.Period.{IsDayOf, IsInPeriod, IsRangeOf}
use Rattle.afd_extract.specs.Steps.{IsBetween}

-- a number names a place
place_of : (days : List ℕ) (nsr day : ℕ) → IsDayOf days nsr day → (0 < nsr) × (nsr ≤ length days) × (slice_index days (nsr - 1) ≡ day)
place_of days nsr day numbered =
    let inside = split_in days numbered.before numbered.behind day numbered.split in
    let place : nsr - 1 ≡ length numbered.before = omega (arith, numbered.number) in (
      omega (arith, numbered.number),
      omega (arith, numbered.number),
      ap (λ i. get_or days i 0) place ∙ split_at days numbered.before numbered.behind day 0 numbered.split,
    )

-- the day at each place has the next number
day_at : (days : List ℕ) (place : ℕ) → place < length days → IsDayOf days (suc place) (slice_index days place)
day_at days place inside = record {
  before = take place days;
  behind = drop (suc place) days;
  split = split_of days place 0 inside;
  number = ap suc (sym (length-take-le place days (omega arith)));
}

-- what lies in the period has its number there
in_period : (days : List ℕ) (from to place nsr : ℕ) → place < length days → nsr ≡ suc place → IsBetween from to (slice_index days place)
    → IsInPeriod days from to nsr
in_period days from to place nsr inside is between =
    subst (λ n. IsInPeriod days from to n) (sym is)
    (record { day = slice_index days place; numbered = day_at days place inside; begun = between.begun; not_over = between.not_over })

-- and what has a number there lies in it
between_at : (days : List ℕ) (from to nsr : ℕ) → IsInPeriod days from to nsr
    → (0 < nsr) × (nsr ≤ length days) × IsBetween from to (slice_index days (nsr - 1))
between_at days from to nsr within =
    let at = place_of days nsr within.day within.numbered in (
      at.0,
      at.1,
      subst (λ day. IsBetween from to day) (sym at.2) (record { begun = within.begun; not_over = within.not_over }),
    )

-- no day lies in the period
none_in_period : (days : List ℕ) (from to first : ℕ) → first ≡ length days
    → ((k : ℕ) → k < first → ¬ IsBetween from to (slice_index days k)) → (nsr : ℕ) → IsInPeriod days from to nsr → ⊥
none_in_period days from to first all before nsr within =
    let at = between_at days from to nsr within in before (nsr - 1) (omega (arith, at.0, at.1)) at.2

-- some day lies in the period: the first at this place, and the last just in front of that end
range_in_period : (days : List ℕ) (from to first end : ℕ) → first < length days
    → ((k : ℕ) → k < first → ¬ IsBetween from to (slice_index days k)) → IsBetween from to (slice_index days first) → end ≤ length days
    → ((k : ℕ) → end ≤ k → k < length days → ¬ IsBetween from to (slice_index days k)) → (0 < end → IsBetween from to (slice_index days (end - 1)))
    → IsRangeOf days from to (first + 1) end
range_in_period days from to first end some before here within behind last =
    elim (cases_lt first end) [
      | inl less ↦ record {
        first_in = in_period days from to first (first + 1) some (omega arith) here;
        last_in = in_period days from to (end - 1) end (omega arith) (omega arith) (last (omega arith));
        least = λ nsr in_there. (
            let at = between_at days from to nsr in_there in
            elim (cases_lt (nsr - 1) first) [
              | inl early ↦ absurd (before (nsr - 1) early at.2)
              | inr late ↦ omega (arith, at.0)
            ]
            );
        greatest = λ nsr in_there. (
            let at = between_at days from to nsr in_there in
            elim (cases_lt (nsr - 1) end) [
              | inl early ↦ omega (arith, at.0)
              | inr late ↦ absurd (behind (nsr - 1) late (omega (arith, at.0, at.1)) at.2)
            ]
            );
      }
      | inr none ↦ absurd (behind first none some here)
    ]

-- the same, by numbers that are those of the days asked for
pub none_of : (days : List ℕ) (from to start stop first : ℕ) → from ≡ start → to ≡ stop → first ≡ length days
    → ((k : ℕ) → k < first → ¬ IsBetween start stop (slice_index days k)) → (nsr : ℕ) → IsInPeriod days from to nsr → ⊥
none_of days from to start stop first from_is to_is all before =
    subst (λ f. (nsr : ℕ) → IsInPeriod days f to nsr → ⊥) (sym from_is)
    (subst (λ t. (nsr : ℕ) → IsInPeriod days start t nsr → ⊥) (sym to_is) (none_in_period days start stop first all before))

pub range_of : (days : List ℕ) (from to start stop first end : ℕ) → from ≡ start → to ≡ stop → first < length days
    → ((k : ℕ) → k < first → ¬ IsBetween start stop (slice_index days k)) → IsBetween start stop (slice_index days first) → end ≤ length days
    → ((k : ℕ) → end ≤ k → k < length days → ¬ IsBetween start stop (slice_index days k)) → (0 < end → IsBetween start stop (slice_index days (end - 1)))
    → IsRangeOf days from to (first + 1) end
range_of days from to start stop first end from_is to_is some before here within behind last =
    subst (λ f. IsRangeOf days f to (first + 1) end) (sym from_is)
    (subst (λ t. IsRangeOf days start t (first + 1) end) (sym to_is)
    (range_in_period days start stop first end some before here within behind last))
