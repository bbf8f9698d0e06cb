-- The records of a period, by their recording days: this project's own rule.
use Rattle.std.specs.Prelude.{◌≡◌, ℕ, suc, ◌-◌, ◌≤◌, List, [], ◌∷◌, ◌++◌, length, take, drop, Option, Some, None}

-- the day with this number, counted from 1
pub record IsDayOf (days : List ℕ) (nsr day : ℕ) : Type 0 where
  pub before : List ℕ
  pub behind : List ℕ
  pub split : days ≡ before ++ day ∷ behind
  pub number : nsr ≡ suc (length before)

-- the record with this number was taken in the period, its first and last day included
pub record IsInPeriod (days : List ℕ) (from to nsr : ℕ) : Type 0 where
  pub day : ℕ
  pub numbered : IsDayOf days nsr day
  pub begun : from ≤ day
  pub not_over : day ≤ to

-- the least and the greatest number of a record of the period
pub record IsRangeOf (days : List ℕ) (from to first last : ℕ) : Type 0 where
  pub first_in : IsInPeriod days from to first
  pub last_in : IsInPeriod days from to last
  pub least : (nsr : ℕ) → IsInPeriod days from to nsr → first ≤ nsr
  pub greatest : (nsr : ℕ) → IsInPeriod days from to nsr → nsr ≤ last

-- a range of numbers, or none
abbrev pub Range : Type 0
Range = Option (ℕ × ℕ)

-- The numbers of a period: all from the least to the greatest, also those between that were taken outside of it; none
-- where no record was taken in it.
abbrev pub IsPeriod : List ℕ → ℕ → ℕ → Range → Type 0
IsPeriod days from to None = (nsr : ℕ) → IsInPeriod days from to nsr → ⊥
IsPeriod days from to (Some range) = IsRangeOf days from to range.0 range.1

-- what has a number of the range, counted from 1: all up to its last, without those before its first
abbrev pub in_range : {X : Type 0} → Range → List X → List X
in_range None xs = []
in_range (Some range) xs = drop (range.0 - 1) (take range.1 xs)
