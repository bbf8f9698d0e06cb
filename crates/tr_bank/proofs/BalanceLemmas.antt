-- The balance behind one more absence.
use Rattle.std.proofs.Common.{◌≡◌, ◌+◌, ◌<◌, ◌≤◌, ℕ, ℤ, pos, ◌+ℤ◌, ◌-ℤ◌, List, length, take, get_or, Some, sym, ap, ◌∙◌, arith, below_more}
use Rattle.std.proofs.lemmas.Int.{ints}
use Rattle.std.proofs.lemmas.List.Sums.{sum_by_more}
use Rattle.std.specs.Prelude.{slice_get}
use Rattle.tr_bank.specs.Balance.{IsBalance, balance_of, inclusion, compensation, minutes_at, minutes_of, minutes_moved}
use Rattle.tr_plan.specs.declared.absence.Absence.{Absence}

-- the minutes at a place, in one direction, with those of one more absence
moved_more : (direction : ℕ) (absences : List Absence) (places : List ℕ) (i : ℕ) (absence : Absence)
    → i < length places → slice_get absences (get_or places i 0) ≡ Some absence
    → minutes_at direction absences (get_or places i 0) ≡ minutes_moved direction absence
moved_more direction absences places i absence within there = ap (minutes_of direction) there

pub balance_of-more : (absences : List Absence) (opening : ℤ) (places : List ℕ) (i : ℕ) (absence : Absence)
    → i < length places → slice_get absences (get_or places i 0) ≡ Some absence
    → balance_of absences opening (take (i + 1) places)
    ≡ (balance_of absences opening (take i places) +ℤ pos (minutes_moved inclusion absence)) -ℤ pos (minutes_moved compensation absence)
balance_of-more absences opening places i absence within there =
    omega (
      arith,
      ints,
      sum_by_more (minutes_at inclusion absences) places i 0 within,
      sum_by_more (minutes_at compensation absences) places i 0 within,
      moved_more inclusion absences places i absence within there,
      moved_more compensation absences places i absence within there,
    )

-- the same, where the balance before it is known
pub balance_of-step : (absences : List Absence) (opening before : ℤ) (places : List ℕ) (i : ℕ) (absence : Absence)
    → i < length places → slice_get absences (get_or places i 0) ≡ Some absence
    → before ≡ balance_of absences opening (take i places)
    → (before +ℤ pos (minutes_moved inclusion absence)) -ℤ pos (minutes_moved compensation absence)
    ≡ balance_of absences opening (take (i + 1) places)
balance_of-step absences opening before places i absence within there known =
    ap (λ minutes. (minutes +ℤ pos (minutes_moved inclusion absence)) -ℤ pos (minutes_moved compensation absence)) known
    ∙ sym (balance_of-more absences opening places i absence within there)

pub in_range_more : (absences : List Absence) (opening : ℤ) (places : List ℕ) (i : ℕ)
    → ((count : ℕ) → count ≤ i → IsBalance (balance_of absences opening (take count places)))
    → IsBalance (balance_of absences opening (take (i + 1) places))
    → (count : ℕ) → count ≤ i + 1 → IsBalance (balance_of absences opening (take count places))
in_range_more absences opening places i before here count within =
    below_more (λ k. IsBalance (balance_of absences opening (take k places))) (i + 1)
    (λ k below. before k (omega arith)) here count (omega arith)
