use Rattle.std.proofs.Common.{◌≡◌, ◌+◌, ◌*◌, ◌≤◌, drop}
use Rattle.rep_fields.specs.Digits.{digits_in}
use Rattle.rep_fields.specs.Identity.{weighted_sum}
use Rattle.rep_fields.proofs.check.check_digit.Given as goal

-- the sum so far and that of the rest are the whole
abbrev pub invariant-loop-place : goal.invariant-loop-place
invariant-loop-place l =
    (l.sum ≤ 2295 * l.place)
    × (l.sum + weighted_sum (drop l.place l.weights) (drop l.place (digits_in l.digits))
    ≡ weighted_sum l.weights (digits_in l.digits))
