use Rattle.std.proofs.Common.{◌≡◌, ◌++◌, length, drop}
use Rattle.rep_fields.specs.Digits.{numeral}
use Rattle.rep_fields.proofs.digits.put_n.Given as goal

-- the digits that are still to come, and those that stand
abbrev pub invariant-loop-place : goal.invariant-loop-place
invariant-loop-place l = numeral (length l.fn.out) l.value ≡ numeral l.place l.rest ++ drop l.place l.out
