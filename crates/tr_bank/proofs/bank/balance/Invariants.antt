use Rattle.std.proofs.Common.{◌≡◌, ◌≤◌, ℕ, take}
use Rattle.tr_bank.specs.Balance.{IsBalance, balance_of}
use Rattle.tr_bank.proofs.bank.balance.Given as goal

abbrev pub invariant-loop-place : goal.invariant-loop-place
invariant-loop-place l = record {
  value : l.minutes ≡ balance_of l.plan.absences l.opening (take l.place-index l.places);
  in_range : (count : ℕ) → count ≤ l.place-index → IsBalance (balance_of l.plan.absences l.opening (take count l.places));
}
