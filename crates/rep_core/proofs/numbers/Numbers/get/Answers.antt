use Rattle.std.proofs.Common.{ap, sym, subst, arith}
use Rattle.std.proofs.lemmas.List.{get_or_default}
use Rattle.rep_core.specs.Numbers.{Keyed, IsStrictlySorted}
use Rattle.rep_core.proofs.Places.{number_at, number_in_gap}
use Rattle.rep_core.proofs.numbers.Numbers.get.Goals as goal

-- the key is at its place, and the pair there is the one that was read
pub returns-in-Ok : goal.returns-in-Ok
returns-in-Ok c =
    let own = ap (λ (k : Keyed). k.pairs) c.self.view_is in
    let value = number_at _ (subst IsStrictlySorted own c.self.invariant) _ _ c.in-Ok.ensures.found in
    let read = get_or_default _ _ c.index.result.now (0, 0) c.in-Ok.ensures.found.in_range in
    grind (arith, own)

-- the key is not there
pub returns-in-Err : goal.returns-in-Err
returns-in-Err c = sym (number_in_gap _ _ _ c.in-Err.ensures.absent)
