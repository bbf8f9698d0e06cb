use Rattle.std.proofs.Common.{ap, subst}
use Rattle.rep_core.specs.Numbers.{Keyed, IsStrictlySorted}
use Rattle.rep_core.proofs.Places.{sets_only_set, sets_only_insert}
use Rattle.rep_core.proofs.numbers.Numbers.set.Goals as goal

pub returns-in-Ok-clause-number : goal.returns-in-Ok-clause-number
returns-in-Ok-clause-number c =
    let own = ap (λ (k : Keyed). k.pairs) c.self.view_is in
    rw own (sets_only_set _ (subst IsStrictlySorted own c.self.invariant) _ _ c.in-Ok.ensures.found _)

pub returns-in-Ok-insert-clause-number : goal.returns-in-Ok-insert-clause-number
returns-in-Ok-insert-clause-number c =
    let own = ap (λ (k : Keyed). k.pairs) c.self.view_is in
    rw (c.insert.ensures.items, c.in-Ok-insert.is, own) (sets_only_insert _ _ _ c.in-Err.ensures.absent c.args.number)
