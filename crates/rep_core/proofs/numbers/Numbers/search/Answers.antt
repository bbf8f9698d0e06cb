use Rattle.std.proofs.Common.{IfOk, IfErr, ap, subst, rules}
use Rattle.std.proofs.lemmas.List.Sorted.{answers_always}
use Rattle.rep_core.specs.Numbers.{Keyed, IsAt, IsGapFor}
use Rattle.rep_core.proofs.Places.{searched}
use Rattle.rep_core.proofs.numbers.Numbers.search.Goals as goal

-- the closure gives a pair's key, and the slice is the pairs
pub returns-clause-found : goal.returns-clause-found
returns-clause-found c =
    let facts = c.binary_search_by_key.ensures in
    let by_key = facts.position (λ pair. pair.0) (answers_always _ _ _ (λ f a r g called. search rules)) in
    let found = (searched _ (rw c.deref.ensures.value c.self.invariant) c.args.key _ facts.bound by_key).found in
    let own = ap (λ (k : Keyed). k.pairs) c.self.view_is in
    subst (λ xs. IfOk c.binary_search_by_key.result (IsAt xs c.args.key)) own
    (subst (λ xs. IfOk c.binary_search_by_key.result (IsAt xs c.args.key)) c.deref.ensures.value found)

pub returns-clause-absent : goal.returns-clause-absent
returns-clause-absent c =
    let facts = c.binary_search_by_key.ensures in
    let by_key = facts.position (λ pair. pair.0) (answers_always _ _ _ (λ f a r g called. search rules)) in
    let absent = (searched _ (rw c.deref.ensures.value c.self.invariant) c.args.key _ facts.bound by_key).absent in
    let own = ap (λ (k : Keyed). k.pairs) c.self.view_is in
    subst (λ xs. IfErr c.binary_search_by_key.result (IsGapFor xs c.args.key)) own
    (subst (λ xs. IfErr c.binary_search_by_key.result (IsGapFor xs c.args.key)) c.deref.ensures.value absent)
