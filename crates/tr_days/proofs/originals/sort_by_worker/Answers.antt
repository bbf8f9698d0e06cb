use Rattle.std.proofs.Common.{rules}
use Rattle.std.proofs.lemmas.List.Sorted.{IsNonDecreasingBy-from_sort_by_key, answers_always}
use Rattle.tr_days.proofs.WorkerLemmas.{as_they_stood_from}
use Rattle.tr_days.proofs.originals.sort_by_worker.Goals as goal

pub returns : goal.returns
returns c = record {
  by_worker = IsNonDecreasingBy-from_sort_by_key (λ clocking. clocking.cpf) _ c.in_ok-sort_by_key.ensures.sorted (λ a r q k. search rules);
  same = c.sort_by_key.ensures.permutation;
  as_they_stood = as_they_stood_from _ _ (c.sort_by_key.ensures.stable (λ clocking. clocking.cpf) (answers_always _ _ _ (λ f a r g h. search rules)));
}
