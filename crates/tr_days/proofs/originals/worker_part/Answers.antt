use Rattle.std.proofs.Common.{rules, ◌≡◌, ◌-◌, leb, ltb, true, false, length, take, drop, ap, ◌∙◌, subst, arith}
use Rattle.std.specs.List.Sorted.{IsPartitionPoint}
use Rattle.std.proofs.lemmas.List.{take_all, length-drop}
use Rattle.std.proofs.lemmas.List.Sorted.{IsPartitionedBy-ltb, IsPartitionedBy-leb, IsPartitionPoint-from_clause, IsNonDecreasingBy-drop, IsNonDecreasingBy-take}
use Rattle.tr_days.specs.declared.clocking.Clocking.{Clocking}
use Rattle.tr_days.proofs.WorkerLemmas.{worker_part_is}
use Rattle.tr_days.proofs.originals.worker_part.Goals as goal

pub returns : goal.returns
returns c =
    let clockings = c.args.clockings.now in
    let cpf = c.args.cpf in
    let start = c.partition_point-start.result in
    let end = c.partition_point-end.result in
    let rest = take (length clockings - start) (drop start clockings) in
    let whole : rest ≡ drop start clockings = take_all (length clockings - start) (drop start clockings) (omega (arith, length-drop start clockings)) in
    let first : IsPartitionPoint (λ (y : Clocking). ltb y.cpf cpf ≡ true) (λ y. ltb y.cpf cpf ≡ false) clockings start =
    IsPartitionPoint-from_clause (λ y. ltb y.cpf cpf) clockings start c.partition_point-start.ensures.partitioned
    (IsPartitionedBy-ltb (λ y. y.cpf) clockings cpf c.requires) (λ a r f k. search (rules, c.cpf.view_is)) in
    let second : IsPartitionPoint (λ (y : Clocking). leb y.cpf cpf ≡ true) (λ y. leb y.cpf cpf ≡ false) rest end =
    IsPartitionPoint-from_clause (λ y. leb y.cpf cpf) rest end c.partition_point-end.ensures.partitioned
    (IsPartitionedBy-leb (λ y. y.cpf) rest cpf
    (IsNonDecreasingBy-take (λ y. y.cpf) (length clockings - start) (drop start clockings)
    (IsNonDecreasingBy-drop (λ y. y.cpf) start clockings c.requires))) (λ a r f k. search (rules, c.cpf.view_is)) in
    let in_rest = subst (λ ys. IsPartitionPoint (λ (y : Clocking). leb y.cpf cpf ≡ true) (λ y. leb y.cpf cpf ≡ false) ys end) whole second in
    ap (take end) whole
    ∙ worker_part_is clockings cpf start end c.partition_point-start.ensures.bound
    (omega (arith, c.partition_point-end.ensures.bound, ap length whole)) first.0 first.1 in_rest.0 in_rest.1
