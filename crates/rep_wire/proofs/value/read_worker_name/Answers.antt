use Rattle.std.proofs.Common.{◌≡◌, [], refl, ◌∙◌, subst, inl, inr}
use Rattle.afd_records.specs.declared.record.Op.{Op}
use Rattle.rep_wire.specs.Request.{IsWorkerName}
use Rattle.rep_wire.proofs.GrammarLemmas.{text-unique}
use Rattle.rep_wire.proofs.value.read_worker_name.Goals as goal

pub returns-then-is_empty : goal.returns-then-is_empty
returns-then-is_empty c = λ name in_range fills.
    let read = c.in_ok-name.ensures in
    let empty : name ≡ [] =
    text-unique 52 name c.in_ok-name.name c.args.text.now in_range.0 read.0 fills read.1 ∙ c.if-is_empty.ensures.0 refl in
    elim c.in-Include.is [
      | inl included ↦ (subst (λ (op : Op). IsWorkerName op name) included in_range.1) empty
      | inr amended ↦ (subst (λ (op : Op). IsWorkerName op name) amended in_range.1) empty
    ]
