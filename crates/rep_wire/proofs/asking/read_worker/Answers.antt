use Rattle.std.proofs.Common.{◌≡◌, ◌∙◌, sym, subst, refl}
use Rattle.std.specs.Option.{option_copied}
use Rattle.afd_records.specs.declared.record.Op.{Op}
use Rattle.rep_wire.specs.LaneGrammar.{IsField, IsNameOfWorker, op_field, cpf_field}
use Rattle.rep_wire.proofs.GrammarLemmas.{off_here, off_behind, op_text-injective}
use Rattle.rep_wire.proofs.AskLemmas.{worker_fault, worker_asked}
use Rattle.rep_wire.proofs.asking.read_worker.Goals as goal

pub returns-in_default-read_worker_name-clause-fault : goal.returns-in_default-read_worker_name-clause-fault
returns-in_default-read_worker_name-clause-fault c =
    let done : IsField op_field c.in-Some.field-0.op.now = (c.in-Some-read_op.op, c.in-Some-read_op.ensures.1) in
    let whom : IsField cpf_field c.in-Some.field-0.cpf.now = (c.in-Some-read.cpf, c.in-Some-read.ensures.0, c.in-Some-read.ensures.1) in
    worker_fault _ c.in-Some.field-0.op.now c.in-Some.field-0.cpf.now c.in-Some.field-0.name.now c.in-Some.field-0.extra.now c.in-Some.field-0.resp.now 5 c.in-Some.ensures
    (off_behind done (off_behind whom (off_here (λ name.
    let same : name.0 ≡ c.in-Some-read_op.op =
    op_text-injective name.0 c.in-Some-read_op.op (sym name.2 ∙ c.in-Some-read_op.ensures.1) in
    c.in_default-read_worker_name.ensures name.1 (subst (λ (op : Op). IsNameOfWorker op name.1) same name.3) name.4) refl)))

pub returns-clause-asked : goal.returns-clause-asked
returns-clause-asked c =
    worker_asked (option_copied c.args.fields) c.in-Some.field-0.op.now c.in-Some.field-0.cpf.now c.in-Some.field-0.name.now c.in-Some.field-0.extra.now c.in-Some.field-0.resp.now
    c.in-Some-read_op.op c.in-Some-read.cpf c.in-Some-read_worker_name.name c.in-Some-read-2.extra c.in-Some-read-3.resp c.in-Some.ensures (record {
      done = c.in-Some-read_op.ensures.1;
      whom = c.in-Some-read.ensures;
      named = c.in-Some-read_worker_name.ensures;
      further = c.in-Some-read-2.ensures;
      by = c.in-Some-read-3.ensures;
    })
