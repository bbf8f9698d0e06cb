use Rattle.std.proofs.Common.{Result, Ok, Err, IfErr, inl}
use Rattle.toml.specs.View.{view, table_view}
use Rattle.tr_plan.proofs.RowLemmas.{table_found}
use Rattle.tr_plan.proofs.link.link_of.Goals as goal

if_err : {T E : Type 0} (result : Result T E) (P Q : E → Type 0) → ((e : E) → P e → Q e) → IfErr result P → IfErr result Q
if_err (Ok t) P Q implies p = p
if_err (Err e) P Q implies p = implies e p

pub returns-in-Some-clause-off : goal.returns-in-Some-clause-off
returns-in-Some-clause-off c =
    let row = table_view c.in-Some.row.now in
    if_err c.link_in.result _ _
    (λ key off earlier has. inl (row, table_found (view c.args.value.now) row c.in-Some.ensures, off earlier has)) c.link_in.ensures.off
