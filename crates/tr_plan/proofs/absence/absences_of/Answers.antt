use Rattle.std.proofs.Common.{List, ◌+◌, [], codes, inr, refl, sym, subst}
use Rattle.toml.specs.View.{table_view}
use Rattle.tr_plan.specs.Absence.{IsAbsenceOf, IsAbsenceOff, absence_number}
use Rattle.tr_plan.specs.declared.absence.Absence.{Absence}
use Rattle.tr_plan.proofs.LoopLemmas.{AreSaid, AreSaid-more, table_row_off}
use Rattle.tr_plan.proofs.TableLemmas.{IsAbsenceOf-after}
use Rattle.tr_plan.proofs.absence.absences_of.Goals as goal

pub returns-in-Err-clause-off : goal.returns-in-Err-clause-off
returns-in-Err-clause-off c =
    let links = c.args.links.now.links.items in
    inr (
      c.in-Ok.place,
      c.number.result,
      table_row_off (IsAbsenceOf links) absence_number (IsAbsenceOff links) (table_view c.args.table.now) (codes "absence") c.in-Some.rows.now c.loop-i.i
          c.loop-i.absences.items c.index-rows-i.result c.in-Ok.place c.number.result c.in-Err.key c.in-Some.ensures c.loop-i.invariant c.loop-i-test.true
          c.index-rows-i.is c.in-Ok.ensures.1 c.number.ensures c.in-Err.ensures.off,
      refl,
    )

pub loop-i-preserved : goal.loop-i-preserved
loop-i-preserved c =
    let links = c.args.links.now.links.items in
    let values = c.loop-i.absences.items in
    let row = c.in-Ok-absence_of.ensures.ok in
    subst (λ (vs : List Absence). AreSaid (IsAbsenceOf links) c.in-Some.rows.now (c.loop-i.i + 1) vs) (sym c.in-Ok-push.ensures.items)
    (AreSaid-more (IsAbsenceOf links) c.in-Some.rows.now c.loop-i.i values c.index-rows-i.result c.in-Ok-absence_of.absence c.loop-i.invariant
    c.loop-i-test.true c.index-rows-i.is
    (row.0, row.1, IsAbsenceOf-after links [] values row.0 c.in-Ok-absence_of.absence row.2))
