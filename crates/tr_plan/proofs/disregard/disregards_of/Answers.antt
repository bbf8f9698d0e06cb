use Rattle.std.proofs.Common.{◌≡◌, List, length, ◌+◌, ◌-◌, codes, inr, refl, sym, subst, arith}
use Rattle.std.specs.Ordering.{nat_cmp}
use Rattle.std.proofs.lemmas.Cmp.{nat_cmp_total}
use Rattle.std.proofs.lemmas.Map.Lookups.{exact_unsigned}
use Rattle.toml.specs.View.{table_view}
use Rattle.tr_plan.specs.Disregard.{IsDisregardOf, IsDisregardOff, disregard_number}
use Rattle.tr_plan.specs.Index.{HasNsrs}
use Rattle.tr_plan.specs.declared.disregard.Disregard.{Disregard}
use Rattle.tr_plan.proofs.IndexLemmas.{HasPlacesBy-more}
use Rattle.tr_plan.proofs.LoopLemmas.{AreSaid, AreSaid-more, AreSaid-length, table_row_off}
use Rattle.tr_plan.proofs.disregard.disregards_of.Goals as goal

pub returns-in-Err-clause-off : goal.returns-in-Err-clause-off
returns-in-Err-clause-off c =
    let values = c.loop-i.disregards.items in
    inr (
      c.in-Ok.place,
      c.number.result,
      table_row_off IsDisregardOf disregard_number IsDisregardOff (table_view c.args.table.now) (codes "disregard") c.in-Some.rows.now c.loop-i.i values
          c.index-rows-i.result c.in-Ok.place c.number.result c.in-Err.key c.in-Some.ensures c.loop-i.invariant.said c.loop-i-test.true c.index-rows-i.is
          c.in-Ok.ensures.1 c.number.ensures (c.in-Err.ensures.off values c.loop-i.invariant.places),
      refl,
    )

pub loop-i-preserved : goal.loop-i-preserved
loop-i-preserved c =
    let values = c.loop-i.disregards.items in
    let disregard = c.in-Ok-disregard_of.disregard in
    let more = sym c.in-Ok-push.ensures.items in
    let long = AreSaid-length IsDisregardOf c.in-Some.rows.now c.loop-i.i values (omega arith) c.loop-i.invariant.said in
    let last : c.in-Ok.place - 1 ≡ length values = omega (arith, c.in-Ok.ensures.1) in
    record {
      said = subst (λ (vs : List Disregard). AreSaid IsDisregardOf c.in-Some.rows.now (c.loop-i.i + 1) vs) more
          (AreSaid-more IsDisregardOf c.in-Some.rows.now c.loop-i.i values c.index-rows-i.result disregard c.loop-i.invariant.said c.loop-i-test.true c.index-rows-i.is
          (c.in-Ok-disregard_of.ensures.ok values c.loop-i.invariant.places));
      places = subst (λ (vs : List Disregard). HasNsrs c.insert.new.self vs) more
          (HasPlacesBy-more nat_cmp nat_cmp_total exact_unsigned (λ (d : Disregard). d.nsr) c.loop-i.places c.insert.new.self values disregard (c.in-Ok.place - 1) c.loop-i.invariant.places last c.in-Ok-insert.ensures.updates);
    }
