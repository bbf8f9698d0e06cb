use Rattle.std.proofs.Common.{◌≡◌, ◌≢◌, List, length, ◌+◌, ◌-◌, codes, inr, refl, sym, subst, arith}
use Rattle.std.specs.Ordering.{nat_cmp}
use Rattle.std.proofs.lemmas.Cmp.{nat_cmp_total}
use Rattle.std.proofs.lemmas.Map.Lookups.{exact_unsigned}
use Rattle.std.proofs.lemmas.List.Quantifiers.{all_pairs_push}
use Rattle.toml.specs.View.{table_view}
use Rattle.tr_plan.specs.Index.{HasPlaces}
use Rattle.tr_plan.specs.Link.{IsLinkOf, IsLinkOff, link_number}
use Rattle.tr_plan.specs.Plan.{HaveDifferentIds}
use Rattle.tr_plan.specs.declared.link.Link.{Link}
use Rattle.tr_plan.proofs.IndexLemmas.{HasPlacesBy-more}
use Rattle.tr_plan.proofs.LoopLemmas.{AreSaid, AreSaid-more, AreSaid-length, table_row_off}
use Rattle.tr_plan.proofs.link.links_of.Goals as goal

pub returns-in-Err-clause-off : goal.returns-in-Err-clause-off
returns-in-Err-clause-off c =
    let values = c.loop-i.links.items in
    inr (
      c.in-Ok.place,
      c.number.result,
      table_row_off IsLinkOf link_number IsLinkOff (table_view c.args.table.now) (codes "link") c.in-Some.rows.now c.loop-i.i values
          c.index-rows-i.result c.in-Ok.place c.number.result c.in-Err.key c.in-Some.ensures c.loop-i.invariant.said c.loop-i-test.true c.index-rows-i.is
          c.in-Ok.ensures.1 c.number.ensures (c.in-Err.ensures.off values c.loop-i.invariant.places),
      refl,
    )

pub loop-i-preserved : goal.loop-i-preserved
loop-i-preserved c =
    let values = c.loop-i.links.items in
    let link = c.in-Ok-link_of.link in
    let more = sym c.in-Ok-push.ensures.items in
    let row = c.in-Ok-link_of.ensures.ok values c.loop-i.invariant.places in
    let long = AreSaid-length IsLinkOf c.in-Some.rows.now c.loop-i.i values (omega arith) c.loop-i.invariant.said in
    let last : c.in-Ok.place - 1 ≡ length values = omega (arith, c.in-Ok.ensures.1) in
    record {
      said = subst (λ (vs : List Link). AreSaid IsLinkOf c.in-Some.rows.now (c.loop-i.i + 1) vs) more
          (AreSaid-more IsLinkOf c.in-Some.rows.now c.loop-i.i values c.index-rows-i.result link c.loop-i.invariant.said c.loop-i-test.true c.index-rows-i.is row);
      places = subst (λ (vs : List Link). HasPlaces c.insert.new.self vs) more
          (HasPlacesBy-more nat_cmp nat_cmp_total exact_unsigned (λ (l : Link). l.id) c.loop-i.places c.insert.new.self values link (c.in-Ok.place - 1) c.loop-i.invariant.places last c.in-Ok-insert.ensures.updates);
      differ = subst HaveDifferentIds more (all_pairs_push (λ earlier link. earlier.id ≢ link.id) values link c.loop-i.invariant.differ row.2.id.1);
      few = c.in-Ok.ensures.0;
    }
