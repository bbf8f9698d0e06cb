use Rattle.std.proofs.Common.{◌≡◌, ◌++◌, Some, sym, ap, ◌∙◌, subst}
use Rattle.std.specs.Prelude.{filter, filter_map, slice_get, IsPermutation}
use Rattle.std.specs.List.Sorted.{IsStable}
use Rattle.std.proofs.lemmas.Option.{slice_get-get_or}
use Rattle.tr_days.specs.Marks.{original_mark, is_in_period, mark_cmp}
use Rattle.tr_days.proofs.MarkLemmas.{gathered_is, by_day_from}
use Rattle.tr_days.proofs.listing.marks.Goals as goal

pub returns-clause-listed : goal.returns-clause-listed
returns-clause-listed c =
    let plan = c.args.plan.now in
    let place = c.args.link in
    let row = c.get.result.now in
    let there : slice_get plan.links place ≡ Some row = slice_get-get_or plan.links place row c.requires.within ∙ ap Some (sym c.get.ensures.row) in
    let clockings = c.of_worker-clockings.ensures.0 in
    let part = c.of_worker-clockings.result.now in
    let first_is =
    c.in_ok-push_originals.ensures row there
    ∙ ap (λ ys. ys ++ filter (is_in_period c.args.from c.args.to) (filter_map (original_mark plan place row) part)) c.new-marks.ensures.items in
    let all =
    gathered_is plan place row c.args.from c.args.to clockings part c.push_originals.new.marks.items c.push_included.new.marks.items there
    c.of_worker-clockings.ensures.2 first_is (c.in_ok-push_included.ensures row there) in
    record {
      link = row;
      there = there;
      clockings = clockings;
      originals = c.of_worker-clockings.ensures.1;
      same = subst (λ ys. IsPermutation ys c.put_in_order.new.marks.items) all c.put_in_order.ensures.same;
      in_order = c.in_ok-put_in_order.ensures.in_order;
      ties = subst (λ ys. IsStable mark_cmp ys c.put_in_order.new.marks.items) all c.put_in_order.ensures.ties;
    }

pub returns-clause-by_day : goal.returns-clause-by_day
returns-clause-by_day c = by_day_from c.put_in_order.new.marks.items c.in_ok-put_in_order.ensures.in_order
