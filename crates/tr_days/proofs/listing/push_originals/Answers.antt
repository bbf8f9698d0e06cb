use Rattle.std.proofs.Common.{◌++◌, sym, ap, ◌∙◌}
use Rattle.std.specs.Prelude.{filter, filter_map}
use Rattle.std.proofs.lemmas.List.{append-nil, take_all}
use Rattle.tr_days.specs.Marks.{original_mark, is_in_period}
use Rattle.tr_days.proofs.ListLemmas.{kept_step}
use Rattle.tr_days.proofs.listing.push_originals.Goals as goal

pub loop-clocking-init : goal.loop-clocking-init
loop-clocking-init c = λ row there. sym (append-nil c.args.marks.now.items)

pub loop-clocking-preserved : goal.loop-clocking-preserved
loop-clocking-preserved c = λ row there.
    let h = original_mark c.args.plan.now c.args.link row in
    kept_step h (is_in_period c.args.from c.args.to) c.args.marks.now.items c.loop-clocking.marks.items c.push_within.new.marks.items
    c.args.clockings.now c.loop-clocking.clocking-index c.clocking-item.result c.original_mark.result c.loop-clocking-test.true
    (c.loop-clocking.invariant row there) (c.original_mark.ensures row there ∙ ap h c.clocking-item.is) c.in_ok-push_within.ensures

pub returns : goal.returns
returns c = λ row there.
    c.loop-clocking.invariant row there
    ∙ ap (λ ys. c.args.marks.now.items ++ filter (is_in_period c.args.from c.args.to) (filter_map (original_mark c.args.plan.now c.args.link row) ys))
    (take_all c.loop-clocking.clocking-index c.args.clockings.now c.loop-clocking-test.false)
