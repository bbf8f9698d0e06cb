use Rattle.std.proofs.Common.{◌≡◌, ◌<◌, ◌++◌, length, sym, ap, ◌∙◌, arith}
use Rattle.std.specs.Prelude.{filter, filter_map}
use Rattle.std.specs.List.{enumerate_from}
use Rattle.std.proofs.lemmas.List.{append-nil, take_all}
use Rattle.std.proofs.lemmas.List.FromFn.{length-enumerate_from}
use Rattle.std.proofs.lemmas.Option.{get_or_from_slice_get}
use Rattle.tr_plan.specs.declared.link.Link.{Link}
use Rattle.tr_days.specs.Marks.{included_mark, is_in_period}
use Rattle.tr_days.proofs.ListLemmas.{kept_step, numbered_at}
use Rattle.tr_days.proofs.listing.push_included.Goals as goal

pub loop-place-init : goal.loop-place-init
loop-place-init c = sym (append-nil c.args.marks.now.items)

pub loop-place-preserved : goal.loop-place-preserved
loop-place-preserved c =
    let includes = c.args.plan.now.includes in
    let place = c.loop-place.place in
    let h = included_mark c.get-row.result.now in
    let within : place < length includes = omega (arith, c.loop-place-test.true, c.len-place-end.ensures.count) in
    kept_step h (is_in_period c.args.from c.args.to) c.args.marks.now.items c.loop-place.marks.items c.push_within.new.marks.items
    (enumerate_from 0 includes) place (0, c.get.result.now) c.included_mark-mark.result (omega (arith, within, length-enumerate_from 0 includes))
    c.loop-place.invariant (c.included_mark-mark.ensures ∙ ap h (numbered_at includes place c.get.result.now within c.get.ensures.row))
    c.in_ok-push_within.ensures

pub returns : goal.returns
returns c = λ row there.
    let includes = c.args.plan.now.includes in
    let same : c.get-row.result.now ≡ row =
    c.get-row.ensures.row ∙ get_or_from_slice_get c.args.plan.now.links c.args.link row c.get-row.result.now there in
    c.loop-place.invariant
    ∙ ap (λ ys. c.args.marks.now.items ++ filter (is_in_period c.args.from c.args.to) (filter_map (included_mark c.get-row.result.now) ys))
    (take_all c.loop-place.place (enumerate_from 0 includes)
    (omega (arith, c.loop-place-test.false, c.len-place-end.ensures.count, length-enumerate_from 0 includes)))
    ∙ ap (λ (l : Link). c.args.marks.now.items ++ filter (is_in_period c.args.from c.args.to) (filter_map (included_mark l) (enumerate_from 0 includes))) same
