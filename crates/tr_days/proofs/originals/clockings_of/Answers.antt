use Rattle.std.proofs.Common.{sym, subst, arith}
use Rattle.std.specs.Prelude.{List}
use Rattle.tr_days.specs.Index.{AddsRead}
use Rattle.tr_days.specs.Originals.{IsTrailer}
use Rattle.tr_days.proofs.OriginalLemmas.{AreOriginalsBelow, below_none, below_more, up_to_trailer, up_to_end, trailer_from, no_trailer_from}
use Rattle.tr_days.proofs.originals.clockings_of.Goals as goal

pub loop-number-init : goal.loop-number-init
loop-number-init c = subst (AreOriginalsBelow c.args.afd.now 1) (sym c.new-clockings.ensures.items) (below_none c.args.afd.now)

pub returns-then-is_some : goal.returns-then-is_some
returns-then-is_some c =
    up_to_trailer c.args.afd.now c.loop-number.number c.loop-number.clockings.items c.loop-number.invariant c.loop-number.auto.number
    (subst IsTrailer c.line-line.ensures (trailer_from c.line-line.result.now c.read_trailer.result c.read_trailer.ensures.found (sym c.if-is_some.ensures)))

pub loop-number-preserved : goal.loop-number-preserved
loop-number-preserved c =
    let text = c.args.afd.now in
    let number = c.loop-number.number in
    let old = c.loop-number.clockings.items in
    let new = c.push_read.new.clockings.items in
    below_more text number old new c.loop-number.invariant
    (record { from_one = c.loop-number.auto.number; within = omega (arith, c.loop-number-test.true, c.count-number-end.ensures.lines) })
    (λ trailer. no_trailer_from c.line-line.result.now c.read_trailer.result c.read_trailer.ensures.only (sym c.if-is_some.ensures)
    (subst IsTrailer (sym c.line-line.ensures) trailer))
    (subst (λ (line : List _). AddsRead line old new) c.line-line.ensures c.in_ok-push_read.ensures)

pub returns : goal.returns
returns c =
    up_to_end c.args.afd.now c.loop-number.number c.loop-number.clockings.items c.loop-number.invariant
    (omega (arith, c.loop-number-test.false, c.count-number-end.ensures.lines))
