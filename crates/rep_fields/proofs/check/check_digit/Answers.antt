use Rattle.std.proofs.Common.{arith}
use Rattle.rep_fields.proofs.Checks.{weighted_sum-step}
use Rattle.rep_fields.proofs.check.check_digit.Goals as goal

pub loop-place-preserved : goal.loop-place-preserved
loop-place-preserved c =
    let at = c.loop-place.place in
    weighted_sum-step c.args.weights.now c.args.digits.now at c.loop-place.sum c.from.result
    c.from-in-loop-place.result _ c.loop-place-test.true (omega arith) c.from.ensures c.from-in-loop-place.ensures
    (omega (arith, c.type_inv.weights at)) (omega (arith, (c.requires.digits at 0 (omega arith)).1))
    c.loop-place.invariant.0 c.loop-place.invariant.1
