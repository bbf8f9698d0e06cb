use Rattle.std.proofs.Common.{◌∙◌, arith}
use Rattle.rep_fields.proofs.Numerals.{filled_from_right, filled-all}
use Rattle.rep_fields.proofs.digits.put_n.Goals as goal

pub loop-place-preserved : goal.loop-place-preserved
loop-place-preserved c =
    c.loop-place.invariant ∙ filled_from_right c.loop-place.out c.loop-place.place c.loop-place.rest (omega arith) (omega arith)

pub returns : goal.returns
returns c =
    filled-all c.loop-place.out _ c.loop-place.place c.loop-place.rest c.loop-place-test.false c.loop-place.invariant
