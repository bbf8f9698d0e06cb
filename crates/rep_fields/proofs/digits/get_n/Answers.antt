use Rattle.std.proofs.Common.{ap, arith, ◌+◌, ◌*◌, ◌%◌}
use Rattle.rep_fields.proofs.Numerals.{IsRead-nothing, IsRead-more}
use Rattle.rep_fields.proofs.digits.get_n.Goals as goal

pub loop-byte-init : goal.loop-byte-init
loop-byte-init c = IsRead-nothing c.args.field.now

pub loop-byte-preserved : goal.loop-byte-preserved
loop-byte-preserved c =
    IsRead-more c.args.field.now c.loop-byte.byte-index c.loop-byte.value _ c.loop-byte.all_digits c.loop-byte-test.true
    (omega arith) (omega (arith, c.type_inv.field c.loop-byte.byte-index))
    (ap (λ digit. (c.loop-byte.value * 10 % 18446744073709551616 + digit) % 18446744073709551616) c.from.ensures)
    c.loop-byte.invariant
