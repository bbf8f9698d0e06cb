use Rattle.std.proofs.Common.{◌≤◌, length, arith}
use Rattle.std.proofs.lemmas.Bool.Decides.{nat_tests}
use Rattle.rep_wire.proofs.ValueLemmas.{no_long_cno, cno_read}
use Rattle.rep_wire.proofs.value.read_cno.Goals as goal

pub returns-then-text-gt-MOST_CNO_DIGITS : goal.returns-then-text-gt-MOST_CNO_DIGITS
returns-then-text-gt-MOST_CNO_DIGITS c = λ cno in_range said.
    no_long_cno c.args.text.now cno c.if-text-gt-MOST_CNO_DIGITS.true said

pub returns : goal.returns
returns c =
    let some : 1 ≤ length c.args.text.now = grind (arith, nat_tests) in
    cno_read c.args.text.now c.get_n.result some c.if-text-gt-MOST_CNO_DIGITS.false (c.get_n.ensures.read (omega arith, omega arith))
