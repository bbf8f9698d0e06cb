use Rattle.std.proofs.Common.{arith}
use Rattle.std.proofs.lemmas.Bool.Decides.{nat_tests}
use Rattle.rep_wire.proofs.asking.read_ask.Goals as goal

pub read_mark-requires : goal.read_mark-requires
read_mark-requires c = grind (arith, nat_tests)
