use Rattle.std.proofs.Common.{length, ap, arith}
use Rattle.rep_wire.proofs.FieldLemmas.{fields_of-some}
use Rattle.rep_drill.proofs.cutting.one.Goals as goal

pub returns-in-Some : goal.returns-in-Some
returns-in-Some c = λ one.
    let more = rw c.in-Some.is at c.in_ok-first.ensures in
    omega (arith, ap length more, fields_of-some c.in-Some.field-0.now)
