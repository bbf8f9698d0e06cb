use Rattle.std.proofs.Common.{◌≡◌, arith}
use Rattle.afd_records.proofs.FieldNumbers.{only_number}
use Rattle.afd_records.proofs.fields.read_nsr.Goals as goal

pub returns-then-number-eq0 : goal.returns-then-number-eq0
returns-then-number-eq0 c v is_nsr is =
    let same : c.in-Some.number ≡ v =
    only_number 9 c.args.field.now c.in-Some.number v c.requires (c.in-Some.ensures.read (omega arith, omega arith))
    (omega arith) is in
    omega arith
