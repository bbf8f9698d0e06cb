use Rattle.std.proofs.Common.{◌≡◌, arith}
use Rattle.afd_records.proofs.FieldNumbers.{only_number}
use Rattle.afd_records.proofs.fields.read_collector.Goals as goal
use Rattle.afd_records.proofs.fields.read_collector.Goals.{then-collector-eq0-via-then-collector-eq0, then-collector-eq0-via-else-collector-eq0+then-collector-gt5}

pub returns-then-collector-eq0 : goal.returns-then-collector-eq0
returns-then-collector-eq0 c v is_collector is =
    let same : c.in-Some.collector ≡ v =
    only_number 2 c.args.field.now c.in-Some.collector v c.requires (c.in-Some.ensures.read (omega arith, omega arith))
    (omega arith) is in
    elim c.then-collector-eq0.branch [
      | then-collector-eq0-via-then-collector-eq0 w ↦ omega arith
      | then-collector-eq0-via-else-collector-eq0+then-collector-gt5 w ↦ omega arith
    ]
