use Rattle.std.proofs.Common.{◌≡◌, arith}
use Rattle.afd_records.proofs.FieldNumbers.{only_number}
use Rattle.afd_records.proofs.loose_fields.read_loose_event.Goals as goal
use Rattle.afd_records.proofs.loose_fields.read_loose_event.Goals.{then-code-eq0-via-then-code-eq0, then-code-eq0-via-else-code-eq0+then-code-gt-LAST_EVENT}

pub returns-then-code-eq0 : goal.returns-then-code-eq0
returns-then-code-eq0 c v is_event is =
    let same : c.in-Some.code ≡ v =
    only_number 2 c.args.field.now c.in-Some.code v c.requires (c.in-Some.ensures.read (omega arith, omega arith))
    (omega arith) is in
    elim c.then-code-eq0.branch [
      | then-code-eq0-via-then-code-eq0 w ↦ omega arith
      | then-code-eq0-via-else-code-eq0+then-code-gt-LAST_EVENT w ↦ omega arith
    ]
