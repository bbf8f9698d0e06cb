use Rattle.std.proofs.Common.{◌≡◌, inl, inr, arith}
use Rattle.afd_records.proofs.FieldNumbers.{only_number}
use Rattle.afd_records.proofs.fields.read_event.Goals as goal

pub returns-then-code-ne8 : goal.returns-then-code-ne8
returns-then-code-ne8 c v is_written is =
    let same : c.in-Some.code ≡ v =
    only_number 2 c.args.field.now c.in-Some.code v c.requires (c.in-Some.ensures.read (omega arith, omega arith))
    (omega arith) is in
    elim is_written [ inl available ↦ omega arith | inr unavailable ↦ omega arith ]
