use Rattle.std.proofs.Common.{◌≡◌, inl, inr, arith}
use Rattle.afd_records.proofs.FieldNumbers.{only_number}
use Rattle.afd_records.proofs.header_reading.read_maker_kind.Goals as goal

pub returns-then-kind-ne2 : goal.returns-then-kind-ne2
returns-then-kind-ne2 c v is_kind is =
    let same : c.in-Some.kind ≡ v =
    only_number 1 c.args.field.now c.in-Some.kind v c.requires (c.in-Some.ensures.read (omega arith, omega arith))
    (omega arith) is in
    elim is_kind [ inl cnpj ↦ omega arith | inr cpf ↦ omega arith ]
