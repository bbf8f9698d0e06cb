use Rattle.std.proofs.Common.{inl, inr}
use Rattle.aej_records.specs.Reading.{IsOff}
use Rattle.aej_records.specs.declared.kind.LineType.TheVariants as type
use Rattle.aej_records.proofs.Spelled.{handed_on, id_at_owner, kind_at_owner, spelled, unspelled}
use Rattle.aej_records.proofs.reading.read_program.Goals as goal

pub returns-in_err-developer_name-clause-off : goal.returns-in_err-developer_name-clause-off
returns-in_err-developer_name-clause-off c =
    handed_on (IsOff type.Program c.args.fields.now) c.from_residual-in_err-developer_name.result c.in_err-developer_name.field-0.0 c.from_residual-in_err-developer_name.ensures.1
    (inr (spelled _ c.in_ok-name.ensures, inr (spelled _ c.in_ok-version.ensures, inr (kind_at_owner 4 _ _ c.in_ok-developer.ensures.found, inr (id_at_owner 4 _ _ c.in_ok-developer.ensures.found, inl (unspelled c.in_err-developer_name.ensures.1, c.in_err-developer_name.ensures.0))))))

pub returns-in_err-email-clause-off : goal.returns-in_err-email-clause-off
returns-in_err-email-clause-off c =
    handed_on (IsOff type.Program c.args.fields.now) c.from_residual-in_err-email.result c.in_err-email.field-0.0 c.from_residual-in_err-email.ensures.1
    (inr (spelled _ c.in_ok-name.ensures, inr (spelled _ c.in_ok-version.ensures, inr (kind_at_owner 4 _ _ c.in_ok-developer.ensures.found, inr (id_at_owner 4 _ _ c.in_ok-developer.ensures.found, inr (spelled _ c.in_ok-developer_name.ensures, inl (unspelled c.in_err-email.ensures.1, c.in_err-email.ensures.0)))))))

pub returns-in_err-end-clause-off : goal.returns-in_err-end-clause-off
returns-in_err-end-clause-off c =
    handed_on (IsOff type.Program c.args.fields.now) c.from_residual-in_err-end.result c.in_err-end.field-0.0 c.from_residual-in_err-end.ensures.1
    (inr (spelled _ c.in_ok-name.ensures, inr (spelled _ c.in_ok-version.ensures, inr (kind_at_owner 4 _ _ c.in_ok-developer.ensures.found, inr (id_at_owner 4 _ _ c.in_ok-developer.ensures.found, inr (spelled _ c.in_ok-developer_name.ensures, inr (spelled _ c.in_ok-email.ensures, (c.in_err-end.ensures.1, c.in_err-end.ensures.0))))))))
