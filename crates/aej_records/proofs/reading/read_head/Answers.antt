use Rattle.std.proofs.Common.{inl, inr}
use Rattle.aej_records.specs.Reading.{IsOff}
use Rattle.aej_records.specs.declared.kind.LineType.TheVariants as type
use Rattle.aej_records.proofs.Spelled.{handed_on, id_at_owner, kind_at_owner, not_version, spelled, unspelled, version_spelled}
use Rattle.aej_records.proofs.reading.read_head.Goals as goal

pub returns-in_err-cno-clause-off : goal.returns-in_err-cno-clause-off
returns-in_err-cno-clause-off c =
    handed_on (IsOff type.Head c.args.fields.now) c.from_residual-in_err-cno.result c.in_err-cno.field-0.0 c.from_residual-in_err-cno.ensures.1
    (inr (kind_at_owner 2 _ _ c.in_ok-id.ensures.found, inr (id_at_owner 2 _ _ c.in_ok-id.ensures.found, inr (spelled _ c.in_ok-caepf.ensures, inl (unspelled c.in_err-cno.ensures.1, c.in_err-cno.ensures.0)))))

pub returns-in_err-name-clause-off : goal.returns-in_err-name-clause-off
returns-in_err-name-clause-off c =
    handed_on (IsOff type.Head c.args.fields.now) c.from_residual-in_err-name.result c.in_err-name.field-0.0 c.from_residual-in_err-name.ensures.1
    (inr (kind_at_owner 2 _ _ c.in_ok-id.ensures.found, inr (id_at_owner 2 _ _ c.in_ok-id.ensures.found, inr (spelled _ c.in_ok-caepf.ensures, inr (spelled _ c.in_ok-cno.ensures, inl (unspelled c.in_err-name.ensures.1, c.in_err-name.ensures.0))))))

pub returns-in_err-first-clause-off : goal.returns-in_err-first-clause-off
returns-in_err-first-clause-off c =
    handed_on (IsOff type.Head c.args.fields.now) c.from_residual-in_err-first.result c.in_err-first.field-0.0 c.from_residual-in_err-first.ensures.1
    (inr (kind_at_owner 2 _ _ c.in_ok-id.ensures.found, inr (id_at_owner 2 _ _ c.in_ok-id.ensures.found, inr (spelled _ c.in_ok-caepf.ensures, inr (spelled _ c.in_ok-cno.ensures, inr (spelled _ c.in_ok-name.ensures, inl (unspelled c.in_err-first.ensures.1, c.in_err-first.ensures.0)))))))

pub returns-in_err-last-clause-off : goal.returns-in_err-last-clause-off
returns-in_err-last-clause-off c =
    handed_on (IsOff type.Head c.args.fields.now) c.from_residual-in_err-last.result c.in_err-last.field-0.0 c.from_residual-in_err-last.ensures.1
    (inr (kind_at_owner 2 _ _ c.in_ok-id.ensures.found, inr (id_at_owner 2 _ _ c.in_ok-id.ensures.found, inr (spelled _ c.in_ok-caepf.ensures, inr (spelled _ c.in_ok-cno.ensures, inr (spelled _ c.in_ok-name.ensures, inr (spelled _ c.in_ok-first.ensures, inl (unspelled c.in_err-last.ensures.1, c.in_err-last.ensures.0))))))))

pub returns-in_err-made-clause-off : goal.returns-in_err-made-clause-off
returns-in_err-made-clause-off c =
    handed_on (IsOff type.Head c.args.fields.now) c.from_residual-in_err-made.result c.in_err-made.field-0.0 c.from_residual-in_err-made.ensures.1
    (inr (kind_at_owner 2 _ _ c.in_ok-id.ensures.found, inr (id_at_owner 2 _ _ c.in_ok-id.ensures.found, inr (spelled _ c.in_ok-caepf.ensures, inr (spelled _ c.in_ok-cno.ensures, inr (spelled _ c.in_ok-name.ensures, inr (spelled _ c.in_ok-first.ensures, inr (spelled _ c.in_ok-last.ensures, inl (unspelled c.in_err-made.ensures.1, c.in_err-made.ensures.0)))))))))

pub returns-in_err-read-clause-off : goal.returns-in_err-read-clause-off
returns-in_err-read-clause-off c =
    handed_on (IsOff type.Head c.args.fields.now) c.from_residual-in_err-read.result c.in_err-read.field-0.0 c.from_residual-in_err-read.ensures.1
    (inr (kind_at_owner 2 _ _ c.in_ok-id.ensures.found, inr (id_at_owner 2 _ _ c.in_ok-id.ensures.found, inr (spelled _ c.in_ok-caepf.ensures, inr (spelled _ c.in_ok-cno.ensures, inr (spelled _ c.in_ok-name.ensures, inr (spelled _ c.in_ok-first.ensures, inr (spelled _ c.in_ok-last.ensures, inr (spelled _ c.in_ok-made.ensures, inl (not_version c.in_err-read.ensures.1, c.in_err-read.ensures.0))))))))))

pub returns-in_err-end-clause-off : goal.returns-in_err-end-clause-off
returns-in_err-end-clause-off c =
    handed_on (IsOff type.Head c.args.fields.now) c.from_residual-in_err-end.result c.in_err-end.field-0.0 c.from_residual-in_err-end.ensures.1
    (inr (kind_at_owner 2 _ _ c.in_ok-id.ensures.found, inr (id_at_owner 2 _ _ c.in_ok-id.ensures.found, inr (spelled _ c.in_ok-caepf.ensures, inr (spelled _ c.in_ok-cno.ensures, inr (spelled _ c.in_ok-name.ensures, inr (spelled _ c.in_ok-first.ensures, inr (spelled _ c.in_ok-last.ensures, inr (spelled _ c.in_ok-made.ensures, inr (version_spelled c.in_ok-read.ensures, (c.in_err-end.ensures.1, c.in_err-end.ensures.0)))))))))))
