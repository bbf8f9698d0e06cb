use Rattle.std.proofs.Common.{inl, inr}
use Rattle.aej_records.specs.Reading.{IsOff}
use Rattle.aej_records.specs.declared.kind.LineType.TheVariants as type
use Rattle.aej_records.proofs.Spelled.{handed_on, not_spelled_or_empty, spelled, spelled_or_empty, unspelled}
use Rattle.aej_records.proofs.reading.read_mark.Goals as goal

pub returns-in_err-pair-clause-off : goal.returns-in_err-pair-clause-off
returns-in_err-pair-clause-off c =
    handed_on (IsOff type.Mark c.args.fields.now) c.from_residual-in_err-pair.result c.in_err-pair.field-0.0 c.from_residual-in_err-pair.ensures.1
    (inr (spelled _ c.in_ok-link.ensures, inr (spelled _ c.in_ok-at.ensures, inr (spelled_or_empty _ c.in_ok-rep.ensures, inr (spelled _ c.in_ok-mark.ensures, inl (not_spelled_or_empty (c.in_err-pair.ensures.1, c.in_err-pair.ensures.2), c.in_err-pair.ensures.0))))))

pub returns-in_err-schedule-clause-off : goal.returns-in_err-schedule-clause-off
returns-in_err-schedule-clause-off c =
    handed_on (IsOff type.Mark c.args.fields.now) c.from_residual-in_err-schedule.result c.in_err-schedule.field-0.0 c.from_residual-in_err-schedule.ensures.1
    (inr (spelled _ c.in_ok-link.ensures, inr (spelled _ c.in_ok-at.ensures, inr (spelled_or_empty _ c.in_ok-rep.ensures, inr (spelled _ c.in_ok-mark.ensures, inr (spelled_or_empty _ c.in_ok-pair.ensures, inr (spelled _ c.in_ok-source.ensures, inl (unspelled c.in_err-schedule.ensures.1, c.in_err-schedule.ensures.0))))))))

pub returns-in_err-reason-clause-off : goal.returns-in_err-reason-clause-off
returns-in_err-reason-clause-off c =
    handed_on (IsOff type.Mark c.args.fields.now) c.from_residual-in_err-reason.result c.in_err-reason.field-0.0 c.from_residual-in_err-reason.ensures.1
    (inr (spelled _ c.in_ok-link.ensures, inr (spelled _ c.in_ok-at.ensures, inr (spelled_or_empty _ c.in_ok-rep.ensures, inr (spelled _ c.in_ok-mark.ensures, inr (spelled_or_empty _ c.in_ok-pair.ensures, inr (spelled _ c.in_ok-source.ensures, inr (spelled _ c.in_ok-schedule.ensures, inl (unspelled c.in_err-reason.ensures.1, c.in_err-reason.ensures.0)))))))))

pub returns-in_err-end-clause-off : goal.returns-in_err-end-clause-off
returns-in_err-end-clause-off c =
    handed_on (IsOff type.Mark c.args.fields.now) c.from_residual-in_err-end.result c.in_err-end.field-0.0 c.from_residual-in_err-end.ensures.1
    (inr (spelled _ c.in_ok-link.ensures, inr (spelled _ c.in_ok-at.ensures, inr (spelled_or_empty _ c.in_ok-rep.ensures, inr (spelled _ c.in_ok-mark.ensures, inr (spelled_or_empty _ c.in_ok-pair.ensures, inr (spelled _ c.in_ok-source.ensures, inr (spelled _ c.in_ok-schedule.ensures, inr (spelled _ c.in_ok-reason.ensures, (c.in_err-end.ensures.1, c.in_err-end.ensures.0))))))))))
