use Rattle.std.proofs.Common.{slice_index, arith}
use Rattle.aej_records.specs.Grammar.{number_field}
use Rattle.aej_records.specs.Reading.{IsOff}
use Rattle.aej_records.specs.declared.kind.LineType.TheVariants as type
use Rattle.aej_records.proofs.RunLemmas.{off_in_run}
use Rattle.aej_records.proofs.Spelled.{handed_on, unspelled}
use Rattle.aej_records.proofs.reading.read_counts.Goals as goal

pub returns-in_err-counts-clause-off : goal.returns-in_err-counts-clause-off
returns-in_err-counts-clause-off c =
    let read = c.loop-place.invariant in
    handed_on (IsOff type.Counts c.args.fields.now) c.from_residual.result c.in_err-counts.field-0.0 c.from_residual.ensures.1
    (off_in_run (number_field 0 999999999) 2 8 c.loop-place.place _ c.args.fields.now (omega arith)
    (λ k within. record { value = slice_index c.loop-place.counts k; in_range = read.1 k within; written = read.2 k within })
    (unspelled c.in_err-counts.ensures.1) c.in_err-counts.ensures.0)
