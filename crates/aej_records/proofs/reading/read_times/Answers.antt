use Rattle.std.proofs.Common.{◌≡◌, ◌≤◌, ◌*◌, length, replicate, slice_index, take, ◌∙◌, ap, subst, arith, length-take-le}
use Rattle.rep_fields.specs.Moment.{IsMinuteOfDay}
use Rattle.aej_records.specs.Times.{IsTimes}
use Rattle.aej_records.specs.Grammar.{IsFirstOff, pairs_in, time_field}
use Rattle.aej_records.specs.Reading.{AreTimesOff}
use Rattle.aej_records.proofs.RunLemmas.{off_in_run, past_run, All-taken}
use Rattle.aej_records.proofs.Spelled.{handed_on, unspelled}
use Rattle.aej_records.proofs.reading.read_times.Goals as goal

pub returns-in_err-minutes-clause-off : goal.returns-in_err-minutes-clause-off
returns-in_err-minutes-clause-off c =
    let read = c.loop-place.invariant in
    let pairs : c.pairs_in-len.result ≡ pairs_in (length c.args.fields.now) = c.pairs_in-len.ensures ∙ ap pairs_in c.count.ensures in
    handed_on (AreTimesOff c.args.fields.now) c.from_residual.result c.in_err-minutes.field-0.0 c.from_residual.ensures.1
    (subst (λ n. IsFirstOff 4 (replicate (2 * n) time_field) c.args.fields.now c.in_err-minutes.field-0.0.field) pairs
    (off_in_run time_field 4 (2 * c.pairs_in-len.result) c.loop-place.place _ c.args.fields.now (omega arith)
    (λ k within. record { value = slice_index c.loop-place.minutes k; in_range = read.1 k within; written = read.2 k within })
    (unspelled c.in_err-minutes.ensures.1) c.in_err-minutes.ensures.0))

pub returns-in_err-end-clause-off : goal.returns-in_err-end-clause-off
returns-in_err-end-clause-off c =
    let read = c.loop-place.invariant in
    let pairs : c.pairs_in-len.result ≡ pairs_in (length c.args.fields.now) = c.pairs_in-len.ensures ∙ ap pairs_in c.count.ensures in
    handed_on (AreTimesOff c.args.fields.now) c.from_residual-in_err-end.result c.in_err-end.field-0.0 c.from_residual-in_err-end.ensures.1
    (subst (λ n. IsFirstOff 4 (replicate (2 * n) time_field) c.args.fields.now c.in_err-end.field-0.0.field) pairs
    (past_run time_field 4 (2 * c.pairs_in-len.result) _ c.args.fields.now
    (λ k within. record { value = slice_index c.loop-place.minutes k; in_range = read.1 k (omega arith); written = read.2 k (omega arith) })
    (omega (arith, c.in_err-end.ensures.1)) (c.in_err-end.ensures.0 ∙ omega arith)))

pub unreachable-requires : goal.unreachable-requires
unreachable-requires c =
    let read = c.loop-place.invariant in
    let pairs = c.pairs_in-len.ensures in
    let few : 2 * c.pairs_in-len.result ≤ 20 = omega arith in
    let size : length (take (2 * c.pairs_in-len.result) c.loop-place.minutes) ≡ 2 * c.pairs_in-len.result =
    length-take-le (2 * c.pairs_in-len.result) c.loop-place.minutes (omega arith) in
    let times : IsTimes (take (2 * c.pairs_in-len.result) c.loop-place.minutes) = record {
      some = omega arith;
      few = omega arith;
      paired = omega arith;
      minutes = All-taken IsMinuteOfDay c.loop-place.minutes (2 * c.pairs_in-len.result) (omega arith)
          (λ k within. read.1 k (omega arith));
    } in
    absurd (cc (c.in-None.ensures.succeeds.1 times))
