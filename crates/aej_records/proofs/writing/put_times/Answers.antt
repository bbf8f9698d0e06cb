use Rattle.std.proofs.Common.{◌∷◌, ◌++◌, ap, ◌∙◌, arith}
use Rattle.rep_fields.specs.Identity.{bar}
use Rattle.rep_fields.specs.Moment.{hours_text}
use Rattle.aej_records.proofs.WritingLemmas.{behind_bars-more}
use Rattle.aej_records.proofs.writing.put_times.Goals as goal

pub loop-minute-preserved : goal.loop-minute-preserved
loop-minute-preserved c = (
  behind_bars-more hours_text c.minutes-minute-items.result.now c.loop-minute.minute-index c.args.row.now c.loop-minute.row c.put_field.new.row
      c.loop-minute-test.true c.loop-minute.invariant.0
      (c.put_field.ensures.value ∙ ap (λ text. c.loop-minute.row ++ bar ∷ text) c.write_time_of_day.ensures),
  omega arith,
)
