use Rattle.std.proofs.Common.{ap, ◌∙◌}
use Rattle.rep_fields.specs.Moment.{day_of}
use Rattle.rep_print.proofs.SpanLemmas.{IsSpan-first}
use Rattle.rep_print.proofs.afd.first_span.Goals as goal

pub returns : goal.returns
returns c = IsSpan-first c.args.entry.now c.day-day.result (c.day-day.ensures.day ∙ ap day_of c.recorded.ensures)
