use Rattle.std.proofs.Common.{ap, ◌∙◌}
use Rattle.rep_fields.specs.Moment.{day_of}
use Rattle.rep_print.proofs.SpanLemmas.{IsSpan-push}
use Rattle.rep_print.proofs.afd.add_entry.Goals as goal

pub returns : goal.returns
returns c h so_far =
    IsSpan-push h c.args.entry.now c.args.span.now.first c.args.span.now.last c.earlier-span.result c.later-span.result
    c.day-day.result (c.day-day.ensures.day ∙ ap day_of c.recorded.ensures) c.earlier-span.ensures c.later-span.ensures so_far
