use Rattle.std.proofs.Common.{sym, ◌∙◌}
use Rattle.tr_days.proofs.CoverLemmas.{journey_under, journey_alone}
use Rattle.tr_days.proofs.covering.journey.Goals as goal

pub returns-in-Some : goal.returns-in-Some
returns-in-Some c =
    c.journey_day.ensures
    ∙ journey_under c.args.plan.now.links c.args.cpf c.args.at c.in-Some.place c.get.result.now (sym c.cover.ensures ∙ c.in-Some.is)
    c.get.ensures.row

pub returns-in-None : goal.returns-in-None
returns-in-None c =
    c.day.ensures.day ∙ journey_alone c.args.plan.now.links c.args.cpf c.args.at (sym c.cover.ensures ∙ c.in-None.is)
