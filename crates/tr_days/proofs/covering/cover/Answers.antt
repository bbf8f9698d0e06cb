use Rattle.std.proofs.Common.{sym, ◌∙◌, subst}
use Rattle.tr_days.specs.CoverParts.{IsCoveredOn}
use Rattle.tr_days.proofs.CoverLemmas.{first_of_two, on_day_or_eve, covering_at, covering_at_eve}
use Rattle.tr_days.proofs.covering.cover.Goals as goal

pub returns : goal.returns
returns c =
    let links = c.args.plan.now.links in
    let cpf = c.args.cpf in
    let at = c.args.at in
    let on_day = c.covered_on-on_day.result in
    let on_eve = c.covered_on_eve-on_eve.result in
    c.lower_of.ensures
    ∙ first_of_two links cpf at on_day on_eve (covering_at links cpf at c.day.result on_day c.covered_on-on_day.ensures.found)
    (covering_at_eve links cpf at on_eve c.covered_on_eve-on_eve.ensures.found)
    (on_day_or_eve links cpf at on_day on_eve c.requires.links
    (λ place is. c.covered_on-on_day.ensures.only place (subst (λ n. IsCoveredOn links cpf at n place) (sym c.day.ensures.day) is))
    (λ eve place next is. c.covered_on_eve-on_eve.ensures.only eve place (next ∙ sym c.day-2.ensures.day) is))
