use Rattle.std.proofs.Common.{◌≡◌, get_or, sym, ap, ◌∙◌}
use Rattle.std.proofs.lemmas.Bool.{false≢true, eq-eqb}
use Rattle.std.proofs.lemmas.Option.{none-some, same_Some}
use Rattle.tr_plan.specs.Link.{journey_day}
use Rattle.tr_plan.specs.declared.link.Link.{Link}
use Rattle.tr_days.proofs.CoverLemmas.{on_from}
use Rattle.tr_days.proofs.covering.covered_on.Goals as goal

pub returns-in_default-clause-only : goal.returns-in_default-clause-only
returns-in_default-clause-only c = λ place is.
    absurd (none-some place
    (sym c.in_default.is ∙ c.on.ensures.only place (on_from c.args.links.now c.args.cpf c.args.at.now c.args.day place is)))

pub returns-then-eq-clause-only : goal.returns-then-eq-clause-only
returns-then-eq-clause-only c = λ place is.
    sym c.in-Some.is ∙ c.on.ensures.only place (on_from c.args.links.now c.args.cpf c.args.at.now c.args.day place is)

pub returns-else-eq-clause-only : goal.returns-else-eq-clause-only
returns-else-eq-clause-only c = λ place is.
    let links = c.args.links.now in
    let on = on_from links c.args.cpf c.args.at.now c.args.day place is in
    let same : c.in-Some.place ≡ place = same_Some c.in-Some.place place (sym c.in-Some.is ∙ c.on.ensures.only place on) in
    let here : c.get.result.now ≡ get_or links place c.get.result.now = c.get.ensures.row ∙ ap (λ n. get_or links n c.get.result.now) same in
    let counts : c.journey_day.result ≡ c.args.day =
    c.journey_day.ensures ∙ ap (λ (l : Link). journey_day l c.args.at.now) here ∙ is.counts c.get.result.now in
    absurd (false≢true (sym c.if-eq.false ∙ c.eq.ensures ∙ eq-eqb c.journey_day.result c.args.day counts))
