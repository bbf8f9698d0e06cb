use Rattle.std.proofs.Common.{List, sym, ◌∙◌, subst}
use Rattle.tr_plan.specs.Link.{IsOn}
use Rattle.tr_plan.specs.declared.link.Link.{Link}
use Rattle.tr_plan.proofs.links.Links.on.Goals as goal

pub returns-clause-only : goal.returns-clause-only
returns-clause-only c = λ place on.
    c.on_day.ensures.only place
    (subst (λ (links : List Link). IsOn links c.args.cpf c.args.day place) (sym (c.as_slice.ensures ∙ c.self.view_is)) on)
