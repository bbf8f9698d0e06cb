use Rattle.std.proofs.Common.{◌≡◌, subst, arith}
use Rattle.tr_days.specs.CoverParts.{IsCoveredOn}
use Rattle.tr_days.proofs.covering.covered_on_eve.Goals as goal

pub returns-in-Some-clause-only : goal.returns-in-Some-clause-only
returns-in-Some-clause-only c = λ eve place next is.
    let shown : c.day.inside.number ≡ c.args.day = c.day.view_is in
    let before : eve ≡ c.in-Some.number = omega (arith, next, shown, c.in-Some.ensures.0, c.in-Some.ensures.1) in
    c.covered_on.ensures.only place (subst (λ n. IsCoveredOn c.args.links.now c.args.cpf c.args.at.now n place) before is)
