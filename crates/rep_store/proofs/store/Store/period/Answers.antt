use Rattle.std.proofs.Common.{◌≡◌, ◌∙◌, ℕ, List, ap, subst}
use Rattle.rep_core.specs.History.{days_of}
use Rattle.afd_extract.specs.Period.{IsPeriod}
use Rattle.rep_store.specs.State.{State}
use Rattle.rep_store.proofs.store.Store.period.Goals as goal

pub returns : goal.returns
returns g c =
    let history = ap (λ (s : State g.row.D.Denot g.row.C.Denot). days_of s.history) c.self.view_is in
    subst (λ (xs : List ℕ). IsPeriod xs c.args.from c.args.to c.period.result) (c.list.ensures ∙ c.self.invariant.1.same ∙ history) c.period.ensures
