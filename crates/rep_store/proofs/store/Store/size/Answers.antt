use Rattle.std.proofs.Common.{◌≡◌, ℕ, List, length, subst}
use Rattle.rep_store.specs.Extracting.{IsAfdOf}
use Rattle.rep_store.specs.State.{State}
use Rattle.rep_store.proofs.store.Store.size.Goals as goal

pub returns : goal.returns
returns g c =
    subst (λ (s : State g.row.D.Denot g.row.C.Denot). (minute : ℕ) (text : List ℕ) → IsAfdOf s.site s.history c.args.from c.args.to minute text → c.size_of.result ≡ length text) c.self.view_is
    (λ minute text afd. c.size_of.ensures c.self.inside.site minute text c.self.invariant.0.is_site c.self.invariant.0.founded afd)
