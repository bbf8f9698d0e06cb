use Rattle.std.proofs.Common.{rules, ◌≡◌, [], subst, sym, ap, refl}
use Rattle.rep_turn.specs.Views.{IsFree}
use Rattle.rep_turn.proofs.Comings.{draws}
use Rattle.rep_turn.proofs.steps.draw.Goals as goal

pub compare_exchange-requires : goal.compare_exchange-requires
compare_exchange-requires g c =
    let key = c.args.table.now.key in
    let same = sym c.loop.invariant.1 in
    let most = ap (λ m. m.0.most) c.loop.invariant.1 in (
      search rules,
      search rules,
      draws g.B.Held.meaning key.0.value key.1 _ _ _ _ _ (subst (λ m. IsFree m.0) same c.requires.free) (subst (λ m. m.0.numbers ≡ []) same c.requires.view.0) (search rules) refl,
    )
