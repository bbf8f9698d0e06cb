use Rattle.std.proofs.Common.{rules, ◌≡◌, ◌<◌, ◌∷◌, Some, IsSome, length, subst, sym, ap, ◌∙◌}
use Rattle.atomic_table.specs.Table.{rest}
use Rattle.rep_turn.specs.Views.{IsFree}
use Rattle.rep_turn.proofs.Keeps.{takes_it, one_value}
use Rattle.rep_turn.proofs.steps.take.Goals as goal

pub compare_exchange-requires : goal.compare_exchange-requires
compare_exchange-requires g c =
    let key = c.args.table.now.key in
    let same = sym c.loop.invariant.1 in (
      search rules,
      search rules,
      takes_it g.B.Held.meaning key.0.value key.1 _ _ _ (subst (λ m. IsFree m.0) same c.requires.free.0) (subst (λ m. 0 < length m.0.numbers) same c.requires.free.1),
    )

pub exchange-state-requires : goal.exchange-state-requires
exchange-state-requires g c =
    let t = c.compare_exchange.ensures.2.0 c.if-compare_exchange-eq0.true in
    let slot = ap (λ n. n.1) t.now_held in
    (search rules, (Some t.state, slot ∙ ap (λ l. (0, Some t.state) ∷ rest l) (sym slot)))

pub unwrap-requires : goal.unwrap-requires
unwrap-requires g c =
    let t = c.compare_exchange.ensures.2.0 c.if-compare_exchange-eq0.true in
    let slot = ap (λ n. n.1) t.now_held in
    let held : Some t.state ≡ c.exchange-state.result = one_value _ _ _ _ slot c.exchange-state.ensures.2 in
    subst (λ o. IsSome o) held (search rules)
