use Rattle.std.proofs.Common.{rules, ◌≡◌, [], ◌∷◌, Some, subst, sym, ap, ◌∙◌}
use Rattle.atomic_table.specs.Table.{rest}
use Rattle.rep_turn.specs.Log.{Adds}
use Rattle.rep_turn.specs.Views.{IsHolder, taken_meaning}
use Rattle.rep_turn.proofs.Keeps.{one_state, publishes, gives_it}
use Rattle.rep_turn.proofs.steps.give.Goals as goal

pub store-requires : goal.store-requires
store-requires g c =
    let key = c.args.table.now.key in
    let back = c.exchange-empty.ensures.3 in
    let view = ap (λ m. m.0) back in
    let slot : c.exchange-empty.new.seat.me.1 ≡ (0, Some c.args.state) ∷ [] = ap (λ m. m.1) back ∙ ap (λ l. (0, Some c.args.state) ∷ rest l) c.requires.seat.1 in (
      search rules,
      search rules,
      publishes g.B.Held.meaning key.0.value key.1 _ _ _ c.args.state c.requires.adds.0 _ (subst IsHolder (sym view) c.requires.holder)
          (ap (λ v. v.numbers) view ∙ c.requires.adds.1) (subst (λ v. Adds c.requires.adds.0 (taken_meaning v) (g.B.Held.meaning c.args.state)) (sym view) c.requires.adds.2) slot (search rules) (search rules) (λ t e. one_state _ t c.args.state e slot),
    )

pub store-requires-2 : goal.store-requires-2
store-requires-2 g c =
    let key = c.args.table.now.key in
    let back = c.exchange-empty.ensures.3 in
    let view = ap (λ m. m.0) back in
    let slot : c.exchange-empty.new.seat.me.1 ≡ (0, Some c.args.state) ∷ [] = ap (λ m. m.1) back ∙ ap (λ l. (0, Some c.args.state) ∷ rest l) c.requires.seat.1 in
    let shown = c.store.ensures.2 c.args.state slot in
    let seen = ap (λ m. m.0) shown in
    let adds = c.requires.adds.2 in
    let h = c.requires.holder in (
      search rules,
      search rules,
      gives_it g.B.Held.meaning key.0.value key.1 _ _ _ c.args.state
          (record {
            live = ap (λ v. v.spent) seen ∙ (ap (λ v. v.spent) view ∙ h.live);
            holds_it = ap (λ v. v.holds) seen ∙ (ap (λ v. v.holds) view ∙ h.holds_it);
            gathers_nothing = ap (λ v. v.gathered) seen ∙ (ap (λ v. v.gathered) view ∙ h.gathers_nothing);
          })
          (ap (λ v. v.taken) seen)
          (adds.base ∙ sym (ap (λ v. v.base) seen ∙ ap (λ v. v.base) view))
          (adds.start ∙ sym (ap (λ v. v.start) seen ∙ ap (λ v. v.start) view))
          (ap (λ m. m.1) shown ∙ slot),
    )
