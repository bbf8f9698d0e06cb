use Rattle.std.proofs.Common.{rules, ◌≡◌, subst, sym, ap, ◌∙◌}
use Rattle.rep_turn.specs.Views.{IsFree}
use Rattle.rep_turn.specs.Tokens.{view_in, view_of}
use Rattle.rep_turn.proofs.Comings.{splits, joins}
use Rattle.rep_turn.proofs.steps.gather.Goals as goal

pub split_seat-numbered-requires : goal.split_seat-numbered-requires
split_seat-numbered-requires g c =
    let key = c.args.table.now.key in
    let own : view_of c.args.pass.now ≡ c.into_seat-own.result.me.0 = ap view_in (ap (λ b. b.views) (sym c.replace.ensures.value) ∙ c.into_seat-own.ensures.2) in
    (search rules, search rules, splits g.B.Held.meaning key.0.value key.1 _ _ (subst IsFree own c.requires.free))

pub join_seat-requires : goal.join_seat-requires
join_seat-requires g c =
    let key = c.args.table.now.key in
    let own : view_of c.args.pass.now ≡ c.into_seat-own.result.me.0 = ap view_in (ap (λ b. b.views) (sym c.replace.ensures.value) ∙ c.into_seat-own.ensures.2) in
    let numbered = ap (λ m. m.0) c.split_seat-numbered.ensures.4 in (
      search rules,
      search rules,
      search rules,
      search rules,
      joins g.B.Held.meaning key.0.value key.1 _ _ _ _ c.requires.gatherer.0 c.requires.gatherer.1 (subst IsFree (own ∙ sym numbered) c.requires.free),
    )
