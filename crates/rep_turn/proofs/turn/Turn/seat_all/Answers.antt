use Rattle.std.proofs.Common.{rules, ◌<◌, [], ◌∷◌, subst, sym, ap, ◌∙◌, refl, arith}
use Rattle.rep_turn.specs.Views.{numbered}
use Rattle.rep_turn.proofs.Comings.{splits}
use Rattle.rep_turn.proofs.Sessions.{Issued, redraws, issues}
use Rattle.rep_turn.proofs.turn.Turn.seat_all.Goals as goal

pub split_seat-own-requires : goal.split_seat-own-requires
split_seat-own-requires g c =
    let key = c.self.inside.table.shared.key in
    (search rules, search rules, splits g.B.Held.meaning key.0.value key.1 _ _ c.loop.invariant.seated.free)

pub loop-preserved : goal.loop-preserved
loop-preserved g c =
    let i = c.loop.invariant in
    let left = ap (λ m. m.0) c.split_seat-own.ensures.2 in
    let drawn = ap (λ m. m.0) c.draw-number.ensures.seat in
    let up : c.loop.number < c.draw-number.result = omega (arith, c.draw-number.ensures.fresh, ap (λ v. v.least_next) left, i.seated.fresh) in
    let own = ap (λ m. m.0) c.split_seat-own.ensures.4 in
    record {
      count = search rules;
      room = search rules;
      here = search rules;
      bare = ap (λ m. m.1) c.draw-number.ensures.seat;
      seated = redraws g.B.Held.meaning c.args.self.now c.args.n c.loop.number c.draw-number.result _ _ i.seated (drawn ∙ ap (λ v. numbered v c.draw-number.result) left) up c.draw-number.ensures.below;
      issued = subst (Issued g.B.Held.meaning c.args.self.now c.draw-number.result) (sym c.push_reserved.ensures.items)
          (issues g.B.Held.meaning c.args.self.now c.args.n c.loop.number c.draw-number.result _ _ _ i.seated i.issued refl (c.into_badge.ensures.2 ∙ ap (λ v. v ∷ []) own) (search rules) up);
    }

pub returns-clause-numbers : goal.returns-clause-numbers
returns-clause-numbers g c =
    let i = c.loop.invariant in
    let made : Issued g.B.Held.meaning c.args.self.now c.args.n c.push_reserved-2.new.self.items =
    subst (Issued g.B.Held.meaning c.args.self.now c.args.n) (sym c.push_reserved-2.ensures.items)
    (issues g.B.Held.meaning c.args.self.now c.args.n c.loop.number c.args.n _ _ _ i.seated i.issued refl c.into_badge-2.ensures.2 (search rules) i.seated.below) in
    made.once
