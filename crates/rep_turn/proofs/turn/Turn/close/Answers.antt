use Rattle.std.proofs.Common.{rules, IsSome, subst, sym, ap, ◌∙◌, arith}
use Rattle.rep_turn.specs.Log.{own}
use Rattle.rep_turn.proofs.Comings.{sits}
use Rattle.rep_turn.proofs.Sessions.{gathers_one, closed_with, same_state, all_kept}
use Rattle.rep_turn.proofs.turn.Turn.close.Goals as goal

pub load_new_seat-requires : goal.load_new_seat-requires
load_new_seat-requires g c =
    let key = c.self.inside.table.shared.key in
    (search rules, sits g.B.Held.meaning key.0.value key.1 _)

pub loop-pass-preserved : goal.loop-pass-preserved
loop-pass-preserved g c =
    let i = c.loop-pass.invariant in
    record {
      here = search rules;
      bare = ap (λ m. m.1) c.gather.ensures.seat;
      gathered = gathers_one g.B.Held.meaning c.args.self c.args.passes.items c.loop-pass.pass-index c.loop-pass.pass-items _ c.pass-item.result c.gather.new.pass _ i.gathered (search rules)
          (ap (λ m. m.0) c.gather.ensures.seat) c.gather.ensures.token;
    }

pub unwrap-requires : goal.unwrap-requires
unwrap-requires g c =
    let i = c.loop-pass.invariant.gathered in
    let key = c.self.inside.table.shared.key in
    let bound = ap (λ s. s.participants) c.self.view_is in
    let e = closed_with g.B.Held.meaning key.0.value key.1 _ _ _ _ c.take-state.result i.live i.rests (omega (arith, i.numbers, i.some_left, bound, c.args.passes.ok.0)) c.close_with-closed.ensures.values.2 c.take-state.ensures.value in
    subst (λ o. IsSome o) e.1 (search rules)

pub returns-clause-base : goal.returns-clause-base
returns-clause-base g c =
    let i = c.loop-pass.invariant.gathered in
    let key = c.self.inside.table.shared.key in
    let first = ap (λ s. s.first) c.self.view_is in
    let bound = ap (λ s. s.participants) c.self.view_is in
    let e = closed_with g.B.Held.meaning key.0.value key.1 _ _ _ _ c.take-state.result i.live i.rests (omega (arith, i.numbers, i.some_left, bound, c.args.passes.ok.0)) c.close_with-closed.ensures.values.2 c.take-state.ensures.value in
    let same = same_state e.0 c.unwrap.result c.take-state.result e.1 c.unwrap.ensures in
    ap (λ b. (g.B.Held.meaning b).base) (sym same) ∙ (e.2.same_base ∙ ap (λ b. (g.B.Held.meaning b).base) first)

pub returns-clause-start : goal.returns-clause-start
returns-clause-start g c =
    let i = c.loop-pass.invariant.gathered in
    let key = c.self.inside.table.shared.key in
    let first = ap (λ s. s.first) c.self.view_is in
    let bound = ap (λ s. s.participants) c.self.view_is in
    let e = closed_with g.B.Held.meaning key.0.value key.1 _ _ _ _ c.take-state.result i.live i.rests (omega (arith, i.numbers, i.some_left, bound, c.args.passes.ok.0)) c.close_with-closed.ensures.values.2 c.take-state.ensures.value in
    let same = same_state e.0 c.unwrap.result c.take-state.result e.1 c.unwrap.ensures in
    ap (λ b. (g.B.Held.meaning b).start) (sym same) ∙ (e.2.same_start ∙ ap (λ b. (g.B.Held.meaning b).start) first)

pub returns-clause-owners : goal.returns-clause-owners
returns-clause-owners g c = λ k above.
    let i = c.loop-pass.invariant.gathered in
    let key = c.self.inside.table.shared.key in
    let bound = ap (λ s. s.participants) c.self.view_is in
    let e = closed_with g.B.Held.meaning key.0.value key.1 _ _ _ _ c.take-state.result i.live i.rests (omega (arith, i.numbers, i.some_left, bound, c.args.passes.ok.0)) c.close_with-closed.ensures.values.2 c.take-state.ensures.value in
    let same = same_state e.0 c.unwrap.result c.take-state.result e.1 c.unwrap.ensures in
    ap (λ b. own k (g.B.Held.meaning b).seen.notes) (sym same) ∙ e.2.owners k (omega (arith, bound, above))

pub returns-clause-kept : goal.returns-clause-kept
returns-clause-kept g c =
    let i = c.loop-pass.invariant.gathered in
    let key = c.self.inside.table.shared.key in
    let bound = ap (λ s. s.participants) c.self.view_is in
    let e = closed_with g.B.Held.meaning key.0.value key.1 _ _ _ _ c.take-state.result i.live i.rests (omega (arith, i.numbers, i.some_left, bound, c.args.passes.ok.0)) c.close_with-closed.ensures.values.2 c.take-state.ensures.value in
    let same = same_state e.0 c.unwrap.result c.take-state.result e.1 c.unwrap.ensures in
    all_kept g.B.Held.meaning c.args.self c.args.passes.items c.loop-pass.pass-index c.loop-pass.pass-items _ key.0.value key.1 e.0 c.unwrap.result same (omega (arith, i.some_left)) i e.2
