use Rattle.std.proofs.Common.{◌≡◌, subst, sym, ap, ◌∙◌}
use Rattle.rep_turn.specs.Plays.{Finds}
use Rattle.rep_turn.specs.Tokens.{view_in, view_of}
use Rattle.rep_turn.proofs.Sessions.{exclusive}
use Rattle.rep_turn.proofs.turn.Turn.with.Goals as goal

pub returns-clause-step : goal.returns-clause-step
returns-clause-step g c =
    let own : view_of c.args.pass.now ≡ c.into_seat-seat.result.me.0 = ap view_in (ap (λ b. b.views) (sym c.replace.ensures.value) ∙ c.into_seat-seat.ensures.2) in
    exclusive g.B.Held.meaning _ _ _ _ c.take-book.result c.work-answer.new.book c.requires (subst (λ v. Finds g.B.Held.meaning v c.take-book.result) (sym own) c.take-book.ensures.finds)
    c.work-answer.ensures.adds c.work-answer.ensures.done (ap (λ l. (view_in l).seen) c.into_badge.ensures.2 ∙ ap (λ m. m.0.seen) c.give.ensures.seat)
