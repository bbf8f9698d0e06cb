use Rattle.std.proofs.Common.{◌≡◌, ◌≤◌, List, get_or, ap, sym, ◌∙◌, subst, arith}
use Rattle.rep_core.specs.Index.{room_in}
use Rattle.rep_core.specs.declared.row.Row.{Row}
use Rattle.rep_core.proofs.Rows.{row_at, no_row, room_in-none, room_in-at}
use Rattle.rep_core.proofs.origins.Origins.has_room.Goals as goal

pub returns-in_default : goal.returns-in_default
returns-in_default c =
    let nothing = room_in-none c.args.self.now c.args.origin (no_row c.args.self.now c.args.origin (sym c.place.ensures ∙ c.in_default.is)) in
    grind (arith, nothing)

pub returns : goal.returns
returns c =
    let at = row_at c.args.self.now c.args.origin c.in-Some.place (sym c.place.ensures ∙ c.in-Some.is) in
    let room : c.index.result.now.numbers.room ≡ room_in c.args.self.now c.args.origin =
    ap (λ (row : Row). row.numbers.room) (c.index.ensures ∙ ap (λ (rows : List Row). get_or rows c.in-Some.place c.index.result.now) c.self.view_is)
    ∙ sym (room_in-at c.args.self.now c.args.origin c.in-Some.place c.index.result.now at) in
    (λ is. subst (λ n. 1 ≤ n) room (c.has_room.ensures.0 is), λ is. c.has_room.ensures.1 (subst (λ n. 1 ≤ n) (sym room) is))
