use Rattle.std.proofs.Common.{◌≤◌, sym, ◌∙◌, subst}
use Rattle.rep_core.specs.declared.row.Row.{Row}
use Rattle.rep_core.proofs.Rows.{no_row, number_in-push, room_in-push, room_in-pushed}
use Rattle.rep_core.proofs.origins.Origins.begin.Goals as goal

pub returns-clause-same : goal.returns-clause-same
returns-clause-same c = λ other seq.
    let new : Row = record { origin = c.args.origin; numbers = c.reserve.new.self } in
    rw (c.in_ok-push.ensures.items, c.self.view_is)
    (number_in-push c.args.self.now new (no_row c.args.self.now c.args.origin c.requires) (c.reserve.ensures.pairs ∙ c.new-numbers.ensures) other seq)

pub returns-clause-made : goal.returns-clause-made
returns-clause-made c =
    let new : Row = record { origin = c.args.origin; numbers = c.reserve.new.self } in
    let room = room_in-push c.args.self.now new (no_row c.args.self.now c.args.origin c.requires) in
    rw (c.in_ok-push.ensures.items, c.self.view_is)
    (subst (λ n. 1 ≤ n) (sym room) c.in_ok-reserve.ensures.made)

pub returns-clause-rooms : goal.returns-clause-rooms
returns-clause-rooms c = λ other.
    let new : Row = record { origin = c.args.origin; numbers = c.reserve.new.self } in
    rw (c.in_ok-push.ensures.items, c.self.view_is) (room_in-pushed c.args.self.now new other)
