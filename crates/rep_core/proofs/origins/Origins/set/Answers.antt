use Rattle.std.proofs.Common.{◌≡◌, ◌≤◌, List, get_or, ap, sym, ◌∙◌, subst, arith}
use Rattle.rep_core.specs.Index.{room_in}
use Rattle.rep_core.specs.declared.row.Row.{Row}
use Rattle.rep_core.proofs.Rows.{row_at, no_row, room_in-none, room_in-at, row_origin, SetsPair-row}
use Rattle.rep_core.proofs.origins.Origins.set.Goals as goal

pub unreachable-requires : goal.unreachable-requires
unreachable-requires c =
    let nothing = room_in-none c.args.self.now c.args.origin (no_row c.args.self.now c.args.origin (sym c.place.ensures ∙ c.in_default.is)) in
    let room = c.requires in
    omega arith

pub set-requires : goal.set-requires
set-requires c =
    let at = row_at c.args.self.now c.args.origin c.in-Some.place (sym c.place.ensures ∙ c.in-Some.is) in
    let room : room_in c.args.self.now c.args.origin ≡ c.index_mut-row.result.now.numbers.room =
    room_in-at c.args.self.now c.args.origin c.in-Some.place c.index_mut-row.result.now at
    ∙ ap (λ (row : Row). row.numbers.room) (sym (c.index_mut-row.ensures.value ∙ ap (λ (rows : List Row). get_or rows c.in-Some.place c.index_mut-row.result.now) c.self.view_is)) in
    subst (λ n. 1 ≤ n) room c.requires

pub returns : goal.returns
returns c =
    let at = row_at c.args.self.now c.args.origin c.in-Some.place (sym c.place.ensures ∙ c.in-Some.is) in
    let row = c.index_mut-row.result.now in
    let read : row ≡ get_or c.args.self.now c.in-Some.place row =
    c.index_mut-row.ensures.value ∙ ap (λ (rows : List Row). get_or rows c.in-Some.place row) c.self.view_is in
    rw c.self.view_is
    (SetsPair-row c.args.self.now c.args.origin c.args.seq c.args.number c.in-Some.place row
    (record { origin = row.origin; numbers = c.set.new.self }) at read (row_origin c.args.self.now c.args.origin c.in-Some.place row at read) c.set.ensures.number)
