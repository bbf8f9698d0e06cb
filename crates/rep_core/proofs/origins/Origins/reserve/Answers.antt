use Rattle.std.proofs.Common.{◌≡◌, ◌≤◌, List, OnOk, get_or, ap, sym, ◌∙◌, subst}
use Rattle.rep_core.specs.declared.row.Row.{Row}
use Rattle.rep_core.proofs.Rows.{row_at, row_origin, number_in-same, room_in-set, room_in-kept}
use Rattle.rep_core.proofs.origins.Origins.reserve.Goals as goal

pub returns-clause-same : goal.returns-clause-same
returns-clause-same c = λ other seq.
    let at = row_at c.args.self.now c.args.origin c.in-Some.place (sym c.place.ensures ∙ c.in-Some.is) in
    let row = c.index_mut-row.result.now in
    let read : row ≡ get_or c.args.self.now c.in-Some.place row =
    c.index_mut-row.ensures.value ∙ ap (λ (rows : List Row). get_or rows c.in-Some.place row) c.self.view_is in
    rw c.self.view_is
    (number_in-same c.args.self.now c.args.origin c.in-Some.place row (record { origin = row.origin; numbers = c.reserve.new.self }) at read
    (row_origin c.args.self.now c.args.origin c.in-Some.place row at read) c.reserve.ensures.pairs other seq)

pub returns-clause-made : goal.returns-clause-made
returns-clause-made c =
    let at = row_at c.args.self.now c.args.origin c.in-Some.place (sym c.place.ensures ∙ c.in-Some.is) in
    let row = c.index_mut-row.result.now in
    let read : row ≡ get_or c.args.self.now c.in-Some.place row =
    c.index_mut-row.ensures.value ∙ ap (λ (rows : List Row). get_or rows c.in-Some.place row) c.self.view_is in
    let room = room_in-set c.args.self.now c.args.origin c.in-Some.place (record { origin = row.origin; numbers = c.reserve.new.self }) at
    (row_origin c.args.self.now c.args.origin c.in-Some.place row at read) in
    rw c.self.view_is (subst (λ n. OnOk c.reserve.result (1 ≤ n)) (sym room) c.reserve.ensures.made)

pub returns-clause-rooms : goal.returns-clause-rooms
returns-clause-rooms c = λ other.
    let at = row_at c.args.self.now c.args.origin c.in-Some.place (sym c.place.ensures ∙ c.in-Some.is) in
    let row = c.index_mut-row.result.now in
    let read : row ≡ get_or c.args.self.now c.in-Some.place row =
    c.index_mut-row.ensures.value ∙ ap (λ (rows : List Row). get_or rows c.in-Some.place row) c.self.view_is in
    rw c.self.view_is
    (room_in-kept c.args.self.now c.args.origin c.in-Some.place row (record { origin = row.origin; numbers = c.reserve.new.self }) at read
    (row_origin c.args.self.now c.args.origin c.in-Some.place row at read) c.reserve.ensures.room other)
