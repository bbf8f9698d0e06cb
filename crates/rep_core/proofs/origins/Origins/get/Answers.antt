use Rattle.std.proofs.Common.{List, get_or, ap, sym, ◌∙◌}
use Rattle.rep_core.specs.Numbers.{number_of}
use Rattle.rep_core.specs.declared.row.Row.{Row}
use Rattle.rep_core.proofs.Rows.{row_at, no_row, number_in-none, number_in-at}
use Rattle.rep_core.proofs.origins.Origins.get.Goals as goal

pub returns-in_default : goal.returns-in_default
returns-in_default c =
    sym (number_in-none c.args.self.now c.args.origin c.args.seq (no_row c.args.self.now c.args.origin (sym c.place.ensures ∙ c.in_default.is)))

pub returns : goal.returns
returns c =
    let at = row_at c.args.self.now c.args.origin c.in-Some.place (sym c.place.ensures ∙ c.in-Some.is) in
    c.get.ensures
    ∙ ap (λ (row : Row). number_of row.numbers.pairs c.args.seq) (c.index.ensures ∙ ap (λ (rows : List Row). get_or rows c.in-Some.place c.index.result.now) c.self.view_is)
    ∙ sym (number_in-at c.args.self.now c.args.origin c.args.seq c.in-Some.place c.index.result.now at)
