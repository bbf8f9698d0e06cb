use Rattle.std.proofs.Common.{◌≡◌, ◌∙◌, sym, arith}
use Rattle.rep_fields.proofs.StampTexts.{day_text-injective}
use Rattle.rep_wire.proofs.value.read_last_day.Goals as goal

pub returns-then-last-first : goal.returns-then-last-first
returns-then-last-first c = λ day range said.
    let same : day ≡ c.in_ok-last.last =
    day_text-injective day c.in_ok-last.last range.0 c.in_ok-last.ensures.0 (sym said ∙ c.in_ok-last.ensures.1) in
    omega (arith, same, range.1, c.if-last-first.true, c.first.view_is, c.last.view_is)
