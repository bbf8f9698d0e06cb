use Rattle.std.proofs.Common.{sym, ◌∙◌, ◌==◌}
use Rattle.rep_fields.specs.Identity.{bar}
use Rattle.rep_wire.proofs.FieldLemmas.{cut-some, cut-none}
use Rattle.rep_drill.proofs.cutting.cut.Goals as goal

pub returns-in-Some : goal.returns-in-Some
returns-in-Some c =
    cut-some (λ byte. byte == bar) c.args.text.now c.in-Some.at (sym c.in-Some.is ∙ c.first_bar.ensures)

pub returns-in-None : goal.returns-in-None
returns-in-None c = cut-none (λ byte. byte == bar) c.args.text.now (sym c.in-None.is ∙ c.first_bar.ensures)
