use Rattle.std.proofs.Common.{◌∙◌, ap, length}
use Rattle.rep_core.proofs.Standing.{Stands-own}
use Rattle.rep_print.proofs.desk.PrintDesk.count.Goals as goal

pub returns : goal.returns
returns g c = c.count.ensures.value c.self.inside.core.entries (Stands-own c.self.inside.core) ∙ ap (λ s. length s.history) c.self.view_is
