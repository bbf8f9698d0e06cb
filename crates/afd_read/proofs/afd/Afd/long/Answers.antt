use Rattle.std.proofs.Common.{ℕ, List, length, ap}
use Rattle.std.specs.Prelude.{nat_lt}
use Rattle.afd_read.specs.Numbered.{run_at}
use Rattle.afd_read.proofs.AfdLemmas.{run_at_is}
use Rattle.afd_read.proofs.afd.Afd.long.Goals as goal

pub returns : goal.returns
returns c =
    ap (λ (line : List ℕ). nat_lt 512 (length line))
    (c.without_end.ensures.line (run_at c.args.self.now c.args.i) (run_at_is c.args.self.now c.args.i c.requires) c.run.ensures)
