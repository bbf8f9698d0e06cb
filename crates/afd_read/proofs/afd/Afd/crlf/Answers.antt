use Rattle.std.proofs.Common.{◌≡◌, false, sym, ◌∙◌}
use Rattle.afd_read.specs.Numbered.{run_at, is_long}
use Rattle.afd_read.proofs.AfdLemmas.{run_at_is}
use Rattle.afd_read.proofs.afd.Afd.crlf.Goals as goal

pub returns-else-long : goal.returns-else-long
returns-else-long c =
    let run = run_at c.args.self.now c.args.i in
    let short : is_long run ≡ false = sym c.long.ensures ∙ c.if-long.false in
    rw short (c.ends_in_return.ensures run (run_at_is c.args.self.now c.args.i c.requires) c.run.ensures)
