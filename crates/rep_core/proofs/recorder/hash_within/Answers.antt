use Rattle.std.proofs.Common.{sym, ◌∙◌, subst}
use Rattle.afd_records.specs.Record.{IsClocking}
use Rattle.rep_core.proofs.HashTexts.{hash_in_chunk}
use Rattle.rep_core.proofs.recorder.hash_within.Goals as goal

pub returns-in-Clocking : goal.returns-in-Clocking
returns-in-Clocking c = λ h is.
    c.copied.ensures
    ∙ hash_in_chunk h c.args.body.now c.args.line.now c.last_chunk.result (subst IsClocking (sym c.in-Clocking.is) tt) is c.last_chunk.ensures.cases
