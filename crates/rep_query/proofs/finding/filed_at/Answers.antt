use Rattle.std.proofs.Common.{◌≡◌, ◌∙◌, None, Some, Err, ap, sym}
use Rattle.rep_query.proofs.finding.filed_at.Goals as goal

pub unreachable-requires-in-Err-Stopped : goal.unreachable-requires-in-Err-Stopped
unreachable-requires-in-Err-Stopped g c =
    let stopped = (c.slip.ensures.stopped c.in-Err-Stopped.field-0-0).0 (c.in-Err-Stopped.is ∙ ap Err c.in-Err-Stopped.field-0-is) in
    let no : None ≡ Some c.in-Err-Stopped.field-0-0 = sym c.requires.running ∙ stopped in
    absurd cc
