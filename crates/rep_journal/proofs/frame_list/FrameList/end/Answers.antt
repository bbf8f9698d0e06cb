use Rattle.std.proofs.Common.{arith}
use Rattle.rep_journal.proofs.ListLemmas.{within_end}
use Rattle.rep_journal.proofs.frame_list.FrameList.end.Goals as goal

pub returns-clause-within : goal.returns-clause-within
returns-clause-within c =
    let within = within_end c.self.inside.frames.items c.self.invariant.well_formed c.self.invariant.limit in
    let ends = c.self.invariant.ends in
    omega arith
