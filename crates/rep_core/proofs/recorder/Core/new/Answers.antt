use Rattle.rep_core.proofs.Hashes.{IsInStep-empty}
use Rattle.rep_core.proofs.recorder.Core.new.Goals as goal

pub invariant_of-result : goal.invariant_of-result
invariant_of-result c = (c.requires, IsInStep-empty _ _ c.new.ensures.items c.new-3.ensures.items, rw c.new.ensures.items c.new-2.ensures)
