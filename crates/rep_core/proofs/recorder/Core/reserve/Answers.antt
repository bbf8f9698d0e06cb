use Rattle.rep_core.proofs.recorder.Core.reserve.Goals as goal

pub invariant_of-self-in_err-reserve-3 : goal.invariant_of-self-in_err-reserve-3
invariant_of-self-in_err-reserve-3 c =
    rw (c.reserve.ensures.items, c.reserve-2.ensures.items)
    (c.self.invariant.0, c.self.invariant.1, c.reserve-3.ensures.same c.self.inside.entries.items c.self.invariant.2)

pub invariant_of-self-2 : goal.invariant_of-self-2
invariant_of-self-2 c =
    rw (c.reserve.ensures.items, c.reserve-2.ensures.items)
    (c.self.invariant.0, c.self.invariant.1, c.reserve-3.ensures.same c.self.inside.entries.items c.self.invariant.2)
