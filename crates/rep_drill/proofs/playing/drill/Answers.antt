use Rattle.std.proofs.Common.{inl}
use Rattle.rep_drill.proofs.playing.drill.Goals as goal

pub returns-in-Ok-clause-drilled : goal.returns-in-Ok-clause-drilled
returns-in-Ok-clause-drilled g c =
    let b = c.in-Ok.ensures in
    inl (record { site = b.0; is_sample = b.1; first = c.in-Ok.world; begins = b.2; drills = c.drill_over.ensures.drilled })

pub returns-in-Ok-clause-complete : goal.returns-in-Ok-clause-complete
returns-in-Ok-clause-complete g c text is can no_source no_sink =
    c.drill_over.ensures.complete text is c.in-Ok.ensures.2.sent can no_source no_sink
