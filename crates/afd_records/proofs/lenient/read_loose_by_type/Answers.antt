use Rattle.std.proofs.Common.{ap}
use Rattle.afd_records.specs.Fields.{layout_of, employer_layout, adjust_layout, worker_layout, event_layout, clocking_layout}
use Rattle.afd_records.proofs.lenient.read_loose_by_type.Goals as goal

pub returns-in-50-eq331-clause-unknown : goal.returns-in-50-eq331-clause-unknown
returns-in-50-eq331-clause-unknown c none =
    absurd (none employer_layout (record { type = ap layout_of c.in-50-eq331.is-0; size = c.in-50-eq331.is-1 }))

pub returns-in-52-eq73-clause-unknown : goal.returns-in-52-eq73-clause-unknown
returns-in-52-eq73-clause-unknown c none =
    absurd (none adjust_layout (record { type = ap layout_of c.in-52-eq73.is-0; size = c.in-52-eq73.is-1 }))

pub returns-in-53-eq118-clause-unknown : goal.returns-in-53-eq118-clause-unknown
returns-in-53-eq118-clause-unknown c none =
    absurd (none worker_layout (record { type = ap layout_of c.in-53-eq118.is-0; size = c.in-53-eq118.is-1 }))

pub returns-in-54-eq36-clause-unknown : goal.returns-in-54-eq36-clause-unknown
returns-in-54-eq36-clause-unknown c none =
    absurd (none event_layout (record { type = ap layout_of c.in-54-eq36.is-0; size = c.in-54-eq36.is-1 }))

pub returns-in-55-eq137-clause-unknown : goal.returns-in-55-eq137-clause-unknown
returns-in-55-eq137-clause-unknown c none =
    absurd (none clocking_layout (record { type = ap layout_of c.in-55-eq137.is-0; size = c.in-55-eq137.is-1 }))
