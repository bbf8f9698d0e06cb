use Rattle.rep_wire.proofs.AskLemmas.{last_day_fault}
use Rattle.rep_wire.proofs.asking.read_period.Goals as goal

pub returns-in_default-read_last_day-clause-fault : goal.returns-in_default-read_last_day-clause-fault
returns-in_default-read_last_day-clause-fault c =
    last_day_fault _ c.in-Some.from.now c.in-Some.to.now c.in-Some-read.first c.in-Some.ensures
    c.in-Some-read.ensures.0 c.in-Some-read.ensures.1 c.in_default-read_last_day.ensures
