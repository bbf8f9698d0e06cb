use Rattle.rep_wire.specs.Fields.{fields_of}
use Rattle.rep_drill.proofs.Events.{found_event, only_event}
use Rattle.rep_drill.proofs.schedule.read_event.Goals as goal

pub returns-clause-found : goal.returns-clause-found
returns-clause-found c = found_event (fields_of c.args.line.now) c.event_of.result c.event_of.ensures

pub returns-clause-only : goal.returns-clause-only
returns-clause-only c event says = only_event (fields_of c.args.line.now) c.event_of.result event c.event_of.ensures says
