use Rattle.rep_wire.specs.Fields.{fields_of}
use Rattle.rep_wire.proofs.FieldLemmas.{fields_of-some}
use Rattle.rep_drill.proofs.Lines.{reopens_none}
use Rattle.rep_drill.proofs.schedule.read_reopen.Goals as goal

pub returns-in-Some : goal.returns-in-Some
returns-in-Some c = rw c.in-Some.is (reopens_none (fields_of c.in-Some.field-0.now) (fields_of-some c.in-Some.field-0.now))
