use Rattle.aej_records.proofs.value.read_stamp.Goals as goal

pub returns-in_default : goal.returns-in_default
returns-in_default c = λ moment in_range said.
    c.in_default.ensures (record { moment = moment; odd = said.0 }) in_range said.1
