use Rattle.std.specs.Option.{option_copied}
use Rattle.rep_wire.specs.Fields.{fields_behind}
use Rattle.rep_drill.proofs.Lines.{deliver_k, deliver_lost, deliver_minute, deliver_number, deliver_says}
use Rattle.rep_drill.proofs.schedule.read_deliver.Goals as goal

pub returns-in_default : goal.returns-in_default
returns-in_default c = deliver_number (fields_behind (option_copied c.args.fields)) c.in_default.ensures

pub returns-in_default-message_of : goal.returns-in_default-message_of
returns-in_default-message_of c =
    deliver_k (fields_behind (option_copied c.args.fields)) c.in-Some.k.now c.in-Some.minute.now c.in-Some.lost.now c.in-Some.ensures c.in_default-message_of.ensures

pub returns-in_default-minute_of : goal.returns-in_default-minute_of
returns-in_default-minute_of c =
    deliver_minute (fields_behind (option_copied c.args.fields)) c.in-Some.k.now c.in-Some.minute.now c.in-Some.lost.now c.in-Some.ensures c.in_default-minute_of.ensures

pub returns-in_default-lost_of : goal.returns-in_default-lost_of
returns-in_default-lost_of c =
    deliver_lost (fields_behind (option_copied c.args.fields)) c.in-Some.k.now c.in-Some.minute.now c.in-Some.lost.now c.in-Some.ensures c.in_default-lost_of.ensures

pub returns : goal.returns
returns c =
    deliver_says (fields_behind (option_copied c.args.fields)) c.in-Some.k.now c.in-Some.minute.now c.in-Some.lost.now c.in-Some.ensures
    c.in-Some-message_of.k c.in-Some-minute_of.minute c.in-Some-lost_of.lost c.in-Some-message_of.ensures c.in-Some-minute_of.ensures c.in-Some-lost_of.ensures.1
