use Rattle.std.specs.Option.{option_copied}
use Rattle.rep_wire.specs.Fields.{fields_behind}
use Rattle.rep_drill.proofs.Lines.{fail_call, fail_k, fail_minute, fail_number, fail_says}
use Rattle.rep_drill.proofs.schedule.read_fail.Goals as goal

pub returns-in_default : goal.returns-in_default
returns-in_default c = fail_number (fields_behind (option_copied c.args.fields)) c.in_default.ensures

pub returns-in_default-message_of : goal.returns-in_default-message_of
returns-in_default-message_of c =
    fail_k (fields_behind (option_copied c.args.fields)) c.in-Some.k.now c.in-Some.minute.now c.in-Some.call.now c.in-Some.ensures c.in_default-message_of.ensures

pub returns-in_default-minute_of : goal.returns-in_default-minute_of
returns-in_default-minute_of c =
    fail_minute (fields_behind (option_copied c.args.fields)) c.in-Some.k.now c.in-Some.minute.now c.in-Some.call.now c.in-Some.ensures c.in_default-minute_of.ensures

pub returns-in_default-call_of : goal.returns-in_default-call_of
returns-in_default-call_of c =
    fail_call (fields_behind (option_copied c.args.fields)) c.in-Some.k.now c.in-Some.minute.now c.in-Some.call.now c.in-Some.ensures c.in_default-call_of.ensures

pub returns : goal.returns
returns c =
    fail_says (fields_behind (option_copied c.args.fields)) c.in-Some.k.now c.in-Some.minute.now c.in-Some.call.now c.in-Some.ensures
    c.in-Some-message_of.k c.in-Some-minute_of.minute c.in-Some-call_of.call c.in-Some-message_of.ensures c.in-Some-minute_of.ensures c.in-Some-call_of.ensures
