use Rattle.std.specs.Option.{option_copied}
use Rattle.rep_wire.specs.Fields.{fields_behind}
use Rattle.rep_drill.proofs.Lines.{crash_call, crash_image, crash_k, crash_minute, crash_none, crash_number, crash_says}
use Rattle.rep_drill.proofs.schedule.read_crash.Goals as goal

pub returns-in_default : goal.returns-in_default
returns-in_default c = crash_none (fields_behind (option_copied c.args.fields)) c.in_default.ensures

pub returns-in_default-three : goal.returns-in_default-three
returns-in_default-three c =
    crash_number (fields_behind (option_copied c.args.fields)) c.in-Some.k.now (fields_behind (option_copied c.in-Some.rest)) c.in-Some.ensures c.in_default-three.ensures

pub returns-in_default-message_of : goal.returns-in_default-message_of
returns-in_default-message_of c =
    crash_k (fields_behind (option_copied c.args.fields)) (fields_behind (option_copied c.in-Some.rest)) c.in-Some.k.now c.in-Some-three.minute.now c.in-Some-three.call.now c.in-Some-three.image.now
    c.in-Some.ensures c.in-Some-three.ensures c.in_default-message_of.ensures

pub returns-in_default-minute_of : goal.returns-in_default-minute_of
returns-in_default-minute_of c =
    crash_minute (fields_behind (option_copied c.args.fields)) (fields_behind (option_copied c.in-Some.rest)) c.in-Some.k.now c.in-Some-three.minute.now c.in-Some-three.call.now c.in-Some-three.image.now
    c.in-Some.ensures c.in-Some-three.ensures c.in_default-minute_of.ensures

pub returns-in_default-call_of : goal.returns-in_default-call_of
returns-in_default-call_of c =
    crash_call (fields_behind (option_copied c.args.fields)) (fields_behind (option_copied c.in-Some.rest)) c.in-Some.k.now c.in-Some-three.minute.now c.in-Some-three.call.now c.in-Some-three.image.now
    c.in-Some.ensures c.in-Some-three.ensures c.in_default-call_of.ensures

pub returns-in_default-image_of : goal.returns-in_default-image_of
returns-in_default-image_of c =
    crash_image (fields_behind (option_copied c.args.fields)) (fields_behind (option_copied c.in-Some.rest)) c.in-Some.k.now c.in-Some-three.minute.now c.in-Some-three.call.now c.in-Some-three.image.now
    c.in-Some.ensures c.in-Some-three.ensures c.in_default-image_of.ensures

pub returns : goal.returns
returns c =
    crash_says (fields_behind (option_copied c.args.fields)) (fields_behind (option_copied c.in-Some.rest)) c.in-Some.k.now c.in-Some-three.minute.now c.in-Some-three.call.now c.in-Some-three.image.now
    c.in-Some.ensures c.in-Some-three.ensures c.in-Some-message_of.k c.in-Some-minute_of.minute c.in-Some-call_of.call c.in-Some-image_of.image
    c.in-Some-message_of.ensures c.in-Some-minute_of.ensures c.in-Some-call_of.ensures c.in-Some-image_of.ensures.1
