use Rattle.std.proofs.Common.{arith}
use Rattle.std.specs.Option.{option_copied}
use Rattle.rep_wire.specs.Fields.{fields_behind}
use Rattle.rep_drill.proofs.Lines.{extract_from, extract_minute, extract_number, extract_order, extract_to}
use Rattle.rep_drill.proofs.schedule.read_extract.Goals as goal

pub returns-in_default : goal.returns-in_default
returns-in_default c = extract_number (fields_behind (option_copied c.args.fields)) c.in_default.ensures

pub returns-in_default-read : goal.returns-in_default-read
returns-in_default-read c =
    extract_from (fields_behind (option_copied c.args.fields)) c.in-Some.first.now c.in-Some.last.now c.in-Some.minute.now c.in-Some.ensures c.in_default-read.ensures

pub returns-in_default-read-2 : goal.returns-in_default-read-2
returns-in_default-read-2 c =
    extract_to (fields_behind (option_copied c.args.fields)) c.in-Some.first.now c.in-Some.last.now c.in-Some.minute.now c.in-Some.ensures c.in_default-read-2.ensures

pub returns-in_default-minute_of : goal.returns-in_default-minute_of
returns-in_default-minute_of c =
    extract_minute (fields_behind (option_copied c.args.fields)) c.in-Some.first.now c.in-Some.last.now c.in-Some.minute.now c.in-Some.ensures c.in_default-minute_of.ensures

pub returns-then-to-from : goal.returns-then-to-from
returns-then-to-from c =
    extract_order (fields_behind (option_copied c.args.fields)) c.in-Some.first.now c.in-Some.last.now c.in-Some.minute.now c.in-Some.ensures c.in-Some-read.from c.in-Some-read-2.to
    c.in-Some-read.ensures c.in-Some-read-2.ensures (omega (arith, c.if-to-from.true, c.from.view_is, c.to.view_is))
