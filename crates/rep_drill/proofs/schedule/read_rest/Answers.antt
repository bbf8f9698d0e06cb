use Rattle.std.specs.Option.{option_copied}
use Rattle.rep_wire.specs.Fields.{fields_behind}
use Rattle.rep_drill.proofs.Lines.{rest_image, rest_number, rest_says}
use Rattle.rep_drill.proofs.schedule.read_rest.Goals as goal

pub returns-in_default : goal.returns-in_default
returns-in_default c = rest_number (fields_behind (option_copied c.args.fields)) c.in_default.ensures

pub returns-in_default-image_of : goal.returns-in_default-image_of
returns-in_default-image_of c = rest_image (fields_behind (option_copied c.args.fields)) c.in-Some.image.now c.in-Some.ensures c.in_default-image_of.ensures

pub returns : goal.returns
returns c = rest_says (fields_behind (option_copied c.args.fields)) c.in-Some.image.now c.in-Some.ensures c.in-Some-image_of.image c.in-Some-image_of.ensures.1
