use Rattle.std.proofs.Common.{arith, ap, length, get_or}
use Rattle.rep_fields.proofs.TimeTexts.{length-offset_text, offset_decoded, first_and_four}
use Rattle.rep_fields.proofs.offset.read_offset.Goals as goal

pub returns-then-text-ne5 : goal.returns-then-text-ne5
returns-then-text-ne5 c = λ offset in_range is. omega (arith, ap length is, length-offset_text offset)

pub returns : goal.returns
returns c =
    let text = c.args.text.now in
    let found = c.in-Some.ensures in
    offset_decoded text (get_or text 0 0) c.in-Some.minutes c.signed_offset.result (first_and_four text _ (omega arith) found.1) found.0 c.signed_offset.ensures
