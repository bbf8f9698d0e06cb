use Rattle.std.proofs.Common.{w16, sym, arith, ◌∙◌}
use Rattle.jiff_core.proofs.SignedLemmas.{back_small}
use Rattle.rep_fields.proofs.StampTexts.{lenient_parts, lenient_found, odd_with_seconds, odd_without_seconds, local_text-injective}
use Rattle.rep_fields.proofs.stamp.Stamp.read_loose.Goals as goal
use Rattle.rep_fields.proofs.stamp.Stamp.read_loose.Goals.{then-seconds-ne0, else-seconds-ne0}

pub returns-then-text-ne24 : goal.returns-then-text-ne24
returns-then-text-ne24 c = λ lenient in_range written.
    omega (arith, (lenient_parts c.args.text.now lenient written.0 written.1 written.2).size)

pub returns-in_default : goal.returns-in_default
returns-in_default c = λ lenient in_range written.
    c.in_default.ensures (lenient.moment.local, written.0) ((in_range.local, omega (arith, written.2.in_minute)))
    (lenient_parts c.args.text.now lenient written.0 written.1 written.2).local_is

pub returns-then-seconds-ge60 : goal.returns-then-seconds-ge60
returns-then-seconds-ge60 c = λ lenient in_range written.
    let found = c.in-Some.ensures in
    let is = lenient_parts c.args.text.now lenient written.0 written.1 written.2 in
    let same = local_text-injective c.in-Some.local c.in-Some.seconds lenient.moment.local written.0 found.0.0 in_range.local found.0.1 (omega (arith, written.2.in_minute)) (sym found.1 ∙ is.local_is) in
    omega (arith, same.second_is, written.2.in_minute)

pub returns-in_default-get_loose_offset : goal.returns-in_default-get_loose_offset
returns-in_default-get_loose_offset c = λ lenient in_range written.
    c.in_default-get_loose_offset.ensures (lenient.moment.offset, written.1) ((in_range.offset, written.2.at_zero))
    (lenient_parts c.args.text.now lenient written.0 written.1 written.2).offset_is

pub returns : goal.returns
returns c =
    let time = c.in-Some.ensures in
    let offset = c.in-Some-get_loose_offset.ensures in
    let seconds = c.in-Some.seconds in
    let minus_zero = c.in-Some-get_loose_offset.minus_zero in
    lenient_found c.args.text.now c.in-Some.local seconds c.in-Some-get_loose_offset.offset _ minus_zero c.if-seconds-ne0.result (omega arith) time.0.0 c.if-seconds-ge60.false time.1 offset.0 offset.1
    (back_small w16 c.in-Some-get_loose_offset.offset (omega (arith, offset.0.0)))
    (elim c.if-seconds-ne0.branch [
      | then-seconds-ne0 w ↦ odd_with_seconds seconds minus_zero _ w.if-seconds-ne0.true w.result-is
      | else-seconds-ne0 w ↦ odd_without_seconds seconds minus_zero _ w.if-seconds-ne0.false w.result-is
    ])
