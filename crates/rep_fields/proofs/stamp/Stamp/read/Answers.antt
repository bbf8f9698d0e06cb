use Rattle.std.proofs.Common.{w16, sym, arith, ◌∙◌}
use Rattle.jiff_core.proofs.SignedLemmas.{back_small}
use Rattle.rep_fields.proofs.StampTexts.{moment_parts, local_text-injective, stamp_found}
use Rattle.rep_fields.proofs.stamp.Stamp.read.Goals as goal

pub returns-then-text-ne24 : goal.returns-then-text-ne24
returns-then-text-ne24 c = λ moment in_range e. omega (arith, (moment_parts c.args.text.now moment e).size)

pub returns-in_default : goal.returns-in_default
returns-in_default c = λ moment in_range e.
    c.in_default.ensures (moment.local, 0) ((in_range.local, omega arith)) (moment_parts c.args.text.now moment e).local_is

pub returns-in_default-read_offset : goal.returns-in_default-read_offset
returns-in_default-read_offset c = λ moment in_range e.
    c.in_default-read_offset.ensures moment.offset in_range.offset (moment_parts c.args.text.now moment e).offset_is

pub returns-then-seconds-ne0 : goal.returns-then-seconds-ne0
returns-then-seconds-ne0 c = λ moment in_range e.
    let found = c.in-Some.ensures in
    let same = local_text-injective c.in-Some.local c.in-Some.seconds moment.local 0 found.0.0 in_range.local found.0.1 (omega arith) (sym found.1 ∙ (moment_parts c.args.text.now moment e).local_is) in
    c.if-seconds-ne0.true same.second_is

pub returns : goal.returns
returns c =
    let time = c.in-Some.ensures in
    let offset = c.in-Some-read_offset.ensures in
    stamp_found c.args.text.now c.in-Some.local c.in-Some.seconds c.in-Some-read_offset.offset _ (omega arith) time.0.0 time.1 offset.0 offset.1 c.if-seconds-ne0.false (back_small w16 c.in-Some-read_offset.offset (omega (arith, offset.0)))
