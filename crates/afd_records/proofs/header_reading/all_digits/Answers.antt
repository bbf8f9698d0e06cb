use Rattle.rep_fields.proofs.Texts.{All-more_test, All-all_test}
use Rattle.rep_fields.specs.Digits.{IsDigitByte}
use Rattle.afd_records.proofs.header_reading.all_digits.Goals as goal

pub loop-byte-preserved : goal.loop-byte-preserved
loop-byte-preserved c =
    All-more_test IsDigitByte c.args.bytes.now c.loop-byte.byte-index c.loop-byte.all c.is_digit-all.result
    c.loop-byte-test.true c.loop-byte.invariant c.is_digit-all.ensures

pub returns : goal.returns
returns c =
    All-all_test IsDigitByte c.args.bytes.now c.loop-byte.byte-index c.loop-byte.all c.loop-byte-test.false
    c.loop-byte.invariant
