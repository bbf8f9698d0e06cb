use Rattle.rep_fields.proofs.Texts.{All-more_test, All-all_test}
use Rattle.afd_records.specs.Lenient.{IsHexDigit}
use Rattle.afd_records.proofs.loose_fields.all_hex.Goals as goal

pub loop-byte-preserved : goal.loop-byte-preserved
loop-byte-preserved c =
    All-more_test IsHexDigit c.args.bytes.now c.loop-byte.byte-index c.loop-byte.all c.is_hex_digit-all.result
    c.loop-byte-test.true c.loop-byte.invariant c.is_hex_digit-all.ensures

pub returns : goal.returns
returns c =
    All-all_test IsHexDigit c.args.bytes.now c.loop-byte.byte-index c.loop-byte.all c.loop-byte-test.false
    c.loop-byte.invariant
