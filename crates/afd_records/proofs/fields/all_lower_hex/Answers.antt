use Rattle.rep_fields.proofs.Texts.{All-more_test, All-all_test}
use Rattle.afd_records.specs.Line.{IsLowerHex}
use Rattle.afd_records.proofs.fields.all_lower_hex.Goals as goal

pub loop-byte-preserved : goal.loop-byte-preserved
loop-byte-preserved c =
    All-more_test IsLowerHex c.args.bytes.now c.loop-byte.byte-index c.loop-byte.all c.is_lower_hex-all.result
    c.loop-byte-test.true c.loop-byte.invariant c.is_lower_hex-all.ensures

pub returns : goal.returns
returns c =
    All-all_test IsLowerHex c.args.bytes.now c.loop-byte.byte-index c.loop-byte.all c.loop-byte-test.false
    c.loop-byte.invariant
