use Rattle.rep_fields.specs.Latin.{IsLatin}
use Rattle.rep_fields.proofs.Texts.{All-more_test, All-all_test}
use Rattle.rep_fields.proofs.latin.all_latin.Goals as goal

pub loop-byte-preserved : goal.loop-byte-preserved
loop-byte-preserved c =
    All-more_test IsLatin c.args.bytes.now c.loop-byte.byte-index c.loop-byte.all c.is_latin-all.result
    c.loop-byte-test.true c.loop-byte.invariant c.is_latin-all.ensures

pub returns : goal.returns
returns c =
    All-all_test IsLatin c.args.bytes.now c.loop-byte.byte-index c.loop-byte.all c.loop-byte-test.false
    c.loop-byte.invariant
