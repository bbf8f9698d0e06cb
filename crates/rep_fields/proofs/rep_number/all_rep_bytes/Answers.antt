use Rattle.rep_fields.specs.Identity.{IsRepByte}
use Rattle.rep_fields.proofs.Texts.{All-more_test, All-all_test}
use Rattle.rep_fields.proofs.rep_number.all_rep_bytes.Goals as goal

pub loop-byte-preserved : goal.loop-byte-preserved
loop-byte-preserved c =
    All-more_test IsRepByte c.args.text.now c.loop-byte.byte-index c.loop-byte.all c.is_rep_byte-all.result
    c.loop-byte-test.true c.loop-byte.invariant c.is_rep_byte-all.ensures

pub returns : goal.returns
returns c =
    All-all_test IsRepByte c.args.text.now c.loop-byte.byte-index c.loop-byte.all c.loop-byte-test.false
    c.loop-byte.invariant
