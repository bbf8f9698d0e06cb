use Rattle.std.proofs.Common.{◌≡◌, take, refl, ◌∙◌}
use Rattle.rep_wire.specs.Reply.{reply_text}
use Rattle.rep_report.proofs.SayingLemmas.{cut_line}
use Rattle.rep_lane.proofs.answering.write_reply.Goals as goal

pub returns-in-Err-clause-writes : goal.returns-in-Err-clause-writes
returns-in-Err-clause-writes g c =
    let b = c.in-Err.ensures.bytes in
    let piece : c.bytes.result.now ≡ reply_text c.args.number c.args.seq c.args.reply.now = c.bytes.ensures.value ∙ c.reply_line.ensures in
    (take b.0 c.bytes.result.now, refl, b.2, cut_line (reply_text c.args.number c.args.seq c.args.reply.now) c.bytes.result.now b.0 piece b.1)
