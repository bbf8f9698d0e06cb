use Rattle.std.proofs.Common.{append_assoc, append-nil}
use Rattle.rep_wire.specs.Reply.{reply_text}
use Rattle.rep_wire.proofs.answering.reply_line.Goals as goal

pub returns : goal.returns
unfolding reply_text
returns c =
    rw (c.piece_of.ensures, c.push_end.ensures, c.push_answer.ensures.value, c.push.ensures.value, c.push_head.ensures.value, ← c.letter_of.ensures)
    (simp (append_assoc, append-nil))
