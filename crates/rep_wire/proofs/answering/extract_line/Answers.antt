use Rattle.std.proofs.Common.{append_assoc, append-nil}
use Rattle.rep_wire.specs.Reply.{extract_text}
use Rattle.rep_wire.proofs.answering.extract_line.Goals as goal

pub returns : goal.returns
unfolding extract_text
returns c =
    rw (c.piece_of.ensures, c.push_end.ensures, c.push_number.ensures.value, c.push_head.ensures.value)
    (simp (append_assoc, append-nil))
