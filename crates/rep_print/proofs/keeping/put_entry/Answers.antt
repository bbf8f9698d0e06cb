use Rattle.std.proofs.Common.{inl}
use Rattle.rep_print.proofs.KeepLemmas.{frames-recorded}
use Rattle.rep_print.proofs.keeping.put_entry.Goals as goal

pub frame_of-frame-requires-clause-asked : goal.frame_of-frame-requires-clause-asked
frame_of-frame-requires-clause-asked c = inl c.requires.asked

pub accept_line-requires-clause-asked : goal.accept_line-requires-clause-asked
accept_line-requires-clause-asked c = inl c.requires.asked

pub returns-clause-frames : goal.returns-clause-frames
returns-clause-frames c is =
    frames-recorded c.args.core.now c.accept_line.new.self c.args.q.now c.args.now c.frame_of-frame.result c.args.journal.now.frames c.put.new.self.frames
    c.frame_of-frame.ensures c.put.ensures c.accept_line.ensures.recorded is
