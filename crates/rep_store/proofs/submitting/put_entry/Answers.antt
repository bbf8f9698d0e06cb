use Rattle.std.proofs.Common.{inl}
use Rattle.rep_store.proofs.submitting.put_entry.Goals as goal

pub frame_of-frame-requires-clause-asked : goal.frame_of-frame-requires-clause-asked
frame_of-frame-requires-clause-asked g c = inl c.requires.asked
