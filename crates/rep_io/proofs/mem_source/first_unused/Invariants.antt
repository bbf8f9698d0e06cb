use Rattle.std.proofs.Common.{◌≡◌, ◌-◌, length}
use Rattle.rep_io.specs.MemSource.{from_unused, pieces_from, IsPlace}
use Rattle.rep_io.proofs.mem_source.first_unused.Given as goal

abbrev pub invariant-loop-piece : goal.invariant-loop-piece
invariant-loop-piece l =
    (from_unused (pieces_from l.pieces l.piece l.at) ≡ from_unused (pieces_from l.pieces l.initial.piece l.initial.at))
    × IsPlace l.pieces l.piece l.at

abbrev pub decreases-loop-piece : goal.decreases-loop-piece
decreases-loop-piece l = length l.pieces - l.piece
