use Rattle.std.proofs.Common.{length, ap, arith}
use Rattle.rep_io.specs.Lines.{runs_of}
use Rattle.afd_read.proofs.RunLemmas.{length-bounds}
use Rattle.afd_read.proofs.index.run_between.Goals as goal

pub bounds_at-start-requires-clause-room : goal.bounds_at-start-requires-clause-room
bounds_at-start-requires-clause-room c =
    omega (arith, ap length c.requires.indexed, length-bounds 0 (runs_of c.args.text.now), c.requires.within)
