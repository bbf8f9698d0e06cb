use Rattle.std.proofs.Common.{All}
use Rattle.rep_io.specs.Streams.{IsReading}
use Rattle.rep_cases.proofs.given.readings_of.Given as goal

abbrev pub invariant-loop-minute : goal.invariant-loop-minute
invariant-loop-minute l = All IsReading l.readings.items
