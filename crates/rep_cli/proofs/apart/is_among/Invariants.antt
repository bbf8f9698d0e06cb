use Rattle.std.proofs.Common.{take}
use Rattle.std.specs.Prelude.{All}
use Rattle.rep_cli.specs.Apart.{IsSame}
use Rattle.rep_cli.proofs.apart.is_among.Given as goal

abbrev pub invariant-loop-other : goal.invariant-loop-other
invariant-loop-other l = All (λ other. ¬ IsSame l.place other) (take l.other-index l.others)
