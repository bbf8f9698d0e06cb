use Rattle.toml_fields.proofs.Spelled.{IsFrontOf}
use Rattle.toml_fields.proofs.latin.read_latin.Given as goal

abbrev pub invariant-loop-c : goal.invariant-loop-c
invariant-loop-c g l = IsFrontOf g.row.N l.row l.yielded
