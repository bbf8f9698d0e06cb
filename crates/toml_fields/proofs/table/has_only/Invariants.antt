use Rattle.std.proofs.Common.{map, string_bytes, Contains, All}
use Rattle.toml_fields.proofs.table.has_only.Given as goal

abbrev pub invariant-loop-key : goal.invariant-loop-key
invariant-loop-key l = All (λ key. Contains (map (λ known. known.now) l.keys) (string_bytes key.now)) l.yielded
