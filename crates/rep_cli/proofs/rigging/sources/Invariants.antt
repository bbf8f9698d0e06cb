use Rattle.std.proofs.Common.{◌≡◌, map, take, string_bytes}
use Rattle.rep_cli.specs.Paths.{word_at}
use Rattle.rep_cli.proofs.rigging.sources.Given as goal

abbrev pub invariant-loop-place : goal.invariant-loop-place
invariant-loop-place g l = map (λ s. s.path.now) l.sources.items ≡ map (word_at (map string_bytes l.words)) (take l.place-index l.places)
