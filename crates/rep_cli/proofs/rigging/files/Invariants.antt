use Rattle.std.proofs.Common.{◌≡◌, ℕ, ◌++◌, Some, map, take, string_bytes}
use Rattle.std.specs.Prelude.{option_map}
use Rattle.rep_cli.specs.Paths.{word_at}
use Rattle.rep_cli.proofs.rigging.files.Given as goal

abbrev pub invariant-loop-place : goal.invariant-loop-place
invariant-loop-place g l =
    map (λ s. option_map string_bytes s.path) l.files.items ≡ map (λ (place : ℕ). Some (word_at (map string_bytes l.words) place ++ l.ending)) (take l.place-index l.places)
