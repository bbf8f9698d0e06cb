use Rattle.std.proofs.Common.{◌≡◌, map, take}
use Rattle.rep_cli.proofs.apart.kept_places.Given as goal

abbrev pub invariant-loop-text : goal.invariant-loop-text
invariant-loop-text g l = map (λ place. place.path.now) l.places.items ≡ map (λ s. s.path.now) (take l.text-index l.rig.texts.items)
