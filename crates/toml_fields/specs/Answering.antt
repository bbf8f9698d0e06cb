-- What a look-up answers: this project's own word for all of them.
use Rattle.std.specs.Prelude.{◌≡◌, ◌⊎◌, List, [], ◌∷◌, Option, Some, None}

-- a value of which the fact holds, and none only where it holds of no value
abbrev pub Finds : {V : Type 0} → (V → Type 0) → Option V → Type 0
Finds Is (Some value) = Is value
Finds Is None = (value : _) → Is value → ⊥

-- the first of the keys, in their order, that isn't sound
abbrev pub IsFirstOff : {K : Type 0} → (K → Type 0) → List K → K → Type 0
IsFirstOff IsSound [] first = ⊥
IsFirstOff IsSound (key ∷ keys) first =
    ((IsSound key → ⊥) × (first ≡ key)) ⊎ (IsSound key × IsFirstOff IsSound keys first)
