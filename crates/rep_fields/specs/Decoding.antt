-- What a strict reader answers: this project's own word for all of them. A format is a function from a value in its
-- range to bytes, or a relation between the two. Its reader answers just the values that the bytes are written for.
use Rattle.std.specs.Prelude.{◌≡◌, ℕ, List, Option, Some, None}

-- the reader answers a value that is in the range and written so, and none only where there is none
abbrev pub DecodesBy : {V : Type 0} → (V → Type 0) → (V → List ℕ → Type 0) → List ℕ → Option V → Type 0
DecodesBy IsValue IsWritten bytes (Some v) = IsValue v × IsWritten v bytes
DecodesBy IsValue IsWritten bytes None = (v : _) → IsValue v → IsWritten v bytes → ⊥

-- the same where each value has one text
abbrev pub Decodes : {V : Type 0} → (V → Type 0) → (V → List ℕ) → List ℕ → Option V → Type 0
Decodes IsValue text bytes result = DecodesBy IsValue (λ v written. written ≡ text v) bytes result

-- different values in the range have different texts
abbrev pub TellsApart : {V : Type 0} → (V → Type 0) → (V → List ℕ) → Type 0
TellsApart IsValue text = (v w : _) → IsValue v → IsValue w → text v ≡ text w → v ≡ w
