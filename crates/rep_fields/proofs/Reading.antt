-- What a strict reader answers at what was written.
use Rattle.std.proofs.Common.{◌≡◌, ℕ, List, Option, Some, None, sym, ◌∙◌, ap}
use Rattle.rep_fields.specs.Decoding.{DecodesBy, Decodes, TellsApart}

-- bytes that are written for one value alone are read as that value
pub DecodesBy-found : {V : Type 0} (IsValue : V → Type 0) (IsWritten : V → List ℕ → Type 0) (bytes : List ℕ)
    (result : Option V) (v : V) → ((w : V) → IsValue w → IsWritten w bytes → w ≡ v) → IsValue v → IsWritten v bytes
    → DecodesBy IsValue IsWritten bytes result → result ≡ Some v
DecodesBy-found IsValue IsWritten bytes (Some w) v alone valid written read = ap Some (alone w read.0 read.1)
DecodesBy-found IsValue IsWritten bytes None v alone valid written none = absurd (none v valid written)

pub Decodes-found : {V : Type 0} (IsValue : V → Type 0) (text : V → List ℕ) (bytes : List ℕ) (result : Option V) (v : V)
    → TellsApart IsValue text → IsValue v → bytes ≡ text v → Decodes IsValue text bytes result → result ≡ Some v
Decodes-found IsValue text bytes result v apart valid written read =
    DecodesBy-found IsValue (λ w bs. bs ≡ text w) bytes result v (λ w ok is. apart w v ok valid (sym is ∙ written)) valid written read
