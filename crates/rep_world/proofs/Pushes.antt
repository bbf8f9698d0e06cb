-- A list after a push that was made, or wasn't.
use Rattle.std.proofs.Common.{◌≡◌, true, false, List, [], ◌∷◌, ◌++◌, Result, Ok, Err}
use Rattle.std.specs.Prelude.{if◌then◌else◌, is_err, is_ok}

pub pushed : {X U E : Type 0} (r : Result U E) (now old : List X) (x : X) → is_err r ≡ false → now ≡ (if is_ok r then old ++ x ∷ [] else old) → now ≡ old ++ x ∷ []
pushed (Ok u) now old x ok is = is
pushed (Err e) now old x ok is = absurd cc

pub not_pushed : {X U E : Type 0} (r : Result U E) (now old : List X) (x : X) → is_err r ≡ true → now ≡ (if is_ok r then old ++ x ∷ [] else old) → now ≡ old
not_pushed (Ok u) now old x failed is = absurd cc
not_pushed (Err e) now old x failed is = is
