-- Bytes that are told, one behind the other.
use Rattle.std.proofs.Common.{◌≡◌, ℕ, List, ◌++◌, refl, ap, None, Some, append_assoc}
use Rattle.std.specs.Prelude.{Option}
use Rattle.std.specs.Io.KnownBytes.{prepend_known}

pub prepend_known-append : (xs ys : List ℕ) (o : Option (List ℕ)) → prepend_known (xs ++ ys) o ≡ prepend_known xs (prepend_known ys o)
prepend_known-append xs ys None = refl
prepend_known-append xs ys (Some z) = ap Some (append_assoc xs ys z)
