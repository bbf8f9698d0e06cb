-- bytes that are told, one behind the other
use Rattle.std.proofs.Common.{◌≡◌, ◌≢◌, ℕ, ◌<◌, ◌-◌, List, [], ◌++◌, length, drop, Option, Some, None, refl, ap, append_assoc, append-nil, length-drop, arith}
use Rattle.std.specs.Io.KnownBytes.{append_known}

pub append_known-nil : (o : Option (List ℕ)) → append_known o [] ≡ o
append_known-nil None = refl
append_known-nil (Some xs) = ap Some (append-nil xs)

pub append_known-append : (o : Option (List ℕ)) (a b : List ℕ) → append_known (append_known o a) b ≡ append_known o (a ++ b)
append_known-append None a b = refl
append_known-append (Some xs) a b = ap Some (append_assoc xs a b)

-- what is left behind fewer bytes than there are
pub drop_some : (n : ℕ) (xs : List ℕ) → n < length xs → drop n xs ≢ []
drop_some n xs less none =
    let size : length (drop n xs) ≡ length xs - n = length-drop n xs in
    let nothing : length (drop n xs) ≡ 0 = ap length none in
    omega arith
