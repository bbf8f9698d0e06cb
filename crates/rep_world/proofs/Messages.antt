-- A message found by its number.
use Rattle.std.proofs.Common.{◌≡◌, inr, ℕ, zero, suc, List, [], ◌∷◌, length, Option, Some, None, refl, sym, ap, subst, arith}
use Rattle.std.specs.Prelude.{All, Contains, MatchOption, slice_get}
use Rattle.std.specs.Borrow.{Bor}
use Rattle.std.specs.Slice.{IsItemAt}
use Rattle.std.proofs.lemmas.Option.{slice_get_read}
use Rattle.std.proofs.lemmas.List.Elements.{All-contains, Contains-append_right}
use Rattle.rep_wire.specs.Request.{IsRequest}
use Rattle.rep_wire.specs.declared.request.Request.{Request}
use Rattle.rep_world.specs.World.{IsMessage}
use Rattle.rep_world.specs.Events.{IsUnsent}

same_found : (a b : Request) → Some a ≡ Some b → a ≡ b
same_found a b same = cc

message_at : (sent : List Request) (i : ℕ) (q : Request) → slice_get sent i ≡ Some q → IsMessage sent (suc i) q
message_at [] i q is = absurd cc
message_at (x ∷ sent) zero q is = record {
  before = [];
  behind = sent;
  split = ap (λ (o : Request). o ∷ sent) (same_found x q is);
  number = refl;
}
message_at (x ∷ sent) (suc i) q is =
    let m = message_at sent i q is in
    record {
      before = x ∷ m.before;
      behind = m.behind;
      split = ap (λ (qs : List Request). x ∷ qs) m.split;
      number = ap suc m.number;
    }

pub message_by : (sent : List Request) (k i : ℕ) (r : Option (Bor Request)) → k ≡ suc i → IsItemAt sent i r → MatchOption r (IsUnsent sent k) (λ q. IsMessage sent k q.now)
message_by sent k i None number item = inr (omega (arith, number, item.3))
message_by sent k i (Some q) number item =
    subst (λ (n : ℕ). IsMessage sent n q.now) (sym number)
    (message_at sent i q.now (slice_get_read sent (length sent) i q.now refl item.3.0 item.1))

-- what was sent is a request
pub asked_of : (sent : List Request) (k : ℕ) (q : Request) → All IsRequest sent → IsMessage sent k q → IsRequest q
asked_of sent k q all m =
    All-contains IsRequest sent q all
    (subst (λ (qs : List Request). Contains qs q) (sym m.split) (Contains-append_right m.before (q ∷ m.behind) q (0, omega arith, refl)))
