-- what holds of objects holds of those that they are
use Rattle.std.proofs.Common.{◌≡◌, subst}

pub moved_three : {A B C : Type 0} (P : A → B → C → Type 0) {a a' : A} {b b' : B} {c c' : C} → a ≡ a' → b ≡ b' → c ≡ c' → P a b c → P a' b' c'
moved_three P {a} {a'} {b} {b'} {c} {c'} p q r held =
    subst (λ x. P a' b' x) r (subst (λ x. P a' x c) q (subst (λ x. P x b c) p held))

pub moved_five : {A B C D E : Type 0} (P : A → B → C → D → E → Type 0) {a a' : A} {b b' : B} {c c' : C} {d d' : D} {e e' : E}
    → a ≡ a' → b ≡ b' → c ≡ c' → d ≡ d' → e ≡ e' → P a b c d e → P a' b' c' d' e'
moved_five P {a} {a'} {b} {b'} {c} {c'} {d} {d'} {e} {e'} p q r s t held =
    subst (λ x. P a' b' c' d' x) t (subst (λ x. P a' b' c' x e) s (moved_three (λ x y z. P x y z d e) p q r held))

pub moved_two : {A B : Type 0} (P : A → B → Type 0) {a a' : A} {b b' : B} → a ≡ a' → b ≡ b' → P a b → P a' b'
moved_two P {a} {a'} {b} {b'} p q held = subst (λ x. P a' x) q (subst (λ x. P x b) p held)

pub moved_four : {A B C D : Type 0} (P : A → B → C → D → Type 0) {a a' : A} {b b' : B} {c c' : C} {d d' : D} → a ≡ a' → b ≡ b' → c ≡ c' → d ≡ d' → P a b c d → P a' b' c' d'
moved_four P {a} {a'} {b} {b'} {c} {c'} {d} {d'} p q r s held =
    subst (λ x. P a' b' c' x) s (moved_three (λ x y z. P x y z d) p q r held)
