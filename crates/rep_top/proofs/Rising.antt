-- one of the objects failed, by its name
use Rattle.std.proofs.Common.{◌≡◌, ◌∙◌, ℕ, List, [], ◌∷◌, Option, Some, inl, inr, ap, sym, subst}
use Rattle.std.specs.Prelude.{map, option_map}
use Rattle.rep_io.specs.Causes.{Rose}
use Rattle.rep_top.specs.Program.{SomeRose, ThatRose}

pub one_rose : {A : Type 0} (faults : A → ℕ) (olds news : List A) (a b : A) → olds ≡ a ∷ [] → news ≡ b ∷ [] → Rose (faults a) (faults b) → SomeRose faults olds news
one_rose {A} faults olds news a b o n rose =
    subst (λ (l : List A). SomeRose faults l news) (sym o) (subst (λ (l : List A). SomeRose faults (a ∷ []) l) (sym n) (inl rose))

pub first_rose : {A : Type 0} (faults : A → ℕ) (olds news : List A) (a b c d : A) → olds ≡ a ∷ c ∷ [] → news ≡ b ∷ d ∷ [] → Rose (faults a) (faults b) → SomeRose faults olds news
first_rose {A} faults olds news a b c d o n rose =
    subst (λ (l : List A). SomeRose faults l news) (sym o) (subst (λ (l : List A). SomeRose faults (a ∷ c ∷ []) l) (sym n) (inl rose))

pub second_rose : {A : Type 0} (faults : A → ℕ) (olds news : List A) (a b c d : A) → olds ≡ a ∷ c ∷ [] → news ≡ b ∷ d ∷ [] → Rose (faults c) (faults d) → SomeRose faults olds news
second_rose {A} faults olds news a b c d o n rose =
    subst (λ (l : List A). SomeRose faults l news) (sym o) (subst (λ (l : List A). SomeRose faults (a ∷ c ∷ []) l) (sym n) (inr (inl rose)))

-- behind the output
pub file_rose : {A : Type 0} (faults : A → ℕ) (olds news : List A) (a b out out' : A) → olds ≡ a ∷ [] → news ≡ b ∷ [] → Rose (faults a) (faults b) → SomeRose faults (out ∷ olds) (out' ∷ news)
file_rose faults olds news a b out out' o n rose = inr (one_rose faults olds news a b o n rose)

pub that_rose : {A : Type 0} (faults : A → ℕ) (old new : Option A) (a b : A) → old ≡ Some a → new ≡ Some b → Rose (faults a) (faults b) → ThatRose faults old new
that_rose {A} faults old new a b o n rose =
    subst (λ (x : Option A). ThatRose faults x new) (sym o) (subst (λ (x : Option A). ThatRose faults (Some a) x) (sym n) rose)

-- where no object's count rose, the counts are as they were

pub one_kept : {A : Type 0} (faults : A → ℕ) (olds news : List A) (a b : A) → olds ≡ a ∷ [] → news ≡ b ∷ [] → faults b ≡ faults a → map faults news ≡ map faults olds
one_kept {A} faults olds news a b o n kept =
    ap (map faults) n ∙ (ap (λ (k : ℕ). k ∷ []) kept ∙ sym (ap (map faults) o))

pub two_kept : {A : Type 0} (faults : A → ℕ) (olds news : List A) (a b c d : A) → olds ≡ a ∷ c ∷ [] → news ≡ b ∷ d ∷ []
    → faults b ≡ faults a → faults d ≡ faults c → map faults news ≡ map faults olds
two_kept {A} faults olds news a b c d o n first second =
    ap (map faults) n ∙ (ap (λ (k : ℕ). k ∷ faults d ∷ []) first ∙ (ap (λ (k : ℕ). faults a ∷ k ∷ []) second ∙ sym (ap (map faults) o)))

pub that_kept : {A : Type 0} (faults : A → ℕ) (old new : Option A) (a b : A) → old ≡ Some a → new ≡ Some b → faults b ≡ faults a
    → option_map faults new ≡ option_map faults old
that_kept {A} faults old new a b o n kept =
    ap (option_map faults) n ∙ (ap (λ (k : ℕ). Some k) kept ∙ sym (ap (option_map faults) o))
