-- what is told, and what isn't
use Rattle.std.proofs.Common.{◌≡◌, ℕ, ◌+◌, ◌<◌, List, ◌++◌, length, Option, Some, None, Result, Ok, Err, refl, sym, ap, subst, ◌∙◌, append-nil, length-append, arith}
use Rattle.std.specs.Prelude.{IfSome, IsSome}
use Rattle.std.specs.Io.KnownBytes.{prepend_known, IsAtEnd}
use Rattle.rep_io.specs.Lines.{longest_text}
use Rattle.rep_disk.specs.Disk.{Shown, Changes}
use Rattle.rep_journal.specs.State.{IsKeptBy}

pub if_some : (P : List ℕ → Type 0) (o : Option (List ℕ)) → ((x : List ℕ) → o ≡ Some x → P x) → IfSome o P
if_some P None each = tt
if_some P (Some x) each = each x refl

pub use_some : (P : List ℕ → Type 0) (o : Option (List ℕ)) (x : List ℕ) → o ≡ Some x → IfSome o P → P x
use_some P o x is holds = subst (λ (p : Option (List ℕ)). IfSome p P) is holds

pub map_some : (P Q : List ℕ → Type 0) (o : Option (List ℕ)) → ((x : List ℕ) → P x → Q x) → IfSome o P → IfSome o Q
map_some P Q None each holds = tt
map_some P Q (Some x) each holds = each x holds

-- all that was left was read
pub whole_text : (bytes text : List ℕ) (old new : Option (List ℕ)) → old ≡ prepend_known bytes new → IsAtEnd new → old ≡ Some text → bytes ≡ text
whole_text bytes text old None is ended told = absurd cc
whole_text bytes text old (Some rest) is ended told =
    let same : bytes ++ rest ≡ text = cc in
    sym (append-nil bytes) ∙ ap (λ (r : List ℕ). bytes ++ r) (sym ended) ∙ same

-- one byte more than a text may have was read
pub past_room : (bytes text : List ℕ) (old new : Option (List ℕ)) → length bytes ≡ longest_text + 1 → old ≡ prepend_known bytes new → old ≡ Some text → longest_text < length text
past_room bytes text old None size is told = absurd cc
past_room bytes text old (Some rest) size is told =
    let same : bytes ++ rest ≡ text = cc in
    omega (arith, ap length same, length-append bytes rest)

pub err_is : {T E : Type 0} {r : Result T E} {a b : E} → r ≡ Err a → a ≡ b → r ≡ Err b
err_is is same = is ∙ ap Err same

pub same_err : {T E : Type 0} (r : Result T E) (a b : E) → r ≡ Err a → r ≡ Err b → a ≡ b
same_err r a b one two = cc

pub same_ok : {T E : Type 0} (r : Result T E) (a b : T) → r ≡ Ok a → r ≡ Ok b → a ≡ b
same_ok r a b one two = cc

pub not_both : {T E : Type 0} {r : Result T E} {a : T} {b : E} → r ≡ Ok a → r ≡ Err b → ⊥
not_both one two = absurd cc

-- changes of contents, one after another
pub Changes-map : (P Q : List ℕ → List ℕ → Type 0) (old new : Option (List ℕ)) → ((was now : List ℕ) → old ≡ Some was → P was now → Q was now) → Changes P old new → Changes Q old new
Changes-map P Q None None each changes = tt
Changes-map P Q None (Some now) each changes = changes
Changes-map P Q (Some was) None each changes = changes
Changes-map P Q (Some was) (Some now) each changes = each was now refl changes

pub Changes-behind : (P : List ℕ → List ℕ → Type 0) (Q R : List ℕ → Type 0) (old mid new : Option (List ℕ)) → ((now : List ℕ) → Q now → R now) → Changes P old mid → Changes (λ _ now. Q now) mid new → Changes (λ _ now. R now) old new
Changes-behind P Q R None None None each one two = tt
Changes-behind P Q R None None (Some now) each one two = two
Changes-behind P Q R None (Some mid) new each one two = absurd one
Changes-behind P Q R (Some was) None new each one two = absurd one
Changes-behind P Q R (Some was) (Some mid) None each one two = two
Changes-behind P Q R (Some was) (Some mid) (Some now) each one two = each now two

-- contents that stay
pub Changes-stay : (Q : List ℕ → Type 0) (old new : Option (List ℕ)) → new ≡ old → IfSome old Q → Changes (λ _ now. Q now) old new
Changes-stay Q None None same holds = tt
Changes-stay Q None (Some now) same holds = absurd cc
Changes-stay Q (Some was) None same holds = absurd cc
Changes-stay Q (Some was) (Some now) same holds = let is : was ≡ now = cc in subst Q is holds

pub Changes-same : (P : List ℕ → List ℕ → Type 0) (old mid new : Option (List ℕ)) → Changes P old mid → new ≡ mid → Changes P old new
Changes-same P old mid new changes same = subst (λ (o : Option (List ℕ)). Changes P old o) (sym same) changes

-- one change of contents behind another, through what they were between
pub Changes-through : (P Q : List ℕ → List ℕ → Type 0) (old mid new : Option (List ℕ)) → Changes P old mid → Changes Q mid new → Changes (λ was now. (between : List ℕ) × P was between × Q between now) old new
Changes-through P Q None None None one two = tt
Changes-through P Q None None (Some now) one two = absurd two
Changes-through P Q None (Some mid) new one two = absurd one
Changes-through P Q (Some was) None new one two = absurd one
Changes-through P Q (Some was) (Some mid) None one two = absurd two
Changes-through P Q (Some was) (Some mid) (Some now) one two = (mid, one, two)

pub told_on : (P : List ℕ → List ℕ → Type 0) (old new : Option (List ℕ)) → Changes P old new → IsSome old → IsSome new
told_on P None new changes told = absurd cc
told_on P (Some was) None changes told = absurd changes
told_on P (Some was) (Some now) changes told = refl

-- a disk that stays
pub kept_same : (s : Shown) → IsKeptBy s s
kept_same s = record {
  contents = refl;
  later = omega arith;
  crash = λ below. record {
    past = λ m image within. (λ leaves. leaves, λ leaves. leaves);
    images = λ m image after within. absurd (omega arith);
    settles = λ m later image after on within. absurd (omega arith);
  };
  own = (λ own. own, λ own. own);
  faults = omega arith;
}
