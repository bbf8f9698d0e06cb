-- A write and its sync.
use Rattle.std.proofs.Common.{◌≡◌, inl, inr, ℕ, List, Some, None, Option, Ok, Err, Result, refl, sym, ◌∙◌, arith}
use Rattle.std.specs.Prelude.{IfSome, OnOk, option_map}
use Rattle.std.proofs.lemmas.Bool.{cases_lt}
use Rattle.rep_disk.specs.Disk.{Advances, ByName, Moves, NamesBy, Opens, OpensUntil, Renames, RenamesSurely, Same, Shown, as_named}
use Rattle.rep_disk.specs.declared.image.Image.{Image}
use Rattle.rep_journal.specs.Putting.{NamesContents, NamesUntilSure, OpensUntilSure}

-- a step that changes no name
as_it_was : (name : Image) (was : Option (List ℕ)) → option_map (as_named name) was ≡ was
as_it_was name None = refl
as_it_was name (Some bytes) = refl

-- where the sync was made, or failed
module _ {E : Type 0} (old mid new : Shown) (result : Result (Unit {0}) E) (one : Advances old.moment mid.moment) (two : Advances mid.moment new.moment) where
  pub opens_on : (step : List ℕ → List ℕ → Type 0) → Opens step old mid → Moves Same mid new → OpensUntil mid new result → OpensUntilSure step old new result
  opens_on step opens moves until before m was image after to within leaves stepped = elim (cases_lt mid.moment m) [
    | inl behind ↦ until before m image behind to within (opens (omega arith) mid.moment was image (omega arith) (omega arith) leaves stepped)
    | inr ahead ↦ ((moves before).past m image ahead).1 (opens (omega arith) m was image after ahead leaves stepped)
  ]

  pub names_on : (step : ByName) → Renames step old mid → RenamesSurely mid new result → NamesUntilSure step old new result
  names_on step renames surely before m after to within = λ name. elim (cases_lt mid.moment m) [
    | inl behind ↦ (surely before).within m behind to within name ∙ as_it_was name (mid.named name mid.moment) ∙ (renames (omega arith)).now mid.moment (omega arith) (omega arith) name
    | inr ahead ↦ (surely before).past m ahead name ∙ as_it_was name (mid.named name m) ∙ (renames (omega arith)).now m after ahead name
  ]

-- after a sync that succeeded
named_is : (bytes image : List ℕ) (was : Option (List ℕ)) → Some image ≡ option_map (λ (l : List ℕ). bytes) was → image ≡ bytes
named_is bytes image None e = absurd (cc)
named_is bytes image (Some l) e = cc

all_named : (mid new : Shown) (contents : Option (List ℕ)) → IfSome contents (λ bytes. NamesBy (λ name was. bytes) mid mid.moment new new.moment)
    → IfSome contents (λ bytes. (name : Image) (image : List ℕ) → new.named name new.moment ≡ Some image → image ≡ bytes)
all_named mid new None names = tt
all_named mid new (Some bytes) names = λ name image e. named_is bytes image (mid.named name mid.moment) (sym e ∙ names name)

pub named_surely : {E : Type 0} (mid new : Shown) (result : Result (Unit {0}) E) → RenamesSurely mid new result → OnOk result (NamesContents new)
named_surely mid new (Ok v) surely = λ before. all_named mid new new.contents (surely before).after
named_surely mid new (Err e) surely = tt
