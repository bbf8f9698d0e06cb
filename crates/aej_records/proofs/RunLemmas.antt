-- A run of fields of one kind.
use Rattle.std.proofs.Common.{◌≡◌, ℕ, zero, suc, ◌+◌, ◌<◌, ◌≤◌, inl, inr, List, All, length, get_or, take, replicate, sym, ◌∙◌, subst, arith, get_or-take, length-take-le}
use Rattle.std.proofs.lemmas.List.{get_or_default}
use Rattle.aej_records.specs.Fields.{field_at}
use Rattle.aej_records.specs.Grammar.{FieldKind, IsField, IsFirstOff}

-- the fields from a place on, so many of them, are of the kind
abbrev pub AreOfKind : FieldKind → ℕ → ℕ → List (List ℕ) → Type 0
AreOfKind kind place count fields = (k : ℕ) → k < count → IsField kind (field_at (place + k) fields)

-- those behind the first are too
AreOfKind-behind : (kind : FieldKind) (place count : ℕ) (fields : List (List ℕ)) → AreOfKind kind place (suc count) fields
    → AreOfKind kind (place + 1) count fields
AreOfKind-behind kind place count fields fit = λ k within.
    let at : place + suc k ≡ place + 1 + k = omega arith in
    subst (λ n. IsField kind (field_at n fields)) at (fit (suc k) (omega arith))

AreOfKind-first : (kind : FieldKind) (place count : ℕ) (fields : List (List ℕ)) → AreOfKind kind place (suc count) fields
    → IsField kind (field_at place fields)
AreOfKind-first kind place count fields fit =
    let at : place + 0 ≡ place = omega arith in
    subst (λ n. IsField kind (field_at n fields)) at (fit 0 (omega arith))

-- the first field of a run that isn't of its kind
pub off_in_run : (kind : FieldKind) (place total count number : ℕ) (fields : List (List ℕ)) → count < total
    → AreOfKind kind place count fields → ¬ IsField kind (field_at (place + count) fields) → number ≡ place + count
    → IsFirstOff place (replicate total kind) fields number
off_in_run kind place zero count number fields within fit off is = absurd (omega arith)
off_in_run kind place (suc total) zero number fields within fit off is =
    let at : place + 0 ≡ place = omega arith in
    inl (subst (λ n. ¬ IsField kind (field_at n fields)) at off, is ∙ at)
off_in_run kind place (suc total) (suc count) number fields within fit off is =
    let at : place + suc count ≡ place + 1 + count = omega arith in
    inr (
      AreOfKind-first kind place count fields fit,
      off_in_run kind (place + 1) total count number fields (omega arith)
          (AreOfKind-behind kind place count fields fit) (subst (λ n. ¬ IsField kind (field_at n fields)) at off) (is ∙ at),
    )

-- a field behind the run
pub past_run : (kind : FieldKind) (place total number : ℕ) (fields : List (List ℕ)) → AreOfKind kind place total fields
    → place + total ≤ length fields → number ≡ place + total → IsFirstOff place (replicate total kind) fields number
past_run kind place zero number fields fit more is = (omega arith, is ∙ omega arith)
past_run kind place (suc total) number fields fit more is =
    inr (
      AreOfKind-first kind place total fields fit,
      past_run kind (place + 1) total number fields
          (AreOfKind-behind kind place total fields fit) (omega arith) (is ∙ omega arith),
    )

-- each of the first elements is so
pub All-taken : (P : ℕ → Type 0) (xs : List ℕ) (count : ℕ) → count ≤ length xs
    → ((k : ℕ) → k < count → P (get_or xs k 0)) → All P (take count xs)
All-taken P xs count within each = λ k d inside.
    let size = length-take-le count xs within in
    let short : k < count = omega (arith, size) in
    let here : get_or (take count xs) k d ≡ get_or xs k 0 =
    get_or-take count xs k d short ∙ get_or_default xs k d 0 (omega arith) in
    subst P (sym here) (each k short)

-- and there is none behind a run that ends the line
pub no_field_past_run : (kind : FieldKind) (place total number : ℕ) (fields : List (List ℕ)) → AreOfKind kind place total fields
    → length fields < place + total → IsFirstOff place (replicate total kind) fields number → ⊥
no_field_past_run kind place zero number fields fit few off = omega (arith, off.0)
no_field_past_run kind place (suc total) number fields fit few (inl here) = here.0 (AreOfKind-first kind place total fields fit)
no_field_past_run kind place (suc total) number fields fit few (inr behind) =
    no_field_past_run kind (place + 1) total number fields (AreOfKind-behind kind place total fields fit) (omega arith) behind.1
