-- What a reader of a field tells of the field: it is of its kind, or it isn't.
use Rattle.std.proofs.Common.{◌≡◌, ◌≢◌, ◌⊎◌, inl, inr, ℕ, ◌+◌, List, [], Bor, Option, Some, None, MatchOption, Result, Ok, Err, IfErr, IsErrAnd, refl, sym, ◌∙◌, subst}
use Rattle.rep_fields.specs.Employer.{kind_byte}
use Rattle.rep_fields.specs.declared.employer.EmployerId.{EmployerId}
use Rattle.rep_fields.specs.declared.employer.EmployerId.TheVariants.{Cnpj, Person}
use Rattle.aej_records.specs.Fields.{field_at}
use Rattle.aej_records.specs.Grammar.{IsSpelled, IsField, IsOwnerKind, owner_kind_field, owner_field}
use Rattle.aej_records.specs.Reading.{IsOwnerAt}

-- a reader that was given the field made this value of it
abbrev pub IsMade : {V : Type 0} → (V → Type 0) → (V → List ℕ → Type 0) → V → List ℕ → Type 0
IsMade IsValue IsWritten value text =
    (given : Bor (List ℕ)) × (IsValue value × IsWritten value given.now) × (given.now ≡ text)

-- a reader that was given the field made nothing of it
abbrev pub IsUnmade : {V : Type 0} → (V → Type 0) → (V → List ℕ → Type 0) → List ℕ → Type 0
IsUnmade {V} IsValue IsWritten text =
    (given : Bor (List ℕ)) × ((value : V) → IsValue value → IsWritten value given.now → ⊥) × (given.now ≡ text)

pub spelled : {V : Type 0} {IsValue : V → Type 0} {IsWritten : V → List ℕ → Type 0} (value : V) {text : List ℕ}
    → IsMade IsValue IsWritten value text → IsSpelled IsValue IsWritten text
spelled {IsWritten = IsWritten} value made =
    record { value = value; in_range = made.1.0; written = subst (IsWritten value) made.2 made.1.1 }

pub unspelled : {V : Type 0} {IsValue : V → Type 0} {IsWritten : V → List ℕ → Type 0} {text : List ℕ}
    → IsUnmade IsValue IsWritten text → ¬ IsSpelled IsValue IsWritten text
unspelled {IsWritten = IsWritten} unmade said =
    unmade.1 said.value said.in_range (subst (IsWritten said.value) (sym unmade.2) said.written)

-- the same of a field that may be empty
pub spelled_or_empty : {V : Type 0} {IsValue : V → Type 0} {IsWritten : V → List ℕ → Type 0} (optional : Option V)
    {text : List ℕ} → MatchOption optional (text ≡ []) (λ value. IsMade IsValue IsWritten value text)
    → (text ≡ []) ⊎ IsSpelled IsValue IsWritten text
spelled_or_empty None empty = inl empty
spelled_or_empty (Some value) made = inr (spelled value made)

pub not_spelled_or_empty : {V : Type 0} {IsValue : V → Type 0} {IsWritten : V → List ℕ → Type 0} {text : List ℕ}
    → (text ≢ []) × IsUnmade IsValue IsWritten text → ¬ ((text ≡ []) ⊎ IsSpelled IsValue IsWritten text)
not_spelled_or_empty off (inl empty) = off.0 empty
not_spelled_or_empty off (inr said) = unspelled off.1 said

pub IsOwnerKind-kind_byte : (id : EmployerId) → IsOwnerKind (kind_byte id)
IsOwnerKind-kind_byte (Cnpj number) = inl refl
IsOwnerKind-kind_byte (Person cpf) = inr refl

-- the fields of an owner are of their kinds
pub kind_at_owner : (number : ℕ) (fields : List (List ℕ)) (id : EmployerId) → IsOwnerAt number fields id
    → IsField owner_kind_field (field_at number fields)
kind_at_owner number fields id there =
    record { value = kind_byte id; in_range = IsOwnerKind-kind_byte id; written = there.written.0 }

pub id_at_owner : (number : ℕ) (fields : List (List ℕ)) (id : EmployerId) → IsOwnerAt number fields id
    → IsField (owner_field (field_at number fields)) (field_at (number + 1) fields)
id_at_owner number fields id there = record { value = id; in_range = there.in_range; written = there.written }

-- a reader found the version, or it isn't there
pub version_spelled : {text version : List ℕ} → (given : Bor (List ℕ)) × (Unit {0} × (given.now ≡ version)) × (given.now ≡ text)
    → text ≡ version
version_spelled found = sym found.2 ∙ found.1.1

pub not_version : {text version : List ℕ}
    → (given : Bor (List ℕ)) × ((none : Unit {0}) → Unit {0} → given.now ≡ version → ⊥) × (given.now ≡ text)
    → text ≢ version
not_version missing is = missing.1 tt tt (missing.2 ∙ is)

-- what an early return hands on
pub handed_on : {V E : Type 0} (P : E → Type 0) (result : Result V E) (error : E) → IsErrAnd result (λ e. e ≡ error)
    → P error → IfErr result P
handed_on P (Err e) error same off = subst P (sym same) off
handed_on P (Ok v) error same off = absurd same
