-- The employer's id in its line: the byte of its kind and then fourteen digits, which are read together.
use Rattle.std.proofs.Common.{◌≡◌, ℕ, ◌+◌, ◌≤◌, List, [], ◌∷◌, ◌++◌, length, take, drop, sym, ap, ◌∙◌, arith, length-append}
use Rattle.std.proofs.Math.Seq.{take-add}
use Rattle.std.proofs.lemmas.List.{drop-drop, drop-take, drop_at, length-take-le}
use Rattle.rep_fields.specs.Employer.{IsEmployerId, kind_byte, id_text}
use Rattle.rep_fields.specs.declared.employer.EmployerId.{EmployerId}
use Rattle.afd_records.specs.Fields.{EmployerIdField, IsFieldAt}

-- the first byte of fifteen, and the others
first_and_others : (bytes : List ℕ) (first : ℕ) (others : List ℕ) → take 15 bytes ≡ first ∷ others
    → (take 1 bytes ≡ first ∷ []) × (take 14 (drop 1 bytes) ≡ others)
first_and_others [] first others is = absurd (cc is)
first_and_others (byte ∷ bytes) first others is = (cc is, cc is)

-- the kind and the digits of an id in its line
pub id_cuts : (at : ℕ) (line : List ℕ) (kind : ℕ) (digits : List ℕ) → take 15 (drop at line) ≡ kind ∷ digits
    → (take 1 (drop at line) ≡ kind ∷ []) × (take 14 (drop (at + 1) line) ≡ digits)
id_cuts at line kind digits is =
    let parts = first_and_others (drop at line) kind digits is in
    (parts.0, ap (take 14) (sym (drop-drop 1 at line)) ∙ parts.1)

-- an id that was read
pub id_field : (at : ℕ) (line : List ℕ) (id : EmployerId)
    → IsEmployerId id × (take 15 (drop at line) ≡ kind_byte id ∷ id_text id) → IsFieldAt EmployerIdField (at + 1) line
id_field at line id read =
    let parts = id_cuts at line (kind_byte id) (id_text id) read.1 in
    let ends = take-add at 1 line ∙ ap (λ (last : List ℕ). take at line ++ last) parts.0 in
    (id, ((read.0, (take at line, ends)), parts.1))

-- the kind that stands before the digits
kind_before : (at : ℕ) (line front : List ℕ) (kind : ℕ) → at + 1 ≤ length line → take (at + 1) line ≡ front ++ kind ∷ []
    → take 1 (drop at line) ≡ kind ∷ []
kind_before at line front kind long ends =
    let size : length front ≡ at =
    omega (arith, ap length ends, length-append front (kind ∷ []), length-take-le (at + 1) line long) in
    sym (drop-take at 1 line) ∙ ap (drop at) ends ∙ drop_at front (kind ∷ []) at size

-- no id was read
pub no_id_field : (at : ℕ) (line : List ℕ) → at + 1 ≤ length line
    → ((id : EmployerId) → IsEmployerId id → take 15 (drop at line) ≡ kind_byte id ∷ id_text id → ⊥)
    → IsFieldAt EmployerIdField (at + 1) line → ⊥
no_id_field at line long none (id, ((valid, (front, ends)), is)) =
    let kind = kind_before at line front (kind_byte id) long ends in
    let digits = ap (take 14) (drop-drop 1 at line) ∙ is in
    none id valid
    (take-add 1 14 (drop at line) ∙ ap (λ (first : List ℕ). first ++ take 14 (drop 1 (drop at line))) kind
    ∙ ap (λ (others : List ℕ). kind_byte id ∷ others) digits)
