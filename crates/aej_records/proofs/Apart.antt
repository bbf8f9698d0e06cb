-- A line that reads has no bad field, and one that doesn't has one first bad field.
use Rattle.std.proofs.Common.{◌≡◌, ℕ, ◌+◌, ◌*◌, ◌⊎◌, inl, inr, List, [], ◌∷◌, length, slice_index, Option, Some, None, IfSome, sym, ◌∙◌, subst, arith}
use Rattle.rep_fields.specs.Employer.{kind_byte}
use Rattle.rep_fields.specs.declared.employer.EmployerId.{EmployerId}
use Rattle.aej_records.specs.Fields.{fields_of}
use Rattle.aej_records.specs.Grammar.{FieldKind, IsField, IsSpelled, IsOptionalText, IsOwnerText, kinds_of, pairs_in, IsFirstOff, IsFirstBad, Says, ReadsAs, owner_kind_field, time_field, number_field}
use Rattle.aej_records.specs.Line.{type_of, IsInRange, HasNames}
use Rattle.aej_records.specs.declared.line.AejLine.{AejLine}
use Rattle.aej_records.specs.declared.line.AejLine.TheVariants.{Head, Rep, Link, Schedule, Mark, Registration, Absence, Program, Counts}
use Rattle.aej_records.proofs.RunLemmas.{no_field_past_run}
use Rattle.aej_records.proofs.Spelled.{IsOwnerKind-kind_byte}
use Rattle.aej_records.proofs.Unique.{type_text-injective, length-timed}

-- the first field off comes behind a field that is of its kind
past : {P E R : Type 0} → (¬ P × E) ⊎ (P × R) → P → R
past (inl bad) fits = absurd (bad.0 fits)
past (inr rest) fits = rest.1

optional_is : {V : Type 0} (IsValue : V → Type 0) (IsWritten : V → List ℕ → Type 0) (optional : Option V) (text : List ℕ)
    → IfSome optional IsValue → IsOptionalText IsWritten optional text → (text ≡ []) ⊎ IsSpelled IsValue IsWritten text
optional_is IsValue IsWritten None text in_range said = inl said
optional_is IsValue IsWritten (Some value) text in_range said =
    inr (record { value = value; in_range = in_range; written = said })

owner_kind_is : (kind : List ℕ) (id : EmployerId) (text : List ℕ) → IsOwnerText kind id text → IsField owner_kind_field kind
owner_kind_is kind id text said = record { value = kind_byte id; in_range = IsOwnerKind-kind_byte id; written = said.0 }

-- the fields of a line are of their kinds
none_off : (line : AejLine) (fields : List (List ℕ)) (number : ℕ) → IsInRange line → HasNames line → Says line fields
    → IsFirstOff 2 (kinds_of (type_of line) fields) fields number → ⊥
none_off (Head id caepf cno name first last made) fields number in_range names said off =
    let behind_ids = past (past off (owner_kind_is _ id _ said.0)) (record { value = id; in_range = in_range.0; written = said.0 }) in
    let behind_works = past (past behind_ids (record { value = caepf; in_range = in_range.1; written = said.1 }))
    (record { value = cno; in_range = in_range.2; written = said.2 }) in
    let behind_days = past (past (past behind_works (record { value = name; in_range = (in_range.3, names); written = said.3 }))
    (record { value = first; in_range = in_range.4; written = said.4 })) (record { value = last; in_range = in_range.5; written = said.5 }) in
    let end = past (past behind_days (record { value = made; in_range = in_range.6; written = said.6 })) said.7 in
    omega (arith, end.0, said.8)
none_off (Rep id kind number) fields bad in_range names said off =
    let end = past (past (past off (record { value = id; in_range = in_range.0; written = said.0 }))
    (record { value = kind; in_range = in_range.1; written = said.1 })) (record { value = number; in_range = in_range.2; written = said.2 }) in
    omega (arith, end.0, said.3)
none_off (Link id cpf name) fields number in_range names said off =
    let end = past (past (past off (record { value = id; in_range = in_range.0; written = said.0 }))
    (record { value = cpf; in_range = in_range.1; written = said.1 })) (record { value = name; in_range = (in_range.2, names); written = said.2 }) in
    omega (arith, end.0, said.3)
none_off (Schedule code minutes times) fields number in_range names said off =
    let behind = past (past off (record { value = code; in_range = (in_range.0, names); written = said.0 }))
    (record { value = minutes; in_range = in_range.1; written = said.1 }) in
    let timed = in_range.2 in
    let some = timed.some in
    let few = timed.few in
    let paired = timed.paired in
    let size : length fields ≡ 3 + length times = omega (arith, said.3, length-timed times fields (omega arith) said.2) in
    let run : 2 * pairs_in (length fields) ≡ length times = omega arith in
    no_field_past_run time_field 4 (2 * pairs_in (length fields)) number fields
    (λ k within. record { value = slice_index times k; in_range = timed.minutes k 0 (omega arith); written = said.2 k (omega arith) })
    (omega arith) behind
none_off (Mark link at rep mark pair source schedule reason) fields number in_range names said off =
    let behind_rep = past (past (past off (record { value = link; in_range = in_range.0; written = said.0 }))
    (record { value = at; in_range = in_range.1; written = said.1 })) (optional_is _ _ rep _ in_range.2 said.2) in
    let behind_source = past (past (past behind_rep (record { value = mark; in_range = in_range.3; written = said.3 }))
    (optional_is _ _ pair _ in_range.4 said.4)) (record { value = source; in_range = in_range.5; written = said.5 }) in
    let end = past (past behind_source (record { value = schedule; in_range = in_range.6; written = said.6 }))
    (record { value = reason; in_range = in_range.7; written = said.7 }) in
    omega (arith, end.0, said.8)
none_off (Registration link number) fields bad in_range names said off =
    let end = past (past off (record { value = link; in_range = in_range.0; written = said.0 }))
    (record { value = number; in_range = (in_range.1, names); written = said.1 }) in
    omega (arith, end.0, said.2)
none_off (Absence link kind date minutes movement) fields number in_range names said off =
    let behind_date = past (past (past off (record { value = link; in_range = in_range.0; written = said.0 }))
    (record { value = kind; in_range = in_range.1; written = said.1 })) (record { value = date; in_range = in_range.2; written = said.2 }) in
    let end = past (past behind_date (optional_is _ _ minutes _ in_range.3 said.3)) (optional_is _ _ movement _ in_range.4 said.4) in
    omega (arith, end.0, said.5)
none_off (Program name version developer developer_name email) fields number in_range names said off =
    let behind_version = past (past off (record { value = name; in_range = (in_range.0, names.0); written = said.0 }))
    (record { value = version; in_range = (in_range.1, names.1); written = said.1 }) in
    let behind_developer = past (past behind_version (owner_kind_is _ developer _ said.2))
    (record { value = developer; in_range = in_range.2; written = said.2 }) in
    let end = past (past behind_developer (record { value = developer_name; in_range = (in_range.3, names.2); written = said.3 }))
    (record { value = email; in_range = (in_range.4, names.3); written = said.4 }) in
    omega (arith, end.0, said.5)
none_off (Counts counts) fields number in_range names said off =
    no_field_past_run (number_field 0 999999999) 2 8 number fields
    (λ k within. record { value = slice_index counts k; in_range = in_range.1 k 0 (omega (arith, in_range.0)); written = said.0 k (omega (arith, in_range.0)) })
    (omega (arith, said.1)) off

-- a text that reads has no bad field
pub not_bad : (text : List ℕ) (line : AejLine) (number : ℕ) → ReadsAs text line → IsFirstBad text number → ⊥
not_bad text line number reads (inl none) = none.0 (type_of line) reads.of_type
not_bad text line number reads (inr off) =
    let same : off.0 ≡ type_of line = type_text-injective off.0 (type_of line) (sym off.1 ∙ reads.of_type) in
    none_off line (fields_of text) number reads.readable.in_range reads.readable.names reads.said
    (subst (λ type. IsFirstOff 2 (kinds_of type (fields_of text)) (fields_of text) number) same off.2)

first_off_is_one : (place : ℕ) (kinds : List FieldKind) (fields : List (List ℕ)) (m n : ℕ) → IsFirstOff place kinds fields m
    → IsFirstOff place kinds fields n → m ≡ n
first_off_is_one place [] fields m n m_off n_off = m_off.1 ∙ sym n_off.1
first_off_is_one place (kind ∷ kinds) fields m n (inl m_here) (inl n_here) = m_here.1 ∙ sym n_here.1
first_off_is_one place (kind ∷ kinds) fields m n (inr m_behind) (inr n_behind) =
    first_off_is_one (place + 1) kinds fields m n m_behind.1 n_behind.1
first_off_is_one place (kind ∷ kinds) fields m n (inl m_here) (inr n_behind) = absurd (m_here.0 n_behind.0)
first_off_is_one place (kind ∷ kinds) fields m n (inr m_behind) (inl n_here) = absurd (n_here.0 m_behind.0)

-- a text has one first bad field at most
pub first_bad_is_one : (text : List ℕ) (m n : ℕ) → IsFirstBad text m → IsFirstBad text n → m ≡ n
first_bad_is_one text m n (inl m_none) (inl n_none) = m_none.1 ∙ sym n_none.1
first_bad_is_one text m n (inl m_none) (inr n_off) = absurd (m_none.0 n_off.0 n_off.1)
first_bad_is_one text m n (inr m_off) (inl n_none) = absurd (n_none.0 m_off.0 m_off.1)
first_bad_is_one text m n (inr m_off) (inr n_off) =
    let same : m_off.0 ≡ n_off.0 = type_text-injective m_off.0 n_off.0 (sym m_off.1 ∙ n_off.1) in
    first_off_is_one 2 (kinds_of n_off.0 (fields_of text)) (fields_of text) m n
    (subst (λ type. IsFirstOff 2 (kinds_of type (fields_of text)) (fields_of text) m) same m_off.2) n_off.2
