-- Laws of the values at keys: each key says one value.
use Rattle.std.proofs.Common.{◌≡◌, ℕ, pos, List, ◌++◌, Option, Some, None, inl, inr, refl, sym, ap, ◌∙◌, arith}
use Rattle.std.proofs.lemmas.Option.{same_Some}
use Rattle.std.proofs.lemmas.Str.{encodes_same}
use Rattle.rep_fields.specs.Decoding.{TellsApart}
use Rattle.rep_fields.specs.Employer.{IsEmployerId}
use Rattle.rep_fields.specs.Latin.{spaces}
use Rattle.rep_fields.specs.declared.employer.EmployerId.{EmployerId}
use Rattle.rep_fields.specs.declared.employer.EmployerId.TheVariants.{Cnpj, Person}
use Rattle.rep_fields.proofs.Ids.{cpf_text-injective, cnpj_text-injective}
use Rattle.rep_fields.proofs.Texts.{IsFilled-unique}
use Rattle.toml.specs.Data.{Members, string, integer}
use Rattle.toml_fields.specs.Answering.{Finds}
use Rattle.toml_fields.specs.Table.{IsTomlOf, HasText, HasOr, IsMissing}
use Rattle.toml_fields.specs.Fields.{HasNumber, HasFixed, HasLatin, HasId, kind_number, id_digits}

-- a key holds one text
pub HasText-unique : (ms : Members) (key s t : List ℕ) → HasText ms key s → HasText ms key t → s ≡ t
HasText-unique ms key s t has_s has_t = let same : Some (string s) ≡ Some (string t) = sym has_s ∙ has_t in cc

pub HasNumber-unique : (least most other_least other_most : ℕ) (ms : Members) (key : List ℕ) (m n : ℕ)
    → HasNumber least most ms key m → HasNumber other_least other_most ms key n → m ≡ n
HasNumber-unique least most other_least other_most ms key m n has_m has_n =
    let same : Some (integer (pos m)) ≡ Some (integer (pos n)) = sym has_m.there ∙ has_n.there in cc

pub HasLatin-unique : (most other_most : ℕ) (ms : Members) (key s t : List ℕ) → HasLatin most ms key s → HasLatin other_most ms key t → s ≡ t
HasLatin-unique most other_most ms key s t has_s has_t =
    let same : has_s.utf8 ≡ has_t.utf8 = HasText-unique ms key has_s.utf8 has_t.utf8 has_s.there has_t.there in
    let field : s ++ spaces has_s.spelled.0 ≡ t ++ spaces has_t.spelled.0 =
    encodes_same (s ++ spaces has_s.spelled.0) (t ++ spaces has_t.spelled.0) (sym has_s.spelled.1 ∙ same ∙ has_t.spelled.1) in
    IsFilled-unique s t (s ++ spaces has_s.spelled.0) has_s.in_range.trimmed has_t.in_range.trimmed (has_s.spelled.0, refl) (has_t.spelled.0, field)

pub HasFixed-unique : {V : Type 0} (IsValue : V → Type 0) (text_of : V → List ℕ) (ms : Members) (key : List ℕ) (v w : V)
    → TellsApart IsValue text_of → HasFixed IsValue text_of ms key v → HasFixed IsValue text_of ms key w → v ≡ w
HasFixed-unique IsValue text_of ms key v w apart has_v has_w =
    apart v w has_v.in_range has_w.in_range (HasText-unique ms key (text_of v) (text_of w) has_v.there has_w.there)

-- the digits of an id of a known kind are those of one id
pub id_digits-injective : (a b : EmployerId) → IsEmployerId a → IsEmployerId b → kind_number a ≡ kind_number b → id_digits a ≡ id_digits b → a ≡ b
id_digits-injective (Cnpj m) (Cnpj n) is_m is_n kind same = ap Cnpj (cnpj_text-injective m n is_m is_n same)
id_digits-injective (Cnpj m) (Person n) is_m is_n kind same = absurd (omega arith)
id_digits-injective (Person m) (Cnpj n) is_m is_n kind same = absurd (omega arith)
id_digits-injective (Person m) (Person n) is_m is_n kind same = ap Person (cpf_text-injective m n is_m is_n same)

-- the kind and the digits say one id
pub HasId-unique : (ms : Members) (kind_key key : List ℕ) (a b : EmployerId) → HasNumber 1 2 ms kind_key (kind_number a) → HasId ms key a
    → HasNumber 1 2 ms kind_key (kind_number b) → HasId ms key b → a ≡ b
HasId-unique ms kind_key key a b has_kind has_a other_kind has_b =
    id_digits-injective a b has_a.in_range has_b.in_range (HasNumber-unique 1 2 1 2 ms kind_key (kind_number a) (kind_number b) has_kind other_kind)
    (HasText-unique ms key (id_digits a) (id_digits b) has_a.there has_b.there)

-- a key with a default says one value, where it says one if it isn't missing
pub HasOr-unique : {V : Type 0} (default : V) (Has : Members → List ℕ → V → Type 0) (ms : Members) (key : List ℕ) (v w : V)
    → ((x y : V) → Has ms key x → Has ms key y → x ≡ y) → ((x : V) → Has ms key x → IsMissing ms key → ⊥)
    → HasOr default Has ms key v → HasOr default Has ms key w → v ≡ w
HasOr-unique default Has ms key v w alone there (inl a) (inl b) = a.1 ∙ sym b.1
HasOr-unique default Has ms key v w alone there (inl a) (inr b) = absurd (there w b a.0)
HasOr-unique default Has ms key v w alone there (inr a) (inl b) = absurd (there v a b.0)
HasOr-unique default Has ms key v w alone there (inr a) (inr b) = alone v w a b

pub HasNumberOr-unique : (default least most : ℕ) (ms : Members) (key : List ℕ) (m n : ℕ) → HasOr default (HasNumber least most) ms key m
    → HasOr default (HasNumber least most) ms key n → m ≡ n
HasNumberOr-unique default least most ms key m n =
    HasOr-unique default (HasNumber least most) ms key m n (HasNumber-unique least most least most ms key)
    (λ x has missing. let same = sym missing ∙ has.there in absurd (cc))

-- a text is one document
pub IsTomlOf-unique : (text : List ℕ) (ms ns : Members) → IsTomlOf text ms → IsTomlOf text ns → ms ≡ ns
IsTomlOf-unique text ms ns is_ms is_ns = same_Some ms ns (sym is_ms.parsed ∙ is_ns.parsed)

-- what is found where the key isn't missing
pub Finds-present : {V : Type 0} (default : V) (Has : Members → List ℕ → V → Type 0) (ms : Members) (key : List ℕ) (result : Option V)
    → (IsMissing ms key → ⊥) → Finds (Has ms key) result → Finds (HasOr default Has ms key) result
Finds-present default Has ms key (Some value) present found = inr found
Finds-present default Has ms key None present none = λ value has. elim has [
  | inl missing ↦ present missing.0
  | inr there ↦ none value there
]
