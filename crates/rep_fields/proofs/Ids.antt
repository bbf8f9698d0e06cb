-- Laws of the ids that fields of digits show.
use Rattle.std.proofs.Common.{get_or, Bool, true, false, ◌≡◌, ◌≤◌, ◌<◌, ◌↔◌, ℕ, zero, suc, ◌+◌, ◌-◌, ◌/◌, ◌%◌, ◌^◌, List, [], ◌∷◌, ◌++◌, length, take, drop, map, All, refl, sym, ap, ◌∙◌, subst, arith}
use Rattle.std.proofs.Math.Nat.{pow-le-pow_right}
use Rattle.std.proofs.lemmas.List.{map_push, drop-append-le, drop_all, take_rest, drop-map}
use Rattle.std.proofs.lemmas.Bool.{both_ways}
use Rattle.std.proofs.lemmas.List.Elements.{All-same}
use Rattle.rep_fields.specs.Digits.{digits, digit_byte, numeral, digits_in, FitsDigits, IsDigitByte}
use Rattle.rep_fields.specs.Identity.{IsCpf, IsCnpj, HasCpfChecks, HasCnpjChecks, cpf_text}
use Rattle.rep_fields.specs.Employer.{IsEmployerId, kind_byte, id_number, id_text}
use Rattle.rep_fields.specs.declared.employer.EmployerId.{EmployerId}
use Rattle.rep_fields.specs.declared.employer.EmployerId.TheVariants.{Cnpj, Person}
use Rattle.rep_fields.proofs.Numerals.{length-digits, numeral-injective, IsDigitByte-numeral}

pub FitsDigits-wider : (narrow wide n : ℕ) → narrow ≤ wide → FitsDigits narrow n → FitsDigits wide n
FitsDigits-wider narrow wide n wider fits =
    let more : 10 ^ narrow ≤ 10 ^ wide = pow-le-pow_right {n = 10} (omega arith) {i = narrow} {j = wide} wider in
    omega arith

-- a field shows one number at most
pub same_number : (field : List ℕ) (m n : ℕ) → FitsDigits (length field) m → FitsDigits (length field) n
    → field ≡ numeral (length field) m → field ≡ numeral (length field) n → m ≡ n
same_number field m n fits_m fits_n m_is n_is = numeral-injective (length field) m n fits_m fits_n (sym m_is ∙ n_is)

-- the last of a number's digits
pub digits-drop : (total width n : ℕ) → width ≤ total → drop (total - width) (digits total n) ≡ digits width n
unfolding digits
digits-drop total zero n within =
    drop_all (total - zero) (digits total n) (omega (arith, length-digits total n))
digits-drop zero (suc width) n within = absurd (omega arith)
digits-drop (suc total) (suc width) n within =
    let left : suc total - suc width ≡ total - width = omega arith in
    ap (λ from. drop from (digits total (n / 10) ++ (n % 10) ∷ [])) left
    ∙ drop-append-le (total - width) (digits total (n / 10)) ((n % 10) ∷ []) (omega (arith, length-digits total (n / 10)))
    ∙ ap (λ front. front ++ (n % 10) ∷ []) (digits-drop total width (n / 10) (omega arith))

-- the digits that a number is written with are its own
pub digits_in-numeral : (width n : ℕ) → digits_in (numeral width n) ≡ digits width n
unfolding digits
digits_in-numeral zero n = refl
digits_in-numeral (suc width) n =
    let back : 48 + n % 10 - 48 ≡ n % 10 = omega arith in
    ap digits_in (map_push digit_byte (digits width (n / 10)) (n % 10))
    ∙ map_push (λ byte. byte - 48) (numeral width (n / 10)) (48 + n % 10)
    ∙ ap (λ front. front ++ (48 + n % 10 - 48) ∷ []) (digits_in-numeral width (n / 10))
    ∙ ap (λ digit. digits width (n / 10) ++ digit ∷ []) back

-- the last eleven bytes of a field
abbrev pub last_eleven : List ℕ → List ℕ
last_eleven field = take (length field - (length field - 11)) (drop (length field - 11) field)

pub last_eleven-numeral : (field : List ℕ) (n : ℕ) → 11 ≤ length field → field ≡ numeral (length field) n
    → last_eleven field ≡ numeral 11 n
last_eleven-numeral field n within is =
    let width = length field in
    take_rest field (width - 11) ∙ ap (drop (width - 11)) is
    ∙ drop-map digit_byte (width - 11) (digits width n) ∙ ap (map digit_byte) (digits-drop width 11 n within)

pub IsDigitByte-last : (field : List ℕ) (n : ℕ) → 11 ≤ length field → field ≡ numeral (length field) n
    → All IsDigitByte (last_eleven field)
IsDigitByte-last field n within is =
    All-same IsDigitByte _ _ (last_eleven-numeral field n within is) (IsDigitByte-numeral 11 n)

digits-last : (field : List ℕ) (n : ℕ) → 11 ≤ length field → field ≡ numeral (length field) n
    → digits_in (last_eleven field) ≡ digits 11 n
digits-last field n within is = ap digits_in (last_eleven-numeral field n within is) ∙ digits_in-numeral 11 n

-- the test of the check digits says that the number is a CPF
pub IsCpf-from_checks : (field : List ℕ) (n : ℕ) (passed : Bool) → 11 ≤ length field → field ≡ numeral (length field) n
    → ((passed ≡ true) ↔ HasCpfChecks (digits_in (last_eleven field))) → n < 100000000000 → passed ≡ true → IsCpf n
IsCpf-from_checks field n passed within is tested small fine =
    let checks = subst HasCpfChecks (digits-last field n within is) (tested.0 fine) in
    record { size = small; first = checks.first; second = checks.second; mixed = checks.mixed }

-- and fails only where it is none
pub checks-IsCpf : (field : List ℕ) (n : ℕ) (passed : Bool) → 11 ≤ length field → field ≡ numeral (length field) n
    → ((passed ≡ true) ↔ HasCpfChecks (digits_in (last_eleven field))) → passed ≡ false → IsCpf n → ⊥
checks-IsCpf field n passed within is tested failed is_cpf =
    let checks : HasCpfChecks (digits 11 n) =
    record { first = is_cpf.first; second = is_cpf.second; mixed = is_cpf.mixed } in
    both_ways passed failed (tested.1 (subst HasCpfChecks (sym (digits-last field n within is)) checks))

-- the same of a CNPJ
pub IsCnpj-from_checks : (text : List ℕ) (n : ℕ) (passed : Bool) → length text ≡ 14
    → FitsDigits (length text) n × (text ≡ numeral (length text) n)
    → ((passed ≡ true) ↔ HasCnpjChecks (digits_in text)) → passed ≡ true → IsCnpj n × (text ≡ numeral 14 n)
IsCnpj-from_checks text n passed long read tested fine =
    let is : text ≡ numeral 14 n = read.1 ∙ ap (λ width. numeral width n) long in
    let checks = subst HasCnpjChecks (ap digits_in is ∙ digits_in-numeral 14 n) (tested.0 fine) in
    (record { size = subst (λ (width : ℕ). FitsDigits width n) long read.0; first = checks.first; second = checks.second }, is)

pub cpf_text-injective : (m n : ℕ) → IsCpf m → IsCpf n → cpf_text m ≡ cpf_text n → m ≡ n
cpf_text-injective m n is_m is_n same = numeral-injective 11 m n is_m.size is_n.size same

pub cnpj_text-injective : (m n : ℕ) → IsCnpj m → IsCnpj n → numeral 14 m ≡ numeral 14 n → m ≡ n
cnpj_text-injective m n is_m is_n same = numeral-injective 14 m n is_m.size is_n.size same

IsEmployerId-size : (id : EmployerId) → IsEmployerId id → FitsDigits 14 (id_number id)
IsEmployerId-size (Cnpj number) valid = valid.size
IsEmployerId-size (Person cpf) valid = FitsDigits-wider 11 14 cpf (omega arith) valid.size

-- the fourteen digits tell the number of an id
pub id_text-injective : (a b : EmployerId) → IsEmployerId a → IsEmployerId b → id_text a ≡ id_text b → id_number a ≡ id_number b
id_text-injective a b is_a is_b same =
    numeral-injective 14 (id_number a) (id_number b) (IsEmployerId-size a is_a) (IsEmployerId-size b is_b) same

-- and with the kind the id
pub employer_id-injective : (a b : EmployerId) → IsEmployerId a → IsEmployerId b → kind_byte a ≡ kind_byte b
    → id_text a ≡ id_text b → a ≡ b
employer_id-injective (Cnpj m) (Cnpj n) is_a is_b kinds same = ap Cnpj (id_text-injective (Cnpj m) (Cnpj n) is_a is_b same)
employer_id-injective (Cnpj m) (Person n) is_a is_b kinds same = absurd (omega arith)
employer_id-injective (Person m) (Cnpj n) is_a is_b kinds same = absurd (omega arith)
employer_id-injective (Person m) (Person n) is_a is_b kinds same =
    ap Person (id_text-injective (Person m) (Person n) is_a is_b same)

pub employer_field-injective : (a b : EmployerId) → IsEmployerId a → IsEmployerId b
    → kind_byte a ∷ id_text a ≡ kind_byte b ∷ id_text b → a ≡ b
employer_field-injective a b is_a is_b same =
    employer_id-injective a b is_a is_b (ap (λ bytes. get_or bytes 0 0) same) (ap (drop 1) same)
