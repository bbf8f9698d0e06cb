-- A field says one value at most, and a line's fields say one line.
use Rattle.std.proofs.Common.{◌≡◌, ◌≢◌, ℕ, suc, ◌+◌, ◌-◌, ◌≤◌, inl, inr, List, [], ◌∷◌, length, get_or, drop, All, Bool, true, false, Option, Some, None, IfSome, slice_index, refl, sym, ap, ◌∙◌, decimal, codes, arith, ℤ, pos, negsuc}
use Rattle.std.proofs.lemmas.Bool.{cases_lt}
use Rattle.std.proofs.lemmas.Fmt.{decimal_injective, decimal_nonempty}
use Rattle.std.proofs.lemmas.List.{ext_get_or, get_or_past}
use Rattle.rep_fields.specs.Digits.{digits}
use Rattle.rep_fields.specs.Employer.{IsEmployerId}
use Rattle.rep_fields.specs.Latin.{IsText, IsFilled}
use Rattle.rep_fields.specs.Moment.{Moment, IsMoment, IsOffset, hours_text, offset_text, loose_offset_text}
use Rattle.rep_fields.specs.declared.employer.EmployerId.{EmployerId}
use Rattle.rep_fields.specs.declared.employer.EmployerId.TheVariants.{Cnpj, Person}
use Rattle.rep_fields.proofs.Ids.{cpf_text-injective, cnpj_text-injective}
use Rattle.rep_fields.proofs.StampTexts.{lenient_parts, local_text-injective, offset_text-injective, day_text-injective}
use Rattle.rep_fields.proofs.Texts.{IsText-unique}
use Rattle.rep_fields.proofs.TimeTexts.{hours_parts, hours_text-injective}
use Rattle.aej_records.specs.Fields.{field_at}
use Rattle.aej_records.specs.Grammar.{IsIdText, IsPairText, IsNumeralText, IsStampText, IsOwnerText, IsOptionalText, AreWritten, Says}
use Rattle.aej_records.specs.Line.{type_of, IsBetween, IsId, IsPair, IsCount, IsInRange}
use Rattle.aej_records.specs.Text.{type_text}
use Rattle.aej_records.specs.Times.{IsTimes}
use Rattle.aej_records.specs.declared.kind.LineType.{LineType}
use Rattle.aej_records.specs.declared.kind.LineType.TheVariants as type
use Rattle.aej_records.specs.declared.line.AejLine.{AejLine}
use Rattle.aej_records.specs.declared.line.AejLine.TheVariants.{Head, Rep, Link, Schedule, Mark, Registration, Absence, Program, Counts}
use Rattle.aej_records.proofs.ValueLemmas.{IsNumeralText-unique, width_of-numeral}

-- the second digit of a type tells it
pub type_text-injective : (a b : LineType) → type_text a ≡ type_text b → a ≡ b
type_text-injective type.Head type.Head is = refl
type_text-injective type.Rep type.Rep is = refl
type_text-injective type.Link type.Link is = refl
type_text-injective type.Schedule type.Schedule is = refl
type_text-injective type.Mark type.Mark is = refl
type_text-injective type.Registration type.Registration is = refl
type_text-injective type.Absence type.Absence is = refl
type_text-injective type.Program type.Program is = refl
type_text-injective type.Counts type.Counts is = refl
type_text-injective _ _ is = absurd (omega (arith, ap (λ xs. get_or xs 1 0) is))

-- one byte tells itself
letter-unique : (a b : ℕ) (text : List ℕ) → text ≡ a ∷ [] → text ≡ b ∷ [] → a ≡ b
letter-unique a b text a_is b_is = ap (λ xs. get_or xs 0 0) (sym a_is ∙ b_is)

number-unique : (least most m n : ℕ) (text : List ℕ) → most ≤ 999999999 → IsBetween least most m → IsBetween least most n
    → text ≡ decimal m → text ≡ decimal n → m ≡ n
number-unique least most m n text small m_in n_in m_is n_is =
    decimal_injective m n (omega arith) (omega arith) (sym m_is ∙ n_is)

owner-unique : (kind : List ℕ) (a b : EmployerId) (text : List ℕ) → IsEmployerId a → IsEmployerId b
    → IsOwnerText kind a text → IsOwnerText kind b text → a ≡ b
owner-unique kind (Cnpj m) (Cnpj n) text a_in b_in a_said b_said =
    ap Cnpj (cnpj_text-injective m n a_in b_in (sym a_said.1 ∙ b_said.1))
owner-unique kind (Person m) (Person n) text a_in b_in a_said b_said =
    ap Person (cpf_text-injective m n a_in b_in (sym a_said.1 ∙ b_said.1))
owner-unique kind _ _ text a_in b_in a_said b_said =
    absurd (omega (arith, ap (λ xs. get_or xs 0 0) (sym a_said.0 ∙ b_said.0)))

-- `-0000` is `-` before the minutes of zero
minus_zero_text : codes "-0000" ≡ 45 ∷ hours_text 0
unfolding digits
minus_zero_text = refl

-- and no offset is written so
no_minus_zero : (offset : ℤ) → IsOffset offset → codes "-0000" ≡ offset_text offset → ⊥
no_minus_zero (pos minutes) in_range is = omega (arith, ap (λ xs. get_or xs 0 0) is)
no_minus_zero (negsuc less) in_range is =
    let same : hours_text 0 ≡ hours_text (suc less) = ap (drop 1) (sym minus_zero_text ∙ is) in
    omega (arith, hours_text-injective 0 (suc less) (omega arith) (omega arith) same)

loose_offset-unique : (a b : ℤ) (m n : Bool) → IsOffset a → IsOffset b → (m ≡ true → a ≡ pos 0) → (n ≡ true → b ≡ pos 0)
    → loose_offset_text a m ≡ loose_offset_text b n → a ≡ b
loose_offset-unique a b false false a_in b_in a_zero b_zero is = offset_text-injective a b a_in b_in is
loose_offset-unique a b true true a_in b_in a_zero b_zero is = a_zero refl ∙ sym (b_zero refl)
loose_offset-unique a b true false a_in b_in a_zero b_zero is = absurd (no_minus_zero b b_in is)
loose_offset-unique a b false true a_in b_in a_zero b_zero is = absurd (no_minus_zero a a_in (sym is))

pub stamp-unique : (a b : Moment) (text : List ℕ) → IsMoment a → IsMoment b → IsStampText a text → IsStampText b text → a ≡ b
stamp-unique a b text a_in b_in (a_odd, (s, m, a_said)) (b_odd, (t, n, b_said)) =
    let first = lenient_parts text (record { moment = a; odd = a_odd }) s m a_said in
    let other = lenient_parts text (record { moment = b; odd = b_odd }) t n b_said in
    let s_in = a_said.in_minute in
    let t_in = b_said.in_minute in
    let times = local_text-injective a.local s b.local t a_in.local b_in.local (omega arith) (omega arith)
    (sym first.local_is ∙ other.local_is) in
    let offsets = loose_offset-unique a.offset b.offset m n a_in.offset b_in.offset a_said.at_zero b_said.at_zero
    (sym first.offset_is ∙ other.offset_is) in
    λ i. record { local = times.local_is i; offset = offsets i }

-- the same of what may be missing
optional-unique : {V : Type 0} (IsValue : V → Type 0) (IsWritten : V → List ℕ → Type 0) (a b : Option V) (text : List ℕ)
    → ((v w : V) → IsValue v → IsValue w → IsWritten v text → IsWritten w text → v ≡ w)
    → ((v : V) → IsWritten v text → text ≢ [])
    → IfSome a IsValue → IfSome b IsValue → IsOptionalText IsWritten a text → IsOptionalText IsWritten b text → a ≡ b
optional-unique IsValue IsWritten None None text one some a_in b_in a_said b_said = refl
optional-unique IsValue IsWritten (Some v) (Some w) text one some a_in b_in a_said b_said =
    ap Some (one v w a_in b_in a_said b_said)
optional-unique IsValue IsWritten None (Some w) text one some a_in b_in a_said b_said = absurd (some w b_said a_said)
optional-unique IsValue IsWritten (Some v) None text one some a_in b_in a_said b_said = absurd (some v a_said b_said)

numeral_is_some : (most n : ℕ) (text : List ℕ) → IsNumeralText most n text → text ≢ []
numeral_is_some most n text said empty =
    omega (arith, width_of-numeral most n text said.0 said.1, said.1.some, ap length empty)

decimal_is_some : (least most n : ℕ) (text : List ℕ) → most ≤ 999999999 → IsBetween least most n → text ≡ decimal n → text ≢ []
decimal_is_some least most n text small in_range is empty =
    omega (arith, ap length (sym is ∙ empty), decimal_nonempty n (omega arith))

optional_number-unique : (least most : ℕ) (a b : Option ℕ) (text : List ℕ) → most ≤ 999999999
    → IfSome a (IsBetween least most) → IfSome b (IsBetween least most)
    → IsOptionalText (λ n written. written ≡ decimal n) a text → IsOptionalText (λ n written. written ≡ decimal n) b text
    → a ≡ b
optional_number-unique least most None None text small a_in b_in a_said b_said = refl
optional_number-unique least most (Some m) (Some n) text small a_in b_in a_said b_said =
    ap Some (number-unique least most m n text small a_in b_in a_said b_said)
optional_number-unique least most None (Some n) text small a_in b_in a_said b_said =
    absurd (decimal_is_some least most n text small b_in b_said a_said)
optional_number-unique least most (Some m) None text small a_in b_in a_said b_said =
    absurd (decimal_is_some least most m text small a_in a_said b_said)

name-unique : (most : ℕ) (a b text : List ℕ) → IsText most a → IsText most b → IsFilled a text → IsFilled b text → a ≡ b
name-unique most a b text a_in b_in a_said b_said = IsText-unique most most a b text a_in b_in a_said b_said

pub length-hours_text : (minutes : ℕ) → length (hours_text minutes) ≡ 4
length-hours_text minutes = (hours_parts (hours_text minutes) minutes refl).size

-- the fields of times are there
pub length-timed : (times : List ℕ) (fields : List (List ℕ)) → 1 ≤ length times → AreWritten 4 hours_text times fields
    → 3 + length times ≤ length fields
length-timed times fields some written =
    elim (cases_lt (2 + length times) (length fields)) [
      | inl there ↦ omega arith
      | inr short ↦
          let last : field_at (4 + (length times - 1)) fields ≡ hours_text (slice_index times (length times - 1)) =
          written (length times - 1) (omega arith) in
          let none : field_at (4 + (length times - 1)) fields ≡ [] = get_or_past fields (4 + (length times - 1) - 1) [] (omega arith) in
          absurd (omega (arith, ap length (sym none ∙ last), length-hours_text (slice_index times (length times - 1))))
    ]

times-unique : (a b : List ℕ) (fields : List (List ℕ)) → IsTimes a → IsTimes b → AreWritten 4 hours_text a fields
    → AreWritten 4 hours_text b fields → length fields ≤ 3 + length a → length fields ≤ 3 + length b → a ≡ b
times-unique a b fields a_in b_in a_said b_said a_few b_few =
    let a_some = a_in.some in
    let b_some = b_in.some in
    let size : length a ≡ length b =
    omega (arith, length-timed a fields (omega arith) a_said, length-timed b fields (omega arith) b_said) in
    ext_get_or 0 a b size (λ k within.
    let a_minute = a_in.minutes k 0 within in
    let b_minute = b_in.minutes k 0 (omega arith) in
    hours_text-injective (get_or a k 0) (get_or b k 0) (omega arith) (omega arith)
    (sym (a_said k within) ∙ b_said k (omega arith)))

counts-unique : (a b : List ℕ) (fields : List (List ℕ)) → length a ≡ 8 → length b ≡ 8 → All IsCount a → All IsCount b
    → AreWritten 2 decimal a fields → AreWritten 2 decimal b fields → a ≡ b
counts-unique a b fields a_size b_size a_in b_in a_said b_said =
    ext_get_or 0 a b (a_size ∙ sym b_size) (λ k within.
    number-unique 0 999999999 (get_or a k 0) (get_or b k 0) _ (omega arith) (a_in k 0 within) (b_in k 0 (omega arith))
    (a_said k within) (b_said k (omega arith)))

-- fields say one line at most
pub says_one : (a b : AejLine) (fields : List (List ℕ)) → type_of a ≡ type_of b → IsInRange a → IsInRange b
    → Says a fields → Says b fields → a ≡ b
says_one (Head id caepf cno name first last made) (Head id' caepf' cno' name' first' last' made') fields types a_in b_in a_said b_said =
    let ids = owner-unique _ id id' _ a_in.0 b_in.0 a_said.0 b_said.0 in
    let caepfs = name-unique 14 caepf caepf' _ a_in.1.0 b_in.1.0 a_said.1 b_said.1 in
    let cnos = name-unique 14 cno cno' _ a_in.2.0 b_in.2.0 a_said.2 b_said.2 in
    let names = name-unique 150 name name' _ a_in.3 b_in.3 a_said.3 b_said.3 in
    let firsts = day_text-injective first first' a_in.4 b_in.4 (sym a_said.4 ∙ b_said.4) in
    let lasts = day_text-injective last last' a_in.5 b_in.5 (sym a_said.5 ∙ b_said.5) in
    let mades = stamp-unique made made' _ a_in.6 b_in.6 a_said.6 b_said.6 in cc
says_one (Rep id kind number) (Rep id' kind' number') fields types a_in b_in a_said b_said =
    let ids = IsNumeralText-unique 9 9 id id' _ a_said.0 b_said.0 in
    let kinds = number-unique 1 3 kind kind' _ (omega arith) a_in.1 b_in.1 a_said.1 b_said.1 in
    let numbers = sym a_said.2 ∙ b_said.2 in cc
says_one (Link id cpf name) (Link id' cpf' name') fields types a_in b_in a_said b_said =
    let ids = IsNumeralText-unique 9 9 id id' _ a_said.0 b_said.0 in
    let cpfs = cpf_text-injective cpf cpf' a_in.1 b_in.1 (sym a_said.1 ∙ b_said.1) in
    let names = name-unique 150 name name' _ a_in.2 b_in.2 a_said.2 b_said.2 in cc
says_one (Schedule code minutes times) (Schedule code' minutes' times') fields types a_in b_in a_said b_said =
    let names = name-unique 30 code code' _ a_in.0 b_in.0 a_said.0 b_said.0 in
    let lengths = number-unique 1 1440 minutes minutes' _ (omega arith) a_in.1 b_in.1 a_said.1 b_said.1 in
    let hours = times-unique times times' fields a_in.2 b_in.2 a_said.2 b_said.2 a_said.3 b_said.3 in cc
says_one (Mark link at rep mark pair source schedule reason) (Mark link' at' rep' mark' pair' source' schedule' reason') fields types a_in b_in a_said b_said =
    let links = IsNumeralText-unique 9 9 link link' _ a_said.0 b_said.0 in
    let stamps = stamp-unique at at' _ a_in.1 b_in.1 a_said.1 b_said.1 in
    let reps = optional-unique IsId IsIdText rep rep' _ (λ v w v_in w_in v_said w_said. IsNumeralText-unique 9 9 v w _ v_said w_said)
    (λ v said. numeral_is_some 9 v _ said) a_in.2 b_in.2 a_said.2 b_said.2 in
    let marks = letter-unique mark mark' _ a_said.3 b_said.3 in
    let pairs = optional-unique IsPair IsPairText pair pair' _ (λ v w v_in w_in v_said w_said. IsNumeralText-unique 3 3 v w _ v_said w_said)
    (λ v said. numeral_is_some 3 v _ said) a_in.4 b_in.4 a_said.4 b_said.4 in
    let sources = letter-unique source source' _ a_said.5 b_said.5 in
    let schedules = name-unique 30 schedule schedule' _ a_in.6 b_in.6 a_said.6 b_said.6 in
    let reasons = name-unique 150 reason reason' _ a_in.7 b_in.7 a_said.7 b_said.7 in cc
says_one (Registration link number) (Registration link' number') fields types a_in b_in a_said b_said =
    let links = IsNumeralText-unique 9 9 link link' _ a_said.0 b_said.0 in
    let numbers = name-unique 30 number number' _ a_in.1 b_in.1 a_said.1 b_said.1 in cc
says_one (Absence link kind date minutes movement) (Absence link' kind' date' minutes' movement') fields types a_in b_in a_said b_said =
    let links = IsNumeralText-unique 9 9 link link' _ a_said.0 b_said.0 in
    let kinds = number-unique 1 4 kind kind' _ (omega arith) a_in.1 b_in.1 a_said.1 b_said.1 in
    let dates = day_text-injective date date' a_in.2 b_in.2 (sym a_said.2 ∙ b_said.2) in
    let lengths = optional_number-unique 0 99999 minutes minutes' _ (omega arith) a_in.3 b_in.3 a_said.3 b_said.3 in
    let movements = optional_number-unique 1 2 movement movement' _ (omega arith) a_in.4 b_in.4 a_said.4 b_said.4 in cc
says_one (Program name version developer developer_name email) (Program name' version' developer' developer_name' email') fields types a_in b_in a_said b_said =
    let names = name-unique 150 name name' _ a_in.0 b_in.0 a_said.0 b_said.0 in
    let versions = name-unique 8 version version' _ a_in.1 b_in.1 a_said.1 b_said.1 in
    let developers = owner-unique _ developer developer' _ a_in.2 b_in.2 a_said.2 b_said.2 in
    let makers = name-unique 150 developer_name developer_name' _ a_in.3 b_in.3 a_said.3 b_said.3 in
    let emails = name-unique 50 email email' _ a_in.4 b_in.4 a_said.4 b_said.4 in cc
says_one (Counts counts) (Counts counts') fields types a_in b_in a_said b_said =
    ap Counts (counts-unique counts counts' fields a_in.0 b_in.0 a_in.1 b_in.1 a_said.0 b_said.0)
says_one _ _ fields types a_in b_in a_said b_said = absurd (cc)
