-- Laws of the grammar of lane files: what is said is said once, and the fields that say something are of their kinds.
use Rattle.std.proofs.Common.{◌≡◌, ℕ, ◌⊎◌, inl, inr, List, length, get_or, refl, sym, ap, ◌∙◌, subst, decimal, arith}
use Rattle.std.proofs.lemmas.Fmt.{decimal_injective}
use Rattle.rep_fields.specs.Digits.{numeral, FitsDigits}
use Rattle.rep_fields.specs.Latin.{IsText, IsFilled}
use Rattle.rep_fields.specs.Identity.{IsCpf, cpf_text}
use Rattle.rep_fields.specs.Employer.{IsEmployerId}
use Rattle.rep_fields.specs.declared.employer.EmployerId.{EmployerId}
use Rattle.rep_fields.specs.declared.employer.EmployerId.TheVariants.{Cnpj, Person}
use Rattle.rep_fields.proofs.Numerals.{numeral-injective, length-numeral}
use Rattle.rep_fields.proofs.Texts.{IsFilled-unique}
use Rattle.afd_records.specs.Record.{IsWrittenEvent, op_text}
use Rattle.afd_records.specs.declared.record.Op.{Op}
use Rattle.afd_records.specs.declared.record.Op.TheVariants.{Include, Amend, Exclude}
use Rattle.rep_wire.specs.Request.{IsSeq}
use Rattle.rep_wire.specs.LaneGrammar.{letter_text, IsIdText, IsCnoText}
use Rattle.rep_wire.specs.declared.letter.Letter.{Letter}
use Rattle.rep_wire.specs.declared.letter.Letter.TheVariants as letter

pub letter_text-injective : (a b : Letter) → letter_text a ≡ letter_text b → a ≡ b
letter_text-injective letter.Mark letter.Mark h = refl
letter_text-injective letter.Employer letter.Employer h = refl
letter_text-injective letter.Worker letter.Worker h = refl
letter_text-injective letter.Adjust letter.Adjust h = refl
letter_text-injective letter.Event letter.Event h = refl
letter_text-injective letter.Extract letter.Extract h = refl
letter_text-injective _ _ h = absurd (omega (arith, ap (λ xs. get_or xs 0 0) h))

pub op_text-injective : (a b : Op) → op_text a ≡ op_text b → a ≡ b
op_text-injective Include Include h = refl
op_text-injective Amend Amend h = refl
op_text-injective Exclude Exclude h = refl
op_text-injective _ _ h = absurd (omega (arith, ap (λ xs. get_or xs 0 0) h))

pub seq-injective : (a b : ℕ) → IsSeq a → IsSeq b → decimal a ≡ decimal b → a ≡ b
seq-injective a b a_in b_in h = decimal_injective a b (omega arith) (omega arith) h

pub cpf_text-injective : (a b : ℕ) → IsCpf a → IsCpf b → cpf_text a ≡ cpf_text b → a ≡ b
cpf_text-injective a b a_in b_in h = numeral-injective 11 a b a_in.size b_in.size h

pub event-injective : (a b : ℕ) → IsWrittenEvent a → IsWrittenEvent b → numeral 2 a ≡ numeral 2 b → a ≡ b
event-injective a b a_in b_in h = numeral-injective 2 a b (omega arith) (omega arith) h

pub id-unique : (kind : List ℕ) (a b : EmployerId) (text : List ℕ) → IsEmployerId a → IsEmployerId b
    → IsIdText kind a text → IsIdText kind b text → a ≡ b
id-unique kind (Cnpj m) (Cnpj n) text a_in b_in a_said b_said =
    ap Cnpj (numeral-injective 14 m n a_in.size b_in.size (sym a_said.1 ∙ b_said.1))
id-unique kind (Person m) (Person n) text a_in b_in a_said b_said =
    ap Person (cpf_text-injective m n a_in b_in (sym a_said.1 ∙ b_said.1))
id-unique kind _ _ text a_in b_in a_said b_said =
    absurd (omega (arith, ap (λ xs. get_or xs 0 0) (sym a_said.0 ∙ b_said.0)))

pub cno-unique : (a b : ℕ) (text : List ℕ) → IsCnoText a text → IsCnoText b text → a ≡ b
cno-unique a b text (inl none) (inl same) = none.1 ∙ sym same.1
cno-unique a b text (inl none) (inr some) =
    absurd (omega (arith, ap length (sym none.0 ∙ some.1.written), length-numeral some.0 b, some.1.some))
cno-unique a b text (inr some) (inl none) =
    absurd (omega (arith, ap length (sym none.0 ∙ some.1.written), length-numeral some.0 a, some.1.some))
cno-unique a b text (inr some) (inr other) =
    let width : some.0 ≡ other.0 =
    sym (length-numeral some.0 a) ∙ ap length (sym some.1.written ∙ other.1.written) ∙ length-numeral other.0 b in
    let fits : FitsDigits other.0 a = subst (λ (w : ℕ). FitsDigits w a) width some.1.fits in
    let same : numeral other.0 a ≡ numeral other.0 b =
    ap (λ w. numeral w a) (sym width) ∙ sym some.1.written ∙ other.1.written in
    numeral-injective other.0 a b fits other.1.fits same

pub text-unique : (most : ℕ) (a b text : List ℕ) → IsText most a → IsText most b → IsFilled a text → IsFilled b text
    → a ≡ b
text-unique most a b text a_in b_in a_said b_said = IsFilled-unique a b text a_in.trimmed b_in.trimmed a_said b_said

-- the first field off comes behind a field that is of its kind
pub past : {P E R : Type 0} → (¬ P × E) ⊎ (P × R) → P → R
past (inl bad) fits = absurd (bad.0 fits)
past (inr rest) fits = rest.1

-- the first field off is this one, or comes behind it
pub off_here : {P E R : Type 0} → ¬ P → E → (¬ P × E) ⊎ (P × R)
off_here bad at = inl (bad, at)

pub off_behind : {P E R : Type 0} → P → R → (¬ P × E) ⊎ (P × R)
off_behind fits rest = inr (fits, rest)
