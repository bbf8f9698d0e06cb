-- The employer in a history, and the head of an extraction.
use Rattle.std.proofs.Common.{◌≡◌, ℕ, suc, ◌+◌, ◌-◌, ◌<◌, ◌≤◌, inl, inr, List, [], ◌∷◌, refl, sym, ap, subst, ◌∙◌, arith, ◌⊎◌}
use Rattle.std.specs.Prelude.{All}
use Rattle.rep_fields.specs.Digits.{IsDigitByte}
use Rattle.rep_fields.specs.Employer.{kind_byte, id_number, id_text}
use Rattle.rep_fields.specs.declared.employer.EmployerId.{EmployerId}
use Rattle.rep_fields.specs.declared.employer.EmployerId.TheVariants.{Cnpj, Person}
use Rattle.rep_fields.specs.Moment.{Moment}
use Rattle.rep_fields.proofs.Numerals.{IsDigitByte-numeral}
use Rattle.afd_records.specs.declared.record.Body.{Body}
use Rattle.afd_records.specs.declared.record.Body.TheVariants as body
use Rattle.rep_wire.specs.Made.{made_of}
use Rattle.rep_wire.specs.Request.{IsFoundingAsk}
use Rattle.rep_wire.specs.declared.request.Ask.{Ask}
use Rattle.rep_wire.specs.declared.request.Ask.TheVariants.{Mark, Employer, Worker, Adjust, Event}
use Rattle.rep_wire.specs.declared.request.Entry.{Entry}
use Rattle.rep_core.specs.History.{IsEmployer, IsLastEmployer, IsNumbered}
use Rattle.rep_core.specs.Valid.{Founds, IsFounded}
use Rattle.rep_core.proofs.Numbered.{IsNumbered-unique}

founding_employer : (ask : Ask) (now : Moment) → IsFoundingAsk ask → IsEmployer (made_of ask now)
founding_employer (Mark cpf collector at) now asked = absurd asked
founding_employer (Employer resp id cno name place) now asked = tt
founding_employer (Worker op cpf name extra resp) now asked = absurd asked
founding_employer (Adjust before resp) now asked = absurd asked
founding_employer (Event code) now asked = absurd asked

first_employer : (e : Entry) → Founds e → IsEmployer e.body
first_employer e founds =
    subst (λ (x : Entry). IsEmployer x.body) (sym founds.made) (founding_employer founds.q.ask founds.now founds.founding.ask)

-- a founded history has an employer
pub founded_employer : (h : List Entry) → IsFounded h → All (λ d. IsEmployer d.body → ⊥) h → ⊥
founded_employer [] founded none = absurd founded
founded_employer (first ∷ h) founded none = none 0 first (omega arith) (first_employer first founded.0)

pub employer_form : (b : Body) → IsEmployer b
    → ((at : Moment) (resp : ℕ) (id : EmployerId) (cno : ℕ) (name place : List ℕ) → b ≡ body.Employer at resp id cno name place → ⊥) → ⊥
employer_form (body.Employer at resp id cno name place) is other = other at resp id cno name place refl
employer_form (body.Adjust before after resp) is other = is
employer_form (body.Worker at op cpf name extra resp) is other = is
employer_form (body.Event at code) is other = is
employer_form (body.Clocking marked cpf recorded collector offline) is other = is

pub IsLastEmployer-numbered : (h : List Entry) (nsr : ℕ) (e d : Entry) → IsLastEmployer h nsr e → IsNumbered h nsr d → IsLastEmployer h nsr d
IsLastEmployer-numbered h nsr e d last numbered =
    subst (λ x. IsLastEmployer h nsr x) (IsNumbered-unique h nsr e d last.numbered numbered) last

-- the kind of an id as a number
pub kind_of : (id : EmployerId) (byte : ℕ) → byte ≡ kind_byte id → (48 + (byte - 48) ≡ kind_byte id) × ((byte - 48 ≡ 1) ⊎ (byte - 48 ≡ 2))
kind_of (Cnpj number) byte is = (omega arith, inl (omega arith))
kind_of (Person cpf) byte is = (omega arith, inr (omega arith))

pub id_digits : (id : EmployerId) → All IsDigitByte (id_text id)
id_digits id = IsDigitByte-numeral 14 (id_number id)
