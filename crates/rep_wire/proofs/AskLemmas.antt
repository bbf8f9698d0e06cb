-- What the fields behind a line's second ask, or the first of them that is off its kind.
use Rattle.std.proofs.Common.{◌≡◌, ◌≤◌, ℕ, false, List, [], ◌∷◌, Option, Some, refl, sym, subst, ◌∙◌, codes, arith}
use Rattle.std.specs.Str.{bytes_eq}
use Rattle.rep_fields.specs.Calendar.{IsDay, day_text}
use Rattle.rep_fields.specs.Latin.{IsText, IsFilled}
use Rattle.rep_fields.specs.Employer.{IsEmployerId}
use Rattle.rep_fields.specs.Identity.{IsCpf, cpf_text}
use Rattle.rep_fields.specs.declared.employer.EmployerId.{EmployerId}
use Rattle.afd_records.specs.Record.{IsCno, op_text}
use Rattle.afd_records.specs.declared.record.Op.{Op}
use Rattle.rep_wire.specs.Fields.{fields_behind}
use Rattle.rep_wire.specs.LaneGrammar.{IsFirstOff, IsIdText, IsCnoText, IsNameOfEmployer, IsNameOfWorker, cpf_field, employer_kind_field, employer_id_field, cno_field, employer_name_field, place_field, op_field, worker_name_field, extra_field}
use Rattle.rep_wire.specs.Asking.{Asks, IsFault}
use Rattle.rep_wire.specs.declared.asking.Fault.TheVariants.{Number, Field}
use Rattle.rep_wire.specs.declared.letter.Letter.TheVariants as letter
use Rattle.rep_wire.specs.declared.request.Ask.TheVariants.{Employer, Worker}
use Rattle.rep_fields.proofs.StampTexts.{day_text-injective}
use Rattle.rep_wire.proofs.FieldLemmas.{fields_of-some, EachHasNoBar, EachHasNoBar-behind, HasNoBar-filled}
use Rattle.rep_wire.proofs.GrammarLemmas.{off_here, off_behind}

-- a clocking whose fourth field isn't `1` has no fifth
pub no_fifth : (behind : List (List ℕ)) (cpf mode text : List ℕ) → behind ≡ cpf ∷ mode ∷ fields_behind (Some text)
    → bytes_eq mode (codes "1") ≡ false → IsFault letter.Mark behind Number
no_fifth behind cpf mode text is online =
    subst (λ (fields : List (List ℕ)). IsFault letter.Mark fields Number) (sym is)
    (λ number. let more = rw online at number in omega (arith, fields_of-some text))

pub employer_fault : (behind : List (List ℕ)) (resp kind id cno name place : List ℕ) (number : ℕ)
    → behind ≡ resp ∷ kind ∷ id ∷ cno ∷ name ∷ place ∷ []
    → IsFirstOff 3 (cpf_field ∷ employer_kind_field ∷ employer_id_field kind ∷ cno_field ∷ employer_name_field ∷ place_field ∷ [])
    (resp ∷ kind ∷ id ∷ cno ∷ name ∷ place ∷ []) number
    → IsFault letter.Employer behind (Field number)
employer_fault behind resp kind id cno name place number is off =
    subst (λ (fields : List (List ℕ)). IsFault letter.Employer fields (Field number)) (sym is) (refl, off)

pub worker_fault : (behind : List (List ℕ)) (op cpf name extra resp : List ℕ) (number : ℕ)
    → behind ≡ op ∷ cpf ∷ name ∷ extra ∷ resp ∷ []
    → IsFirstOff 3 (op_field ∷ cpf_field ∷ worker_name_field op ∷ extra_field ∷ cpf_field ∷ [])
    (op ∷ cpf ∷ name ∷ extra ∷ resp ∷ []) number
    → IsFault letter.Worker behind (Field number)
worker_fault behind op cpf name extra resp number is off =
    subst (λ (fields : List (List ℕ)). IsFault letter.Worker fields (Field number)) (sym is) (refl, off)

-- what the fields of an employer's line say
pub record SaysEmployer (resp_text kind id_text cno_text name_text place_text : List ℕ) (resp : ℕ) (id : EmployerId) (cno : ℕ) (name place : List ℕ) : Type 0 where
  pub by : IsCpf resp × (resp_text ≡ cpf_text resp)
  pub whom : IsEmployerId id × IsIdText kind id id_text
  pub works : IsCno cno × IsCnoText cno cno_text
  pub named : IsNameOfEmployer name × IsFilled name name_text
  pub where_ : IsText 100 place × IsFilled place place_text

pub employer_asked : (text : Option (List ℕ)) (resp_text kind id_text cno_text name_text place_text : List ℕ) (resp : ℕ) (id : EmployerId) (cno : ℕ) (name place : List ℕ)
    → fields_behind text ≡ resp_text ∷ kind ∷ id_text ∷ cno_text ∷ name_text ∷ place_text ∷ []
    → SaysEmployer resp_text kind id_text cno_text name_text place_text resp id cno name place
    → Asks letter.Employer (fields_behind text) (Employer resp id cno name place)
employer_asked text resp_text kind id_text cno_text name_text place_text resp id cno name place is said =
    let bars : EachHasNoBar (resp_text ∷ kind ∷ id_text ∷ cno_text ∷ name_text ∷ place_text ∷ []) =
    subst EachHasNoBar is (EachHasNoBar-behind text) in
    subst (λ (fields : List (List ℕ)). Asks letter.Employer fields (Employer resp id cno name place)) (sym is) (record {
      in_range = (
        said.by.0,
        said.whom.0,
        said.works.0,
        said.named.0.0,
        said.named.0.1,
        HasNoBar-filled name name_text said.named.1 bars.1.1.1.1.0,
        said.where_.0,
        HasNoBar-filled place place_text said.where_.1 bars.1.1.1.1.1.0,
      );
      of_letter = refl;
      said = (said.by.1, said.whom.1, said.works.1, said.named.1, said.where_.1);
    })

-- what the fields of a worker's line say
pub record SaysWorker (op_there cpf_there name_text extra_text resp_text : List ℕ) (op : Op) (cpf : ℕ) (name extra : List ℕ) (resp : ℕ) : Type 0 where
  pub done : op_there ≡ op_text op
  pub whom : IsCpf cpf × (cpf_there ≡ cpf_text cpf)
  pub named : IsNameOfWorker op name × IsFilled name name_text
  pub further : IsText 4 extra × IsFilled extra extra_text
  pub by : IsCpf resp × (resp_text ≡ cpf_text resp)

pub worker_asked : (text : Option (List ℕ)) (op_there cpf_there name_text extra_text resp_text : List ℕ) (op : Op) (cpf : ℕ) (name extra : List ℕ) (resp : ℕ)
    → fields_behind text ≡ op_there ∷ cpf_there ∷ name_text ∷ extra_text ∷ resp_text ∷ []
    → SaysWorker op_there cpf_there name_text extra_text resp_text op cpf name extra resp
    → Asks letter.Worker (fields_behind text) (Worker op cpf name extra resp)
worker_asked text op_there cpf_there name_text extra_text resp_text op cpf name extra resp is said =
    let bars : EachHasNoBar (op_there ∷ cpf_there ∷ name_text ∷ extra_text ∷ resp_text ∷ []) =
    subst EachHasNoBar is (EachHasNoBar-behind text) in
    subst (λ (fields : List (List ℕ)). Asks letter.Worker fields (Worker op cpf name extra resp)) (sym is) (record {
      in_range = (
        said.whom.0,
        said.named.0.0,
        said.named.0.1,
        HasNoBar-filled name name_text said.named.1 bars.1.1.0,
        said.further.0,
        HasNoBar-filled extra extra_text said.further.1 bars.1.1.1.0,
        said.by.0,
      );
      of_letter = refl;
      said = (said.done, said.whom.1, said.named.1, said.further.1, said.by.1);
    })

-- a last day that isn't one, or is before the first
pub last_day_fault : (behind : List (List ℕ)) (from to : List ℕ) (first : ℕ) → behind ≡ from ∷ to ∷ []
    → IsDay first → from ≡ day_text first
    → ((day : ℕ) → IsDay day × (first ≤ day) → to ≡ day_text day → ⊥)
    → IsFault letter.Extract behind (Field 4)
last_day_fault behind from to first is in_range said none =
    subst (λ (fields : List (List ℕ)). IsFault letter.Extract fields (Field 4)) (sym is) (
      refl,
      off_behind (first, in_range, said) (off_here (λ period.
          let same : period.0 ≡ first = day_text-injective period.0 first period.2 in_range (sym period.5 ∙ said) in
          none period.1 (period.3, subst (λ (d : ℕ). d ≤ period.1) same period.4) period.6) refl),
    )
