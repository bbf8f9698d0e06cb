-- What stands before a clocking in a history that was founded.
use Rattle.std.proofs.Common.{◌≡◌, ℕ, suc, ◌<◌, inl, inr, List, [], ◌∷◌, ◌++◌, length, Bool, true, false, Option, Some, None, refl, sym, ap, subst, ◌∙◌, arith, append_assoc}
use Rattle.std.specs.Prelude.{◌⊎◌, ◌==◌, if◌then◌else◌}
use Rattle.std.proofs.lemmas.Bool.{eqb-true}
use Rattle.rep_fields.specs.Moment.{Moment}
use Rattle.afd_records.specs.Record.{IsClocking}
use Rattle.afd_records.specs.declared.record.Body.{Body}
use Rattle.afd_records.specs.declared.record.Body.TheVariants as body
use Rattle.rep_wire.specs.Made.{made_of}
use Rattle.rep_wire.specs.Request.{IsAsk, IsFoundingAsk}
use Rattle.rep_wire.specs.declared.request.Ask.{Ask}
use Rattle.rep_wire.specs.declared.request.Ask.TheVariants.{Mark, Employer, Worker, Adjust, Event}
use Rattle.rep_wire.specs.declared.request.Entry.{Entry}
use Rattle.rep_core.specs.Answered.{hash_in}
use Rattle.rep_core.specs.History.{IsEmployer, IsNumbered, last_worker, later, worker_in}
use Rattle.rep_core.specs.Valid.{Fits, Founds, IsFounded}
use Rattle.rep_core.specs.Verdict.{HasWorker, IsKnown}
use Rattle.rep_core.specs.declared.verdict.WorkerState.{WorkerState}
use Rattle.rep_core.proofs.Numbered.{IsNumbered-unique}
use Rattle.rep_core.proofs.Splits.{split_in}
use Rattle.rep_receipt.specs.Receipt as receipts
use Rattle.rep_query.specs.Receipt.{IsClockingOf, IsWorkerOf}

-- The first record is an employer's

founding_employer : (ask : Ask) (now : Moment) → IsFoundingAsk ask → receipts.IsEmployer (made_of ask now)
founding_employer (Mark cpf collector at) now asked = absurd asked
founding_employer (Employer resp id cno name place) now asked = asked.1
founding_employer (Worker op cpf name extra resp) now asked = absurd asked
founding_employer (Adjust before resp) now asked = absurd asked
founding_employer (Event code) now asked = absurd asked

named_employer : (b : Body) → receipts.IsEmployer b → IsEmployer b
named_employer (body.Employer at resp id cno name place) is = tt
named_employer (body.Adjust before after resp) is = absurd is
named_employer (body.Worker at op cpf name extra resp) is = absurd is
named_employer (body.Event at code) is = absurd is
named_employer (body.Clocking marked cpf recorded collector offline) is = absurd is

founds_employer : (e : Entry) → Founds e → receipts.IsEmployer e.body
founds_employer e founds =
    subst (λ (x : Entry). receipts.IsEmployer x.body) (sym founds.made) (founding_employer founds.q.ask founds.now founds.founding.ask)

pub first_employer : (h : List Entry) → IsFounded h → (e : Entry) × IsNumbered h 1 e × IsEmployer e.body
first_employer [] founded = absurd founded
first_employer (first ∷ h) founded =
    (first, record { before = []; behind = h; split = refl; number = refl }, named_employer first.body (founds_employer first founded.0))

no_clocking : (cpf : ℕ) (b : Body) → IsEmployer b → IsClockingOf cpf b → ⊥
no_clocking cpf (body.Employer at resp id cno name place) is clocking = clocking
no_clocking cpf (body.Adjust before after resp) is clocking = is
no_clocking cpf (body.Worker at op worker name extra resp) is clocking = is
no_clocking cpf (body.Event at code) is clocking = is
no_clocking cpf (body.Clocking marked worker recorded collector offline) is clocking = is

-- A clocking isn't the first record

pub clocking_later : (h : List Entry) (nsr cpf : ℕ) (e : Entry) → IsFounded h → IsNumbered h nsr e → IsClockingOf cpf e.body → 1 < nsr
clocking_later h nsr cpf e founded numbered clocking = by numbered.before refl
  where
    first : (x : Entry) × IsNumbered h 1 x × IsEmployer x.body
    first = first_employer h founded

    by : (before : List Entry) → numbered.before ≡ before → 1 < nsr
    by [] none =
        let one : nsr ≡ 1 = numbered.number ∙ ap (λ (l : List Entry). suc (length l)) none in
        let same : first.0 ≡ e = IsNumbered-unique h 1 first.0 e first.1 (subst (λ n. IsNumbered h n e) one numbered) in
        absurd (no_clocking cpf e.body (subst (λ (x : Entry). IsEmployer x.body) same first.2) clocking)
    by (x ∷ xs) some =
        let many : nsr ≡ suc (suc (length xs)) = numbered.number ∙ ap (λ (l : List Entry). suc (length l)) some in
        omega arith

-- An employer's id has a text

asked_employer : (ask : Ask) (now : Moment) → IsAsk ask → IsEmployer (made_of ask now) → receipts.IsEmployer (made_of ask now)
asked_employer (Mark cpf collector None) now asked is = absurd is
asked_employer (Mark cpf collector (Some at)) now asked is = absurd is
asked_employer (Employer resp id cno name place) now asked is = asked.1
asked_employer (Worker op cpf name extra resp) now asked is = absurd is
asked_employer (Adjust before resp) now asked is = absurd is
asked_employer (Event code) now asked is = absurd is

fits_employer : (h : List Entry) (e : Entry) → Fits h e → IsEmployer e.body → receipts.IsEmployer e.body
fits_employer h e fits is =
    subst (λ (x : Entry). receipts.IsEmployer x.body) (sym fits.made)
    (asked_employer fits.q.ask fits.now fits.asked.ask (subst (λ (x : Entry). IsEmployer x.body) fits.made is))

-- the entry at a number is the first, or fits those before it
behind_first : (h before behind : List Entry) (e : Entry) → IsFounded h → h ≡ before ++ e ∷ behind → ((before ≡ []) × Founds e) ⊎ Fits before e
behind_first [] before behind e founded split = absurd founded
behind_first (first ∷ h) [] behind e founded split =
    let same : first ≡ e = cc in
    inl (refl, subst Founds same founded.0)
behind_first (first ∷ h) (x ∷ before) behind e founded split =
    let same : first ≡ x = cc in
    let rest : h ≡ before ++ e ∷ behind = cc in
    inr (subst (λ (y : Entry). Fits (y ∷ before) e) same (founded.1 before e behind rest))

pub employer_of_history : (h : List Entry) (n : ℕ) (e : Entry) → IsFounded h → IsNumbered h n e → IsEmployer e.body → receipts.IsEmployer e.body
employer_of_history h n e founded numbered is = elim (behind_first h numbered.before numbered.behind e founded numbered.split) [
  | inl first ↦ founds_employer e first.1
  | inr fits ↦ fits_employer numbered.before e fits is
]

-- The worker's record

-- one place on
one_on : (e : Entry) (h : List Entry) (n : ℕ) (d : Entry) → IsNumbered h n d → IsNumbered (e ∷ h) (suc n) d
one_on e h n d numbered = record {
  before = e ∷ numbered.before;
  behind = numbered.behind;
  split = ap (λ (l : List Entry). e ∷ l) numbered.split;
  number = ap suc numbered.number;
}

-- in a longer history
in_longer : (before behind : List Entry) (e : Entry) (n : ℕ) (d : Entry) → IsNumbered before n d → IsNumbered (before ++ e ∷ behind) n d
in_longer before behind e n d numbered = record {
  before = numbered.before;
  behind = numbered.behind ++ e ∷ behind;
  split = ap (λ (l : List Entry). l ++ e ∷ behind) numbered.split ∙ append_assoc numbered.before (d ∷ numbered.behind) (e ∷ behind);
  number = numbered.number;
}

worker_here : (cpf : ℕ) (b : Body) (state : WorkerState) → worker_in cpf b ≡ Some state → IsWorkerOf cpf b
worker_here cpf (body.Employer at resp id cno name place) state is = absurd cc
worker_here cpf (body.Adjust before after resp) state is = absurd cc
worker_here cpf (body.Worker at op worker name extra resp) state is = by (worker == cpf) refl
  where
    by : (b : Bool) → (worker == cpf) ≡ b → worker ≡ cpf
    by true same = eqb-true worker cpf same
    by false other =
        let none : None ≡ Some state = sym (ap (λ (b : Bool). if b then Some (record { op = op; at = at }) else None) other) ∙ is in
        absurd cc
worker_here cpf (body.Event at code) state is = absurd cc
worker_here cpf (body.Clocking marked worker recorded collector offline) state is = absurd cc

-- the worker's record is the first, or one of the others
found_on : (cpf : ℕ) (e : Entry) (h : List Entry) (state : WorkerState) (last : Option WorkerState) → last_worker cpf h ≡ last → last_worker cpf (e ∷ h) ≡ Some state
    → ((s : WorkerState) → last_worker cpf h ≡ Some s → (n : ℕ) × (d : Entry) × IsNumbered h n d × IsWorkerOf cpf d.body)
    → (n : ℕ) × (d : Entry) × IsNumbered (e ∷ h) n d × IsWorkerOf cpf d.body
found_on cpf e h state None none is others =
    let here : worker_in cpf e.body ≡ Some state = sym (ap (later (worker_in cpf e.body)) none) ∙ is in
    (1, e, record { before = []; behind = h; split = refl; number = refl }, worker_here cpf e.body state here)
found_on cpf e h state (Some last) some is others =
    let w = others last some in
    (suc w.0, w.1, one_on e h w.0 w.1 w.2, w.3)

worker_found : (cpf : ℕ) (h : List Entry) (state : WorkerState) → last_worker cpf h ≡ Some state → (n : ℕ) × (d : Entry) × IsNumbered h n d × IsWorkerOf cpf d.body
worker_found cpf [] state is = absurd cc
worker_found cpf (e ∷ h) state is = found_on cpf e h state (last_worker cpf h) refl is (λ s known. worker_found cpf h s known)

known_state : (state : Option WorkerState) (mark : Option Moment) → IsKnown state mark → (s : WorkerState) × (state ≡ Some s)
known_state None mark known = absurd known
known_state (Some s) mark known = (s, refl)

asked_worker : (cpf : ℕ) (h : List Entry) (ask : Ask) (now : Moment) → IsClockingOf cpf (made_of ask now) → HasWorker h ask → (s : WorkerState) × (last_worker cpf h ≡ Some s)
asked_worker cpf h (Mark worker collector None) now clocking has =
    known_state (last_worker cpf h) None (subst (λ (w : ℕ). IsKnown (last_worker w h) None) clocking has)
asked_worker cpf h (Mark worker collector (Some at)) now clocking has =
    known_state (last_worker cpf h) (Some at) (subst (λ (w : ℕ). IsKnown (last_worker w h) (Some at)) clocking has)
asked_worker cpf h (Employer resp id cno name place) now clocking has = absurd clocking
asked_worker cpf h (Worker op worker name extra resp) now clocking has = absurd clocking
asked_worker cpf h (Adjust before resp) now clocking has = absurd clocking
asked_worker cpf h (Event code) now clocking has = absurd clocking

pub worker_before : (h : List Entry) (nsr cpf : ℕ) (e : Entry) → IsFounded h → IsNumbered h nsr e → IsClockingOf cpf e.body
    → (n : ℕ) × (d : Entry) × (n < nsr) × IsNumbered h n d × IsWorkerOf cpf d.body
worker_before h nsr cpf e founded numbered clocking = elim (behind_first h numbered.before numbered.behind e founded numbered.split) [
  | inl first ↦ absurd (no_clocking cpf e.body (named_employer e.body (founds_employer e first.1)) clocking)
  | inr fits ↦
      let made : IsClockingOf cpf (made_of fits.q.ask fits.now) = subst (λ (x : Entry). IsClockingOf cpf x.body) fits.made clocking in
      let known = asked_worker cpf numbered.before fits.q.ask fits.now made fits.fresh.1 in
      let w = worker_found cpf numbered.before known.0 known.1 in
      let inside = split_in numbered.before w.2.before w.2.behind w.1 w.2.split in (
        w.0,
        w.1,
        omega (arith, numbered.number, w.2.number),
        subst (λ (l : List Entry). IsNumbered l w.0 w.1) (sym numbered.split) (in_longer numbered.before numbered.behind e w.0 w.1 w.2),
        w.3,
      )
]

-- a record that has no hash is no clocking
pub no_hash : (h : List Entry) (nsr : ℕ) (b : Body) → hash_in h nsr b ≡ None → IsClocking b → ⊥
no_hash h nsr (body.Employer at resp id cno name place) none is = is
no_hash h nsr (body.Adjust before after resp) none is = is
no_hash h nsr (body.Worker at op worker name extra resp) none is = is
no_hash h nsr (body.Event at code) none is = is
no_hash h nsr (body.Clocking marked worker recorded collector offline) none is = absurd cc
