-- a lane's second line founds its history with an employer's record
use Rattle.std.proofs.Common.{◌≡◌, ◌≢◌, ◌∙◌, ℕ, ◌-◌, ◌<◌, ◌≤◌, inl, inr, List, [], ◌∷◌, ◌++◌, length, get_or, reverse, position, Option, None, Some, ℤ, refl, sym, ap, subst, arith}
use Rattle.std.proofs.lemmas.List.Elements.{All-nil}
use Rattle.rep_fields.specs.Moment.{Moment, moment_at}
use Rattle.afd_records.specs.Record.{last_nsr}
use Rattle.rep_wire.specs.Made.{made_of}
use Rattle.rep_wire.specs.LaneGrammar.{Orders}
use Rattle.rep_wire.specs.declared.head.LaneHead.{LaneHead}
use Rattle.rep_wire.specs.declared.request.Ask.{Ask}
use Rattle.rep_wire.specs.declared.request.Ask.TheVariants.{Mark, Employer, Worker, Adjust, Event}
use Rattle.rep_wire.specs.declared.request.Request.{Request}
use Rattle.rep_wire.specs.declared.request.Order.TheVariants.{Asked, Extract}
use Rattle.rep_wire.specs.declared.request.Entry.{Entry}
use Rattle.rep_wire.proofs.OrderLemmas.{orders_agree, not_malformed}
use Rattle.rep_core.specs.History.{IsEmployer, CameBy}
use Rattle.rep_core.specs.Verdict.{IsVerdict, HasWorker}
use Rattle.rep_core.specs.Answered.{entry_of}
use Rattle.rep_core.specs.declared.verdict.Verdict.TheVariants.{Fresh}
use Rattle.rep_core.proofs.Lookups.{employs, no_employer, employer_found}
use Rattle.rep_core.proofs.Numbered.{place_of_number}
use Rattle.rep_lane.specs.Answers.{LineAnswer, replied, extracted}
use Rattle.rep_lane.specs.Serving.{Recording, ServesLine, ServesLines}
use Rattle.rep_lane.proofs.ServingLemmas.{ServesLines-goes_on}
use Rattle.rep_print.specs.Extraction.{rules_at}
use Rattle.rep_print.specs.Printing.{AsksEmployer, BeginsByEmployer, IsEmployerLine, Run}
use Rattle.rep_print.specs.Writing.{HasEmployer}

made_employer : (ask : Ask) (now : Moment) → AsksEmployer ask → IsEmployer (made_of ask now)
made_employer (Mark cpf collector at) now asks = absurd asks
made_employer (Employer resp id cno name place) now asks = asks
made_employer (Worker op cpf name extra resp) now asks = absurd asks
made_employer (Adjust before resp) now asks = absurd asks
made_employer (Event code) now asks = absurd asks

needs_no_worker : (ask : Ask) → AsksEmployer ask → HasWorker [] ask
needs_no_worker (Mark cpf collector at) asks = absurd asks
needs_no_worker (Employer resp id cno name place) asks = tt
needs_no_worker (Worker op cpf name extra resp) asks = absurd asks
needs_no_worker (Adjust before resp) asks = absurd asks
needs_no_worker (Event code) asks = absurd asks

-- over no entries, the employer's record is to be recorded
fresh_first : (q : Request) → AsksEmployer q.ask → IsVerdict last_nsr [] q Fresh
fresh_first q asks = (All-nil (λ (d : Entry). CameBy q.origin q.seq d → ⊥), needs_no_worker q.ask asks, omega arith)

-- the request that the line asks for
asked_here : (p q : Request) → Asked p ≡ Asked q → p ≡ q
asked_here p q same = cc

first_recorded : (zone : ℤ) (q : Request) (given : List ℕ) (after : List Entry) → AsksEmployer q.ask → Recording (rules_at zone) [] q given after
    → (e : Entry) × IsEmployer e.body × (after ≡ e ∷ [])
first_recorded zone q [] after asks r = absurd (r.0 (fresh_first q asks))
first_recorded zone q (minute ∷ []) after asks r = (entry_of q (moment_at minute zone), made_employer q.ask (moment_at minute zone) asks, r.2)
first_recorded zone q (minute ∷ next ∷ minutes) after asks r = absurd r

-- a line that asks for the employer's record orders no extraction
pub no_extraction : (head : LaneHead) (line : List ℕ) (seq from to : ℕ) → IsEmployerLine head line → Orders head line (Extract seq from to) → ⊥
no_extraction head line seq from to asks ordered =
    let clash : Asked asks.request ≡ Extract seq from to = orders_agree head line (Asked asks.request) (Extract seq from to) asks.ordered ordered in
    absurd cc

-- line 2 is recorded, and nothing stands before it
first_served : (zone : ℤ) (head : LaneHead) (line given : List ℕ) (a : LineAnswer) (after : List Entry) → IsEmployerLine head line
    → ServesLine (rules_at zone) head [] line given a after → (e : Entry) × IsEmployer e.body × (after ≡ e ∷ [])
first_served zone head line given (replied a) after asks (inl t) =
    let same : asks.request ≡ t.request = asked_here asks.request t.request (orders_agree head line (Asked asks.request) (Asked t.request) asks.ordered t.ordered) in
    first_recorded zone t.request given after (subst (λ (q : Request). AsksEmployer q.ask) same asks.asks) t.served.recording
first_served zone head line given (replied a) after asks (inr t) =
    absurd (not_malformed head line (Asked asks.request) t.malformed asks.ordered t.is_malformed)
first_served zone head line given (extracted seq x) after asks t = absurd (no_extraction head line seq t.from t.to asks t.ordered)

found_employer : (h : List Entry) (found : Option ℕ) → position employs (reverse h) ≡ found → (k : ℕ) (d : Entry) → k < length h → IsEmployer (get_or h k d).body → HasEmployer h
found_employer h None at k d inside employs_there = absurd (no_employer h at k d inside employs_there)
found_employer h (Some i) at k d inside employs_there = let found = employer_found h i at in (length h - i, found.0, found.1)

first_employer : (e : Entry) (h : List Entry) → IsEmployer e.body → HasEmployer (e ∷ h)
first_employer e h employs_there = found_employer (e ∷ h) (position employs (reverse (e ∷ h))) refl 0 e (omega arith) employs_there

has_employer : (zone : ℤ) (head : LaneHead) (lines : List (List ℕ)) (given : List ℕ) (answers : List LineAnswer) (after : List Entry)
    → BeginsByEmployer head lines → ServesLines (rules_at zone) head [] lines given answers after → answers ≢ [] → HasEmployer after
has_employer zone head [] given [] after begins serves some = absurd (some refl)
has_employer zone head (line ∷ lines) given (a ∷ answers) after begins serves some =
    let first = first_served zone head line serves.0 a serves.2 begins serves.4 in
    let more = ServesLines-goes_on (rules_at zone) head serves.2 lines serves.1 answers after serves.5 in
    subst HasEmployer (sym (more.1 ∙ ap (λ (h : List Entry). h ++ more.0) first.2)) (first_employer first.0 more.0 first.1)
has_employer zone head [] given (a ∷ answers) after begins serves some = absurd serves
has_employer zone head (line ∷ lines) given [] after begins serves some = absurd serves

pub run_employer : {zone : ℤ} (run : Run zone) → run.answers ≢ [] → HasEmployer run.history
run_employer {zone} run some = has_employer zone run.head run.lines run.given run.answers run.history run.begins run.serves some

-- such a history has an entry
pub employer_entries : (h : List Entry) → HasEmployer h → 1 ≤ length h
employer_entries h has =
    let at = place_of_number h has.0 has.1 has.1 has.2.numbered in
    omega (arith, at.0, at.1)

-- without answers there is no entry
no_entries : (zone : ℤ) (head : LaneHead) (lines : List (List ℕ)) (given : List ℕ) (answers : List LineAnswer) (after : List Entry)
    → ServesLines (rules_at zone) head [] lines given answers after → answers ≡ [] → after ≡ []
no_entries zone head [] given [] after serves none = serves.1
no_entries zone head (line ∷ lines) given (a ∷ answers) after serves none = absurd cc
no_entries zone head [] given (a ∷ answers) after serves none = absurd serves
no_entries zone head (line ∷ lines) given [] after serves none = absurd serves

pub run_empty : {zone : ℤ} (run : Run zone) → run.answers ≡ [] → run.history ≡ []
run_empty {zone} run none = no_entries zone run.head run.lines run.given run.answers run.history run.serves none
