-- An extraction: the AFD of each period is there, and nothing changes.
use Rattle.std.proofs.Common.{◌≡◌, ◌⊎◌, inl, inr, ℕ, suc, ◌-◌, List, [], ◌∷◌, length, Some, None, Ok, refl, sym, ap, subst}
use Rattle.std.specs.Prelude.{All}
use Rattle.std.proofs.lemmas.List.Elements.{All-cons, All-nil}
use Rattle.rep_fields.specs.Employer.{kind_byte, id_text}
use Rattle.rep_fields.specs.Moment.{moment_at}
use Rattle.afd_records.specs.File.{counts_of, file_text}
use Rattle.afd_records.specs.declared.header.Head.{Head}
use Rattle.afd_records.specs.declared.record.Body.{Body}
use Rattle.afd_records.specs.declared.record.Body.TheVariants as body
use Rattle.rep_wire.specs.declared.request.Request.{Request}
use Rattle.rep_wire.specs.declared.request.Entry.{Entry}
use Rattle.rep_wire.specs.declared.reply.Slip.{Slip}
use Rattle.rep_core.specs.Chained.{history_lines}
use Rattle.rep_core.specs.History.{IsEmployer, IsLastEmployer, bodies_of, days_of}
use Rattle.rep_core.specs.Valid.{IsFounded}
use Rattle.rep_site.specs.declared.site.Site.{Site}
use Rattle.afd_extract.specs.Period.{IsPeriod, Range, in_range}
use Rattle.rep_store.specs.Extracting.{IsAfdOf, IsExtractHead, NamesEmployer}
use Rattle.rep_store.proofs.Employers.{founded_employer, kind_of}
use Rattle.rep_world.specs.declared.naming.Naming.{Naming}
use Rattle.rep_world.specs.declared.recorder.Recorder.{Recorder}
use Rattle.rep_world.specs.declared.recorder.Recorder.TheVariants.{Up, Down}
use Rattle.rep_world.specs.declared.event.Event.TheVariants.{Extract}
use Rattle.rep_world.specs.declared.event.Seen.TheVariants.{Extracted, Idle}
use Rattle.rep_world.specs.Events.{Does}
use Rattle.rep_world.specs.Fields.{IsKept, world_of}
use Rattle.rep_world.specs.Trial.{ExtractsFrom}
use Rattle.rep_world.proofs.Worlds.{GoesOn-refl, does_step}

-- a record is an employer's, or it isn't
is_employer : (b : Body) → IsEmployer b ⊎ (IsEmployer b → ⊥)
is_employer (body.Employer at resp id cno name place) = inl tt
is_employer (body.Adjust before after resp) = inr (λ is. is)
is_employer (body.Worker at op cpf name extra resp) = inr (λ is. is)
is_employer (body.Event at code) = inr (λ is. is)
is_employer (body.Clocking marked cpf recorded collector offline) = inr (λ is. is)

abbrev HasLast : List Entry → Type 0
HasLast h = (nsr : ℕ) × (e : Entry) × IsLastEmployer h nsr e

abbrev HasNone : List Entry → Type 0
HasNone h = All (λ (d : Entry). IsEmployer d.body → ⊥) h

last_behind : (x : Entry) (h : List Entry) → HasLast h → HasLast (x ∷ h)
last_behind x h found = (
  suc found.0,
  found.1,
  record {
    numbered = record {
      before = x ∷ found.2.numbered.before;
      behind = found.2.numbered.behind;
      split = ap (λ (xs : List Entry). x ∷ xs) found.2.numbered.split;
      number = ap suc found.2.numbered.number;
    };
    employer = found.2.employer;
    last = found.2.last;
  },
)

last_or_none : (h : List Entry) → HasLast h ⊎ HasNone h
last_or_none [] = inr (All-nil (λ (d : Entry). IsEmployer d.body → ⊥))
last_or_none (x ∷ h) = elim (last_or_none h) [
  | inl found ↦ inl (last_behind x h found)
  | inr none ↦ elim (is_employer x.body) [
    | inl is ↦ inl (1, x, record { numbered = record { before = []; behind = h; split = refl; number = refl }; employer = is; last = none })
    | inr not ↦ inr (All-cons (λ (d : Entry). IsEmployer d.body → ⊥) x h not none)
  ]
]

last_of : (h : List Entry) → IsFounded h → HasLast h
last_of h founded = elim (last_or_none h) [ inl found ↦ found | inr none ↦ absurd (founded_employer h founded none) ]

-- the head of an extraction that names the employer of a record
head_by : (site : Site) (h : List Entry) (from to minute : ℕ) (nsr : ℕ) (e : Entry) (b : Body) → e.body ≡ b → IsEmployer b → IsLastEmployer h nsr e → (head : Head) × IsExtractHead site h from to minute head
head_by site h from to minute nsr e (body.Employer at resp id cno name place) is employer last = (
  record {
    id = id;
    cno = cno;
    name = name;
    rep = site.rep;
    first = from;
    last = to;
    made = moment_at minute site.offset;
    dev_kind = kind_byte site.developer - 48;
    dev = id_text site.developer;
    model = [];
  },
  record {
    employer = (
      nsr,
      e,
      last,
      subst (λ (b : Body). NamesEmployer (record {
        id = id;
        cno = cno;
        name = name;
        rep = site.rep;
        first = from;
        last = to;
        made = moment_at minute site.offset;
        dev_kind = kind_byte site.developer - 48;
        dev = id_text site.developer;
        model = [];
      }) b) (sym is) (refl, refl, refl),
    );
    rep = refl;
    first = refl;
    last = refl;
    made = refl;
    dev_kind = (kind_of site.developer (kind_byte site.developer) refl).0;
    dev = refl;
    model = refl;
  },
)
head_by site h from to minute nsr e (body.Adjust before after resp) is employer last = absurd employer
head_by site h from to minute nsr e (body.Worker at op cpf name extra resp) is employer last = absurd employer
head_by site h from to minute nsr e (body.Event at code) is employer last = absurd employer
head_by site h from to minute nsr e (body.Clocking marked cpf recorded collector offline) is employer last = absurd employer

-- each period of a founded history has its AFD
pub afd_of : (site : Site) (h : List Entry) (from to minute : ℕ) (range : Range) → IsFounded h → IsPeriod (days_of h) from to range → (text : List ℕ) × IsAfdOf site h from to minute text
afd_of site h from to minute range founded period =
    let last = last_of h founded in
    let head = head_by site h from to minute last.0 last.1 last.1.body refl last.2.employer last.2 in (
      file_text head.0 (in_range range (history_lines h)) (counts_of (in_range range (bodies_of h))),
      record { range = range; period = period; head = head.0; headed = head.1; written = refl },
    )

-- the AFD of a period is extracted
pub extract_some : (site : Site) (sent : List Request) (named : List Naming) (issued : List Slip) (recorder : Recorder) → IsKept site sent named issued recorder → (from to minute bytes : ℕ) → ExtractsFrom recorder from to (Some bytes) → Does (Extract from to minute) (world_of site sent named issued recorder) (world_of site sent named issued recorder) (Ok (Extracted bytes))
extract_some site sent named issued (Up store) kept from to minute bytes is =
    let afd = afd_of site store.history from to minute is.range kept.runs.settled.holds.founded is.period in
    let size : bytes ≡ length afd.0 = is.of_afd minute afd.0 (subst (λ (s : Site). IsAfdOf s store.history from to minute afd.0) (sym kept.runs.of_site) afd.1) in
    does_step (Extract from to minute) (world_of site sent named issued (Up store)) (world_of site sent named issued (Up store)) (Extracted bytes)
    (record {
      same = refl;
      history = store.history;
      ledger = kept.runs.settled.holds;
      afd = afd.0;
      is_afd = afd.1;
      sees = ap (λ (n : ℕ). Extracted n) size;
    })
    (λ none. none)
    (GoesOn-refl (world_of site sent named issued (Up store)))
extract_some site sent named issued (Down disk) kept from to minute bytes is = absurd is

pub extract_none : (site : Site) (sent : List Request) (named : List Naming) (issued : List Slip) (recorder : Recorder) (from to minute : ℕ) → ExtractsFrom recorder from to None → Does (Extract from to minute) (world_of site sent named issued recorder) (world_of site sent named issued recorder) (Ok Idle)
extract_none site sent named issued (Up store) from to minute size = absurd size
extract_none site sent named issued (Down disk) from to minute size =
    does_step (Extract from to minute) (world_of site sent named issued (Down disk)) (world_of site sent named issued (Down disk)) Idle
    (record { same = refl; sees = refl })
    (λ none. none)
    (GoesOn-refl (world_of site sent named issued (Down disk)))
