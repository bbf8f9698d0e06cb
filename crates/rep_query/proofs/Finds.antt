-- The receipt of a number, from what was found.
use Rattle.std.proofs.Common.{◌≡◌, ℕ, ◌+◌, ◌<◌, ◌≤◌, inl, inr, List, [], length, Option, Some, None, refl, sym, ap, subst, ◌∙◌, arith}
use Rattle.std.proofs.lemmas.Bool.{cases_lt}
use Rattle.rep_io.specs.Causes.{Rose}
use Rattle.afd_records.specs.declared.record.Body.{Body}
use Rattle.rep_disk.specs.Disk.{Shown}
use Rattle.rep_wire.specs.declared.request.Entry.{Entry}
use Rattle.rep_core.specs.History.{IsEmployer, IsNumbered}
use Rattle.rep_core.specs.Valid.{IsFounded}
use Rattle.rep_core.proofs.Numbered.{IsNumbered-unique}
use Rattle.rep_core.proofs.Splits.{split_in}
use Rattle.rep_ledger.proofs.DiskSteps.{IsRead-refl, IsRead-trans}
use Rattle.rep_store.specs.State.{IsKept, IsSound, State}
use Rattle.rep_store.proofs.Requests.{IsSafe-read}
use Rattle.rep_ledger.specs.Safety.{IsSafe, Receipted}
use Rattle.std.proofs.lemmas.List.Elements.{All-nil}
use Rattle.rep_receipt.specs.Receipt as receipts
use Rattle.rep_store.specs.Filing.{IsFiled}
use Rattle.rep_store.specs.declared.filing.Filed.{Filed}
use Rattle.rep_site.specs.declared.site.Site.{Site}
use Rattle.rep_receipt.specs.Receipt.{receipt_text}
use Rattle.rep_query.specs.Receipt.{IsClockingOf, IsLastBefore, IsReceiptOf, IsWhyLacking, IsWhyNone, IsWorkerOf, LooksInto, name_in}
use Rattle.rep_query.specs.declared.finding.NoReceipt.{NoReceipt}
use Rattle.rep_query.specs.declared.finding.NoReceipt.TheVariants.{NoSuchNsr, NotAClocking, DeviceFault, OutOfMemory}
use Rattle.rep_query.proofs.Histories.{clocking_later, employer_of_history, first_employer, worker_before}

-- a store that was looked into

pub looks_same : {D C : Type 0} (shown : D → Shown) (s : State D C) → LooksInto shown s s
looks_same shown s = record { site = refl; history = refl; stopped = refl; disk = IsRead-refl (shown s.disk) }

pub looks_on : {D C : Type 0} (shown : D → Shown) (a b c : State D C) → LooksInto shown a b → LooksInto shown b c → LooksInto shown a c
looks_on shown a b c one two = record {
  site = two.site ∙ one.site;
  history = two.history ∙ one.history;
  stopped = two.stopped ∙ one.stopped;
  disk = IsRead-trans (shown a.disk) (shown b.disk) (shown c.disk) one.disk two.disk;
}

pub number_inside : (h : List Entry) (n : ℕ) (e : Entry) → IsNumbered h n e → (1 ≤ n) × (n ≤ length h)
number_inside h n e numbered =
    let inside = split_in h numbered.before numbered.behind e numbered.split in
    (omega (arith, numbered.number), omega (arith, numbered.number, inside))

-- The search

-- of the records from a number on, before another, none is of the kind
abbrev pub LacksFrom : (Body → Type 0) → List Entry → ℕ → ℕ → Type 0
LacksFrom IsKind h from nsr = (n : ℕ) (d : Entry) → from ≤ n → n < nsr → IsNumbered h n d → IsKind d.body → ⊥

-- the records down to a number were looked at, and none is of the kind
pub record SearchedTo {D C : Type 0} (IsKind : Body → Type 0) (shown : D → Shown) (number nsr : ℕ) (old now : State D C) : Type 0 where
  pub lacks : LacksFrom IsKind old.history number nsr
  pub looks : LooksInto shown old now
  pub no_fault : (shown now.disk).faults ≡ (shown old.disk).faults

pub lacks_at_first : (IsKind : Body → Type 0) (h : List Entry) (nsr : ℕ) → LacksFrom IsKind h nsr nsr
lacks_at_first IsKind h nsr n d from below numbered kind = omega arith

pub lacks_one_more : (IsKind : Body → Type 0) (h : List Entry) (number nsr : ℕ) (e : Entry) → IsNumbered h number e → (IsKind e.body → ⊥) → LacksFrom IsKind h (number + 1) nsr → LacksFrom IsKind h number nsr
lacks_one_more IsKind h number nsr e numbered other lacks n d from below at kind = elim (cases_lt number n) [
  | inl more ↦ lacks n d (omega arith) below at kind
  | inr less ↦
      let same : n ≡ number = omega arith in
      let one : d ≡ e = IsNumbered-unique h number d e (subst (λ k. IsNumbered h k d) same at) numbered in
      other (subst (λ (x : Entry). IsKind x.body) one kind)
]

pub last_found : (IsKind : Body → Type 0) (h : List Entry) (number nsr : ℕ) (e : Entry) → IsNumbered h number e → number < nsr → IsKind e.body → LacksFrom IsKind h (number + 1) nsr → IsLastBefore IsKind h nsr e
last_found IsKind h number nsr e numbered before kind lacks = record {
  number = number;
  numbered = numbered;
  before = before;
  kind = kind;
  last = λ later d more below at is. lacks later d (omega (arith, more)) below at is;
}

-- all of them
pub lacks_all : (IsKind : Body → Type 0) (h : List Entry) (nsr before now : ℕ) → LacksFrom IsKind h 1 nsr → IsWhyLacking IsKind h nsr before now NoSuchNsr
lacks_all IsKind h nsr before now lacks number d below numbered kind =
    lacks number d (number_inside h number d numbered).0 below numbered kind

-- A clocking always has an employer's record and one of the worker before it

pub no_lack : (IsKind : Body → Type 0) (h : List Entry) (nsr before now : ℕ) (why : NoReceipt) → IsWhyLacking IsKind h nsr before now why
    → ((n : ℕ) × (d : Entry) × (n < nsr) × IsNumbered h n d × IsKind d.body) → (why ≡ DeviceFault) × Rose before now
no_lack IsKind h nsr before now NoSuchNsr lacks found = absurd (lacks found.0 found.1 found.2 found.3 found.4)
no_lack IsKind h nsr before now NotAClocking lacks found = absurd lacks
no_lack IsKind h nsr before now DeviceFault lacks found = (refl, lacks)
no_lack IsKind h nsr before now OutOfMemory lacks found = absurd lacks

pub why_failed : (h : List Entry) (nsr before now : ℕ) (why : NoReceipt) → why ≡ DeviceFault → Rose before now → IsWhyNone h nsr before now why
why_failed h nsr before now why is rose = subst (λ (w : NoReceipt). IsWhyNone h nsr before now w) (sym is) rose

pub has_employer : (h : List Entry) (nsr cpf : ℕ) (e : Entry) → IsFounded h → IsNumbered h nsr e → IsClockingOf cpf e.body
    → (n : ℕ) × (d : Entry) × (n < nsr) × IsNumbered h n d × IsEmployer d.body
has_employer h nsr cpf e founded numbered clocking =
    let first = first_employer h founded in
    (1, first.0, clocking_later h nsr cpf e founded numbered clocking, first.1, first.2)

pub employer_failed : (h : List Entry) (nsr cpf before now : ℕ) (e : Entry) (why : NoReceipt) → IsFounded h → IsNumbered h nsr e → IsClockingOf cpf e.body
    → IsWhyLacking IsEmployer h nsr before now why → IsWhyNone h nsr before now why
employer_failed h nsr cpf before now e why founded numbered clocking lacks =
    let failed = no_lack IsEmployer h nsr before now why lacks (has_employer h nsr cpf e founded numbered clocking) in
    why_failed h nsr before now why failed.0 failed.1

pub worker_failed : (h : List Entry) (nsr cpf before now : ℕ) (e : Entry) (why : NoReceipt) → IsFounded h → IsNumbered h nsr e → IsClockingOf cpf e.body
    → IsWhyLacking (IsWorkerOf cpf) h nsr before now why → IsWhyNone h nsr before now why
worker_failed h nsr cpf before now e why founded numbered clocking lacks =
    let failed = no_lack (IsWorkerOf cpf) h nsr before now why lacks (worker_before h nsr cpf e founded numbered clocking) in
    why_failed h nsr before now why failed.0 failed.1

pub searched_none : {D C : Type 0} (IsKind : Body → Type 0) (shown : D → Shown) (nsr : ℕ) (s : State D C) → SearchedTo IsKind shown nsr nsr s s
searched_none IsKind shown nsr s = record { lacks = lacks_at_first IsKind s.history nsr; looks = looks_same shown s; no_fault = refl }

pub searched_one : {D C : Type 0} (IsKind : Body → Type 0) (shown : D → Shown) (above number nsr : ℕ) (old now next : State D C) (e : Entry) → SearchedTo IsKind shown above nsr old now → above ≡ number + 1
    → LooksInto shown now next → (shown next.disk).faults ≡ (shown now.disk).faults → IsNumbered now.history number e → (IsKind e.body → ⊥) → SearchedTo IsKind shown number nsr old next
searched_one IsKind shown above number nsr old now next e searched next_to looks unfailed numbered other = record {
  lacks = lacks_one_more IsKind old.history number nsr e (subst (λ (h : List Entry). IsNumbered h number e) searched.looks.history numbered) other
      (subst (λ (n : ℕ). LacksFrom IsKind old.history n nsr) next_to searched.lacks);
  looks = looks_on shown old now next searched.looks looks;
  no_fault = unfailed ∙ searched.no_fault;
}

pub searched_found : {D C : Type 0} (IsKind : Body → Type 0) (shown : D → Shown) (above number nsr : ℕ) (old now : State D C) (e : Entry) → SearchedTo IsKind shown above nsr old now → above ≡ number + 1
    → number < nsr → IsNumbered now.history number e → IsKind e.body → IsLastBefore IsKind old.history nsr e
searched_found IsKind shown above number nsr old now e searched next_to before numbered kind =
    last_found IsKind old.history number nsr e (subst (λ (h : List Entry). IsNumbered h number e) searched.looks.history numbered) before kind
    (subst (λ (n : ℕ). LacksFrom IsKind old.history n nsr) next_to searched.lacks)

pub searched_all : {D C : Type 0} (IsKind : Body → Type 0) (shown : D → Shown) (number nsr before after : ℕ) (old now : State D C) → SearchedTo IsKind shown number nsr old now → number ≤ 1
    → IsWhyLacking IsKind old.history nsr before after NoSuchNsr
searched_all IsKind shown number nsr before after old now searched first =
    lacks_all IsKind old.history nsr before after (λ n d from below numbered kind. searched.lacks n d (omega (arith, first, from)) below numbered kind)

-- the receipt, of what was found
pub receipt_of_parts : (site : Site) (h : List Entry) (nsr cpf : ℕ) (filed : Filed) (hash : List ℕ) (employer : Body) (name text : List ℕ) → IsFiled h nsr filed → filed.hash ≡ Some hash → IsClockingOf cpf filed.entry.body
    → ((e : Entry) × IsLastBefore IsEmployer h nsr e × (employer ≡ e.body)) → ((e : Entry) × IsLastBefore (IsWorkerOf cpf) h nsr e × (name ≡ name_in e.body))
    → text ≡ receipt_text employer name filed.entry.body nsr site.rep hash → IsReceiptOf site h nsr text
receipt_of_parts site h nsr cpf filed hash employer name text is hashed clocking last_employer last_worker written = record {
  entry = filed.entry;
  numbered = is.numbered;
  cpf = cpf;
  clocking = clocking;
  employer = last_employer.0;
  is_employer = last_employer.1;
  worker = last_worker.0;
  is_worker = last_worker.1;
  hash = hash;
  is_hash = sym is.hash ∙ hashed;
  written = written ∙ ap (λ (b : Body). receipt_text b name filed.entry.body nsr site.rep hash) last_employer.2
      ∙ ap (λ (n : List ℕ). receipt_text last_employer.0.body n filed.entry.body nsr site.rep hash) last_worker.2;
}

-- why there is none, by the counts of a longer time
pub longer_why : (h : List Entry) (nsr a b c d : ℕ) (why : NoReceipt) → a ≤ b → c ≤ d → IsWhyNone h nsr b c why → IsWhyNone h nsr a d why
longer_why h nsr a b c d NoSuchNsr first last is = is
longer_why h nsr a b c d NotAClocking first last is = is
longer_why h nsr a b c d DeviceFault first last is = omega (arith, is)
longer_why h nsr a b c d OutOfMemory first last is = tt

module _ {D C : Type 0} (shown : D → Shown) (a b c : State D C) (nsr cpf : ℕ) (e : Entry) (why : NoReceipt) (first : LooksInto shown a b) (founded : IsFounded a.history) (numbered : IsNumbered a.history nsr e) (clocking : IsClockingOf cpf e.body) where
  pub employer_why : IsWhyLacking IsEmployer b.history nsr (shown b.disk).faults (shown c.disk).faults why → IsWhyNone a.history nsr (shown a.disk).faults (shown c.disk).faults why
  employer_why lacks =
      longer_why a.history nsr (shown a.disk).faults (shown b.disk).faults (shown c.disk).faults (shown c.disk).faults why first.disk.faults (omega arith)
      (employer_failed a.history nsr cpf (shown b.disk).faults (shown c.disk).faults e why founded numbered clocking
      (subst (λ (h : List Entry). IsWhyLacking IsEmployer h nsr (shown b.disk).faults (shown c.disk).faults why) first.history lacks))

  pub worker_why : IsWhyLacking (IsWorkerOf cpf) b.history nsr (shown b.disk).faults (shown c.disk).faults why → IsWhyNone a.history nsr (shown a.disk).faults (shown c.disk).faults why
  worker_why lacks =
      longer_why a.history nsr (shown a.disk).faults (shown b.disk).faults (shown c.disk).faults (shown c.disk).faults why first.disk.faults (omega arith)
      (worker_failed a.history nsr cpf (shown b.disk).faults (shown c.disk).faults e why founded numbered clocking
      (subst (λ (h : List Entry). IsWhyLacking (IsWorkerOf cpf) h nsr (shown b.disk).faults (shown c.disk).faults why) first.history lacks))

-- a last employer's record has an id with a text
pub named_last : (h : List Entry) (nsr : ℕ) (b : Body) → IsFounded h → ((e : Entry) × IsLastBefore IsEmployer h nsr e × (b ≡ e.body)) → receipts.IsEmployer b
named_last h nsr b founded last =
    subst receipts.IsEmployer (sym last.2) (employer_of_history h last.1.number last.0 founded last.1.numbered last.1.kind)

-- a store that goes on and was only looked into is safe
pub safe_looked : {D C : Type 0} (shown : D → Shown) (a b : State D C) → IsSound shown a → a.stopped ≡ None → LooksInto shown a b → IsSafe (shown a.disk).moment a.history a.history [] (shown a.disk) (shown b.disk)
safe_looked shown a b sound running looks =
    IsSafe-read a.history [] (shown a.disk) (shown b.disk) (subst (λ (o : Option ℕ). IsKept o a.history (shown a.disk)) running sound.disk) looks.disk
    (All-nil (λ (r : Receipted). (r.moment ≡ (shown b.disk).moment) × (r.nsr ≤ length a.history)))
