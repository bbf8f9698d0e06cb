-- The receipt of a clocking out of a history: this project's own.
use Rattle.std.specs.Prelude.{◌≡◌, ℕ, ◌<◌, List, [], length, Option, Some}
use Rattle.rep_io.specs.Causes.{Rose}
use Rattle.afd_records.specs.Record.{IsClocking}
use Rattle.afd_records.specs.declared.record.Body.{Body}
use Rattle.afd_records.specs.declared.record.Body.TheVariants.{Employer, Adjust, Worker, Event, Clocking}
use Rattle.rep_disk.specs.Disk.{Shown}
use Rattle.rep_wire.specs.declared.request.Entry.{Entry}
use Rattle.rep_core.specs.Answered.{hash_in}
use Rattle.rep_core.specs.History.{IsEmployer, IsNumbered}
use Rattle.rep_journal.specs.State.{IsRead}
use Rattle.rep_site.specs.declared.site.Site.{Site}
use Rattle.rep_receipt.specs.Receipt.{receipt_text}
use Rattle.rep_store.specs.State.{State}
use Rattle.rep_report.specs.Report.{fault_text}
use Rattle.rep_report.specs.Saying.{SaysLine, Concludes, status_of as ending_status}
use Rattle.rep_report.specs.declared.ending.Ending.{Ending}
use Rattle.rep_report.specs.declared.ending.Ending.TheVariants.{AllAnswered}
use Rattle.rep_query.specs.Lines.{no_such_nsr_fault, not_a_clocking_fault}
use Rattle.rep_query.specs.declared.finding.NoReceipt.{NoReceipt}
use Rattle.rep_query.specs.declared.finding.NoReceipt.TheVariants.{NoSuchNsr, NotAClocking, DeviceFault, OutOfMemory}

-- a clocking of the worker
abbrev pub IsClockingOf : ℕ → Body → Type 0
IsClockingOf cpf (Employer at resp id cno name place) = ⊥
IsClockingOf cpf (Adjust before after resp) = ⊥
IsClockingOf cpf (Worker at op worker name extra resp) = ⊥
IsClockingOf cpf (Event at code) = ⊥
IsClockingOf cpf (Clocking marked worker recorded collector offline) = worker ≡ cpf

-- a registration record of the worker
abbrev pub IsWorkerOf : ℕ → Body → Type 0
IsWorkerOf cpf (Employer at resp id cno name place) = ⊥
IsWorkerOf cpf (Adjust before after resp) = ⊥
IsWorkerOf cpf (Worker at op worker name extra resp) = worker ≡ cpf
IsWorkerOf cpf (Event at code) = ⊥
IsWorkerOf cpf (Clocking marked worker recorded collector offline) = ⊥

-- the worker's name in a registration record
abbrev pub name_in : Body → List ℕ
name_in (Employer at resp id cno name place) = []
name_in (Adjust before after resp) = []
name_in (Worker at op worker name extra resp) = name
name_in (Event at code) = []
name_in (Clocking marked worker recorded collector offline) = []

-- the last record of a kind before a number
pub record IsLastBefore (IsKind : Body → Type 0) (h : List Entry) (nsr : ℕ) (e : Entry) : Type 0 where
  pub number : ℕ
  pub numbered : IsNumbered h number e
  pub before : number < nsr
  pub kind : IsKind e.body
  pub last : (later : ℕ) (d : Entry) → number < later → later < nsr → IsNumbered h later d → IsKind d.body → ⊥

-- The receipt of the clocking with this number: under the employer's last record before it, with the name that the worker's
-- last record before it has, and with its hash in the chain.
pub record IsReceiptOf (site : Site) (h : List Entry) (nsr : ℕ) (text : List ℕ) : Type 0 where
  pub entry : Entry
  pub numbered : IsNumbered h nsr entry
  pub cpf : ℕ
  pub clocking : IsClockingOf cpf entry.body
  pub employer : Entry
  pub is_employer : IsLastBefore IsEmployer h nsr employer
  pub worker : Entry
  pub is_worker : IsLastBefore (IsWorkerOf cpf) h nsr worker
  pub hash : List ℕ
  pub is_hash : hash_in h nsr entry.body ≡ Some hash
  pub written : text ≡ receipt_text employer.body (name_in worker.body) entry.body nsr site.rep hash

-- Why there is no receipt: the number is above those of the history, or no clocking's; or the disk failed, or memory was
-- short.
abbrev pub IsWhyNone : List Entry → ℕ → ℕ → ℕ → NoReceipt → Type 0
IsWhyNone h nsr before now NoSuchNsr = length h < nsr
IsWhyNone h nsr before now NotAClocking = (e : Entry) × IsNumbered h nsr e × (IsClocking e.body → ⊥)
IsWhyNone h nsr before now DeviceFault = Rose before now
IsWhyNone h nsr before now OutOfMemory = Unit {0}

abbrev pub none_text : NoReceipt → ℕ → List ℕ
none_text NoSuchNsr nsr = no_such_nsr_fault nsr
none_text NotAClocking nsr = not_a_clocking_fault nsr
none_text DeviceFault nsr = fault_text 6
none_text OutOfMemory nsr = fault_text 8

abbrev pub none_status : NoReceipt → ℕ
none_status NoSuchNsr = 3
none_status NotAClocking = 3
none_status DeviceFault = 6
none_status OutOfMemory = 8

-- A store was only looked into: its disk was read at most.
pub record LooksInto {D C : Type 0} (shown : D → Shown) (old new : State D C) : Type 0 where
  pub site : new.site ≡ old.site
  pub history : new.history ≡ old.history
  pub stopped : new.stopped ≡ old.stopped
  pub disk : IsRead (shown old.disk) (shown new.disk)

-- Why a record of a kind before a number isn't found: there is none, or the disk failed.
abbrev pub IsWhyLacking : (Body → Type 0) → List Entry → ℕ → ℕ → ℕ → NoReceipt → Type 0
IsWhyLacking IsKind h nsr before now NoSuchNsr = (number : ℕ) (d : Entry) → number < nsr → IsNumbered h number d → IsKind d.body → ⊥
IsWhyLacking IsKind h nsr before now NotAClocking = ⊥
IsWhyLacking IsKind h nsr before now DeviceFault = Rose before now
IsWhyLacking IsKind h nsr before now OutOfMemory = ⊥

-- The receipt was said wholly, or the output failed at it.
pub record SaysReceipt (text : List ℕ) (old new : Option (List ℕ)) (before now status : ℕ) : Type 0 where
  pub told : Ending
  pub concludes : Concludes AllAnswered text old new before now told
  pub status_is : status ≡ ending_status told

-- The reason why there is none was said.
pub record SaysNone (why : NoReceipt) (nsr : ℕ) (old new : Option (List ℕ)) (Failed : Type 0) (status : ℕ) : Type 0 where
  pub says : SaysLine (none_text why nsr) old new Failed
  pub status_is : status ≡ none_status why
