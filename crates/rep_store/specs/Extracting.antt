-- The AFD of a period out of a store's history: this project's own, but for the file's layout, which is that of Portaria
-- MTP 671/2021, annex V.
use Rattle.std.specs.Prelude.{◌≡◌, ℕ, ◌+◌, List, [], ◌++◌, length, Bool, true, false, IsSome, MatchResult, Option, Some, None, Result, Ok, Err}
use Rattle.std.specs.Io.KnownBytes.{append_known}
use Rattle.rep_fields.specs.Employer.{kind_byte, id_text}
use Rattle.rep_fields.specs.Moment.{moment_at}
use Rattle.afd_records.specs.File.{counts_of, file_text}
use Rattle.afd_records.specs.declared.header.Head.{Head}
use Rattle.afd_records.specs.declared.record.Body.{Body}
use Rattle.afd_records.specs.declared.record.Body.TheVariants.{Employer, Adjust, Worker, Event, Clocking}
use Rattle.rep_disk.specs.Disk.{Shown}
use Rattle.rep_wire.specs.Reply.{extract_text}
use Rattle.rep_wire.specs.declared.request.Entry.{Entry}
use Rattle.rep_core.specs.Chained.{history_lines}
use Rattle.rep_core.specs.History.{IsLastEmployer, bodies_of, days_of}
use Rattle.rep_site.specs.declared.site.Site.{Site}
use Rattle.afd_extract.specs.Extract.{IsStrictFront, counts_of_lines}
use Rattle.afd_extract.specs.Period.{IsPeriod, Range, in_range}
use Rattle.rep_store.specs.Filing.{IsReadBy}
use Rattle.rep_store.specs.State.{State}
use Rattle.rep_store.specs.Steps.{Ticks}
use Rattle.rep_store.specs.declared.error.ExtractFail.{ExtractFail}
use Rattle.rep_store.specs.declared.error.ExtractFail.TheVariants.{Stopped, ClockFault, SinkFault, DeviceFault}
use Rattle.rep_store.specs.declared.extracting.Lead.{Lead}

-- a head names the employer of a record
abbrev pub NamesEmployer : Head → Body → Type 0
NamesEmployer head (Employer at resp id cno name place) = (head.id ≡ id) × (head.cno ≡ cno) × (head.name ≡ name)
NamesEmployer head (Adjust before after resp) = ⊥
NamesEmployer head (Worker at op cpf name extra resp) = ⊥
NamesEmployer head (Event at code) = ⊥
NamesEmployer head (Clocking marked cpf recorded collector offline) = ⊥

-- The head of an extraction: the last employer of the whole history, the site's recorder and its maker, the days asked for,
-- and a reading of the clock.
pub record IsExtractHead (site : Site) (h : List Entry) (from to minute : ℕ) (head : Head) : Type 0 where
  pub employer : (nsr : ℕ) × (e : Entry) × IsLastEmployer h nsr e × NamesEmployer head e.body
  pub rep : head.rep ≡ site.rep
  pub first : head.first ≡ from
  pub last : head.last ≡ to
  pub made : head.made ≡ moment_at minute site.offset
  pub dev_kind : 48 + head.dev_kind ≡ kind_byte site.developer
  pub dev : head.dev ≡ id_text site.developer
  pub model : head.model ≡ []

-- The AFD of a period: the records whose numbers run from the least to the greatest that was recorded in it.
pub record IsAfdOf (site : Site) (h : List Entry) (from to minute : ℕ) (text : List ℕ) : Type 0 where
  pub range : Range
  pub period : IsPeriod (days_of h) from to range
  pub head : Head
  pub headed : IsExtractHead site h from to minute head
  pub written : text ≡ file_text head (in_range range (history_lines h)) (counts_of (in_range range (bodies_of h)))

-- the line in front of the bytes, where the extraction answers a line of a lane
abbrev pub lead_text : Option Lead → ℕ → ℕ → List ℕ
lead_text None bytes front = []
lead_text (Some lead) bytes front = extract_text lead.line lead.seq bytes front

-- the size that the line in front tells is that of the AFD, where a line is asked for
abbrev pub TellsSize : Site → List Entry → Option Lead → ℕ → ℕ → ℕ → Type 0
TellsSize site h lead from to size =
    IsSome lead → (minute : ℕ) (text : List ℕ) → IsAfdOf site h from to minute text → size ≡ length text

-- what an extraction is to write: the line in front, if one is asked for, and the AFD, which has so many bytes
pub record IsDue (site : Site) (h : List Entry) (lead : Option Lead) (from to minute : ℕ) (due : List ℕ) (size : ℕ) : Type 0 where
  pub afd : List ℕ
  pub is_afd : IsAfdOf site h from to minute afd
  pub text : due ≡ lead_text lead (length afd) (length h) ++ afd
  pub size_is : size ≡ length afd

-- what was put, by the answer: all that was due, of whose AFD the size is told, or a front that lacks a byte at least
abbrev pub IsPutOf : Site → List Entry → Option Lead → ℕ → ℕ → ℕ → List ℕ → Result ℕ ExtractFail → Type 0
IsPutOf site h lead from to minute put (Ok size) = IsDue site h lead from to minute put size
IsPutOf site h lead from to minute put (Err fail) =
    (due : List ℕ) × (size : ℕ) × IsDue site h lead from to minute due size × IsStrictFront put due

-- The line in front was put, with the size of the AFD, or a front of it that lacks a byte at least.
pub record PutsLead {E : Type 0} (site : Site) (h : List Entry) (lead : Option Lead) (from to : ℕ) (was now : Option (List ℕ)) (result : Result (Unit {0}) E) : Type 0 where
  pub size : ℕ
  pub is_size : TellsSize site h lead from to size
  pub put : List ℕ
  pub appended : now ≡ append_known was put
  pub is_put : MatchResult result (λ _. put ≡ lead_text lead size (length h)) (λ _. IsStrictFront put (lead_text lead size (length h)))

-- what was put of a line in front and a text, by the answer
abbrev pub IsPutBehind : List ℕ → List ℕ → List ℕ → Result ℕ ExtractFail → Type 0
IsPutBehind line text put (Ok size) = (put ≡ line ++ text) × (size ≡ length text)
IsPutBehind line text put (Err fail) = IsStrictFront put (line ++ text)

-- What is put of a disk that doesn't tell its contents: the AFD of as many lines as the period has, as they were read, under
-- the head of the extraction, with the line in front.
pub record IsPutOfLines (site : Site) (h : List Entry) (lead : Option Lead) (from to minute : ℕ) (put : List ℕ) (result : Result ℕ ExtractFail) : Type 0 where
  pub range : Range
  pub period : IsPeriod (days_of h) from to range
  pub head : Head
  pub headed : IsExtractHead site h from to minute head
  pub lines : List (List ℕ)
  pub as_many : length lines ≡ length (in_range range (history_lines h))
  pub size : ℕ
  pub is_size : TellsSize site h lead from to size
  pub is_put : IsPutBehind (lead_text lead size (length h)) (file_text head lines (counts_of_lines lines)) put result

-- What was put: lines as they were read, and where the disk tells its contents, those of the period.
pub record PutsExtract (site : Site) (h : List Entry) (lead : Option Lead) (from to minute : ℕ) (Told : Type 0) (was now : Option (List ℕ)) (result : Result ℕ ExtractFail) : Type 0 where
  pub put : List ℕ
  pub appended : now ≡ append_known was put
  pub of_lines : IsPutOfLines site h lead from to minute put result
  pub is_put : Told → IsPutOf site h lead from to minute put result

-- whether the disk failed
abbrev pub failed_by_disk : Result ℕ ExtractFail → Bool
failed_by_disk (Ok size) = false
failed_by_disk (Err (Stopped faults)) = false
failed_by_disk (Err ClockFault) = false
failed_by_disk (Err SinkFault) = false
failed_by_disk (Err DeviceFault) = true

-- The clock was read, and an AFD at that reading was written, or a front of it; where the disk tells its contents, it is
-- that of the period. The history stays.
pub record Extracts {D C : Type 0} (shown : D → Shown) (readings_of : C → Option (List ℕ)) (faults_of : C → ℕ) (lead : Option Lead) (from to : ℕ) (old new : State D C) (was now : Option (List ℕ)) (result : Result ℕ ExtractFail) : Type 0 where
  pub running : old.stopped ≡ None
  pub kept : IsReadBy shown (failed_by_disk result) old new
  pub minute : ℕ
  pub clock : Ticks readings_of faults_of minute old.clock new.clock
  pub reading : new.reading ≡ Some minute
  pub put : List ℕ
  pub appended : now ≡ append_known was put
  pub of_lines : IsPutOfLines old.site old.history lead from to minute put result
  pub is_put : IsSome (shown old.disk).contents → IsPutOf old.site old.history lead from to minute put result
