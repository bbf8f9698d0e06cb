-- The AFD that `print` makes of a history: this project's own, but for the file's layout, which is that of Portaria MTP
-- 671/2021, annex V.
use Rattle.std.specs.Prelude.{◌≡◌, ℕ, ◌≤◌, List, [], replicate, ℤ, All, Contains}
use Rattle.rep_fields.specs.Moment.{moment_at}
use Rattle.afd_records.specs.File.{file_text, counts_of}
use Rattle.afd_records.specs.declared.header.Head.{Head}
use Rattle.afd_records.specs.declared.record.Body.{Body}
use Rattle.afd_records.specs.declared.record.Body.TheVariants.{Employer, Adjust, Worker, Event, Clocking}
use Rattle.rep_wire.specs.declared.request.Entry.{Entry}
use Rattle.rep_core.specs.History.{IsLastEmployer, days_of, bodies_of}
use Rattle.rep_core.specs.Chained.{history_lines}

-- a head names the employer of a record
abbrev pub NamesEmployer : Head → Body → Type 0
NamesEmployer head (Employer at resp id cno name place) = (head.id ≡ id) × (head.cno ≡ cno) × (head.name ≡ name)
NamesEmployer head (Adjust before after resp) = ⊥
NamesEmployer head (Worker at op cpf name extra resp) = ⊥
NamesEmployer head (Event at code) = ⊥
NamesEmployer head (Clocking marked cpf recorded collector offline) = ⊥

-- the least, and the greatest, of the numbers
pub record IsLeast (number : ℕ) (numbers : List ℕ) : Type 0 where
  pub there : Contains numbers number
  pub least : All (λ n. number ≤ n) numbers

pub record IsGreatest (number : ℕ) (numbers : List ℕ) : Type 0 where
  pub there : Contains numbers number
  pub greatest : All (λ n. n ≤ number) numbers

-- the head of a printed history: its last employer, no recorder and no developer, the least and the greatest
-- recording day, and the last reading of the clock
pub record IsPrintHead (zone : ℤ) (h : List Entry) (minute : ℕ) (head : Head) : Type 0 where
  pub employer : (nsr : ℕ) × (e : Entry) × IsLastEmployer h nsr e × NamesEmployer head e.body
  pub rep : head.rep ≡ replicate 17 48
  pub first : IsLeast head.first (days_of h)
  pub last : IsGreatest head.last (days_of h)
  pub made : head.made ≡ moment_at minute zone
  pub dev_kind : head.dev_kind ≡ 1
  pub dev : head.dev ≡ replicate 14 48
  pub model : head.model ≡ []

-- the AFD of the whole history
pub record IsPrintedFile (zone : ℤ) (h : List Entry) (minute : ℕ) (file : List ℕ) : Type 0 where
  pub head : Head
  pub headed : IsPrintHead zone h minute head
  pub text : file ≡ file_text head (history_lines h) (counts_of (bodies_of h))

-- the head of an AFD of a history whose first and last day are asked for
pub record IsAskedHead (zone : ℤ) (h : List Entry) (from to minute : ℕ) (head : Head) : Type 0 where
  pub employer : (nsr : ℕ) × (e : Entry) × IsLastEmployer h nsr e × NamesEmployer head e.body
  pub rep : head.rep ≡ replicate 17 48
  pub first : head.first ≡ from
  pub last : head.last ≡ to
  pub made : head.made ≡ moment_at minute zone
  pub dev_kind : head.dev_kind ≡ 1
  pub dev : head.dev ≡ replicate 14 48
  pub model : head.model ≡ []

-- the AFD of the whole history, whatever days are asked for: only its head has them
pub record IsAskedFile (zone : ℤ) (h : List Entry) (from to minute : ℕ) (file : List ℕ) : Type 0 where
  pub head : Head
  pub headed : IsAskedHead zone h from to minute head
  pub text : file ≡ file_text head (history_lines h) (counts_of (bodies_of h))
