-- Requests to the recorder, each part in its range: this project's own.
use Rattle.std.specs.Prelude.{◌≡◌, ◌≢◌, ℕ, ◌≤◌, List, [], All, IfSome}
use Rattle.rep_fields.specs.Latin.{IsText}
use Rattle.rep_fields.specs.Moment.{IsMoment}
use Rattle.rep_fields.specs.Identity.{IsCpf, bar}
use Rattle.rep_fields.specs.Employer.{IsEmployerId}
use Rattle.afd_records.specs.Record.{IsCno, IsCollector, IsWrittenEvent}
use Rattle.afd_records.specs.declared.record.Op.{Op}
use Rattle.afd_records.specs.declared.record.Op.TheVariants.{Include, Amend, Exclude}
use Rattle.rep_wire.specs.declared.request.Ask.{Ask}
use Rattle.rep_wire.specs.declared.request.Ask.TheVariants.{Mark, Employer, Worker, Adjust, Event}
use Rattle.rep_wire.specs.declared.request.Request.{Request}

-- the number of a collector or of the operator's desk
abbrev pub IsOrigin : ℕ → Type 0
IsOrigin origin = (1 ≤ origin) × (origin ≤ 65535)

-- the number that an origin gives to a request
abbrev pub last_seq : ℕ
last_seq = 999999999999

abbrev pub IsSeq : ℕ → Type 0
IsSeq seq = (1 ≤ seq) × (seq ≤ last_seq)

-- a text that can stand between two bars
abbrev pub HasNoBar : List ℕ → Type 0
HasNoBar text = All (λ byte. byte ≢ bar) text

-- a worker who is excluded may be named by nothing
abbrev pub IsWorkerName : Op → List ℕ → Type 0
IsWorkerName Include name = name ≢ []
IsWorkerName Amend name = name ≢ []
IsWorkerName Exclude name = Unit {0}

-- what a request line can ask
abbrev pub IsAsk : Ask → Type 0
IsAsk (Mark cpf collector at) = IsCpf cpf × IsCollector collector × IfSome at IsMoment
IsAsk (Employer resp id cno name place) =
    IsCpf resp × IsEmployerId id × IsCno cno × IsText 150 name × (name ≢ []) × HasNoBar name
    × IsText 100 place × HasNoBar place
IsAsk (Worker op cpf name extra resp) =
    IsCpf cpf × IsText 52 name × IsWorkerName op name × HasNoBar name × IsText 4 extra × HasNoBar extra × IsCpf resp
IsAsk (Adjust before resp) = IsMoment before × IsCpf resp
IsAsk (Event code) = IsWrittenEvent code

-- a request that some line of some lane asks
pub record IsRequest (q : Request) : Type 0 where
  pub origin : IsOrigin q.origin
  pub seq : IsSeq q.seq
  pub ask : IsAsk q.ask

-- what the site's employer record is made of: its texts may hold bars, since no line asks it
abbrev pub IsFoundingAsk : Ask → Type 0
IsFoundingAsk (Mark cpf collector at) = ⊥
IsFoundingAsk (Employer resp id cno name place) =
    IsCpf resp × IsEmployerId id × IsCno cno × IsText 150 name × (name ≢ []) × IsText 100 place
IsFoundingAsk (Worker op cpf name extra resp) = ⊥
IsFoundingAsk (Adjust before resp) = ⊥
IsFoundingAsk (Event code) = ⊥

-- the request of the site's employer record, which founds a journal: no collector and no operator sends it
pub record IsFounding (q : Request) : Type 0 where
  pub origin : q.origin ≡ 0
  pub seq : q.seq ≡ 0
  pub ask : IsFoundingAsk q.ask
