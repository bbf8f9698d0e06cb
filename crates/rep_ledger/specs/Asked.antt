-- What was asked where a record was made: this project's own. The recorder adds the stamp at which it records, and by
-- that stamp the record says all that was asked.
use Rattle.std.specs.Prelude.{◌≡◌, ◌≢◌, [], Option, Some, None}
use Rattle.afd_records.specs.Record.{recorded_of}
use Rattle.afd_records.specs.declared.record.Body.{Body}
use Rattle.rep_wire.specs.Made.{made_of}
use Rattle.rep_wire.specs.Request.{HasNoBar, IsWorkerName}
use Rattle.rep_wire.specs.declared.request.Ask.{Ask}
use Rattle.rep_wire.specs.declared.request.Ask.TheVariants.{Mark, Employer, Worker, Adjust, Event}
use Rattle.rep_wire.specs.declared.request.Request.{Request}
use Rattle.rep_wire.specs.declared.request.Entry.{Entry}
use Rattle.rep_core.specs.Answered.{entry_of}

-- this was asked, and the record was made of it
abbrev pub MadeOf : Ask → Body → Type 0
MadeOf ask body = body ≡ made_of ask (recorded_of body)

-- a request of this kind became the entry
pub record Became (Kind : Request → Type 0) (q : Request) (e : Entry) : Type 0 where
  pub asked : Kind q
  pub made : e ≡ entry_of q (recorded_of e.body)

-- what was asked, and none only where the record is made of nothing
abbrev pub IsAskOf : Body → Option Ask → Type 0
IsAskOf body (Some ask) = MadeOf ask body
IsAskOf body None = (ask : Ask) → MadeOf ask body → ⊥

-- A request line can say it, as far as that hangs on its texts: its names are there, and no text has a bar.
abbrev pub IsSayable : Ask → Type 0
IsSayable (Mark cpf collector at) = Unit {0}
IsSayable (Employer resp id cno name place) = (name ≢ []) × HasNoBar name × HasNoBar place
IsSayable (Worker op cpf name extra resp) = IsWorkerName op name × HasNoBar name × HasNoBar extra
IsSayable (Adjust before resp) = Unit {0}
IsSayable (Event code) = Unit {0}

-- A site's employer record can be made of it, as far as that hangs on its kind and its texts.
abbrev pub IsOfSite : Ask → Type 0
IsOfSite (Mark cpf collector at) = ⊥
IsOfSite (Employer resp id cno name place) = name ≢ []
IsOfSite (Worker op cpf name extra resp) = ⊥
IsOfSite (Adjust before resp) = ⊥
IsOfSite (Event code) = ⊥
