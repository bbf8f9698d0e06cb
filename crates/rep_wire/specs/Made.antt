-- The record that a request becomes when it is recorded, and when a record has a request's content.
use Rattle.std.specs.Prelude.{◌≡◌, Bool, true, false, Option, Some, None}
use Rattle.rep_fields.specs.Moment.{Moment}
use Rattle.afd_records.specs.declared.record.Body as body
use Rattle.afd_records.specs.declared.record.Body.TheVariants as recorded
use Rattle.rep_wire.specs.declared.request.Ask.{Ask}
use Rattle.rep_wire.specs.declared.request.Ask.TheVariants.{Mark, Employer, Worker, Adjust, Event}

-- What was asked, recorded at a stamp. A clocking that wasn't kept offline is marked at that stamp, and an
-- adjustment set the clock to it.
abbrev pub made_of : Ask → Moment → body.Body
made_of (Mark cpf collector None) now = recorded.Clocking now cpf now collector false
made_of (Mark cpf collector (Some at)) now = recorded.Clocking at cpf now collector true
made_of (Employer resp id cno name place) now = recorded.Employer now resp id cno name place
made_of (Worker op cpf name extra resp) now = recorded.Worker now op cpf name extra resp
made_of (Adjust before resp) now = recorded.Adjust before now resp
made_of (Event code) now = recorded.Event now code

-- a clocking's marked stamp is content where it was kept offline, and else the recorder's
abbrev pub HasMark : Option Moment → Moment → Bool → Type 0
HasMark None marked offline = offline ≡ false
HasMark (Some at) marked offline = (offline ≡ true) × (marked ≡ at)

-- The record has what was asked as its content: all of it agrees but what the recorder stamps, which is the recording
-- stamp, and the marked stamp of a clocking that wasn't kept offline.
abbrev pub IsSame : Ask → body.Body → Type 0
IsSame (Mark cpf collector at) (recorded.Clocking marked cpf' stamp collector' offline) =
    (cpf' ≡ cpf) × (collector' ≡ collector) × HasMark at marked offline
IsSame (Employer resp id cno name place) (recorded.Employer stamp resp' id' cno' name' place') =
    (resp' ≡ resp) × (id' ≡ id) × (cno' ≡ cno) × (name' ≡ name) × (place' ≡ place)
IsSame (Worker op cpf name extra resp) (recorded.Worker stamp op' cpf' name' extra' resp') =
    (op' ≡ op) × (cpf' ≡ cpf) × (name' ≡ name) × (extra' ≡ extra) × (resp' ≡ resp)
IsSame (Adjust before resp) (recorded.Adjust before' stamp resp') = (before' ≡ before) × (resp' ≡ resp)
IsSame (Event code) (recorded.Event stamp code') = code' ≡ code
IsSame _ _ = ⊥
