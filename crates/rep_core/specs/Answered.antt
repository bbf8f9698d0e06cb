-- How a history goes on by a request, and what the request is answered: this project's own.
use Rattle.std.specs.Prelude.{◌≡◌, ℕ, List, [], ◌∷◌, ◌++◌, length, take, Option, Some, None}
use Rattle.rep_fields.specs.Moment.{Moment}
use Rattle.afd_records.specs.Record.{recorded_of}
use Rattle.afd_records.specs.declared.record.Body.{Body}
use Rattle.afd_records.specs.declared.record.Body.TheVariants as body
use Rattle.rep_wire.specs.Made.{made_of}
use Rattle.rep_wire.specs.declared.request.Request.{Request}
use Rattle.rep_wire.specs.declared.request.Entry.{Entry}
use Rattle.rep_wire.specs.declared.reply.Code.TheVariants as code
use Rattle.rep_wire.specs.declared.reply.Slip.{Slip}
use Rattle.rep_wire.specs.declared.reply.Answer.{Answer}
use Rattle.rep_wire.specs.declared.reply.Answer.TheVariants.{Receipt, Refused}
use Rattle.rep_wire.specs.declared.reply.Reply.{Reply}
use Rattle.rep_core.specs.History.{IsNumbered}
use Rattle.rep_core.specs.Chained.{last_hash}
use Rattle.rep_core.specs.Verdict.{IsVerdict}
use Rattle.rep_core.specs.declared.verdict.Verdict.TheVariants.{Repeat, Conflict, Unregistered, Exhausted}

-- the entry that a request becomes at a stamp
abbrev pub entry_of : Request → Moment → Entry
entry_of q now = record { origin = q.origin; seq = q.seq; body = made_of q.ask now }

-- the history with that entry behind it
abbrev pub recorded_after : List Entry → Request → Moment → List Entry
recorded_after h q now = h ++ entry_of q now ∷ []

-- the marked stamp of a clocking
abbrev pub marked_in : Body → Option Moment
marked_in (body.Employer at resp id cno name place) = None
marked_in (body.Adjust before after resp) = None
marked_in (body.Worker at op cpf name extra resp) = None
marked_in (body.Event at code) = None
marked_in (body.Clocking marked cpf recorded collector offline) = Some marked

-- the hash of the clocking with this number in the history, which is the last of the entries up to it
abbrev pub hash_in : List Entry → ℕ → Body → Option (List ℕ)
hash_in h nsr (body.Employer at resp id cno name place) = None
hash_in h nsr (body.Adjust before after resp) = None
hash_in h nsr (body.Worker at op cpf name extra resp) = None
hash_in h nsr (body.Event at code) = None
hash_in h nsr (body.Clocking marked cpf recorded collector offline) = Some (last_hash (take nsr h))

-- the receipt of the entry with this number in the history
abbrev pub slip_of : List Entry → ℕ → Body → Slip
slip_of h nsr body = record {
  nsr = nsr;
  marked = marked_in body;
  recorded = recorded_of body;
  hash = hash_in h nsr body;
}

-- The answer to a request over the history that it was served on. A request that has an entry there with its content
-- has that entry's receipt, whether it was just recorded or long before; each other one has its refusal.
abbrev pub IsAnswer : ℕ → List Entry → Request → Answer → Type 0
IsAnswer limit h q (Receipt slip) =
    (nsr : ℕ) × (e : Entry) × IsVerdict limit h q (Repeat nsr) × IsNumbered h nsr e × (slip ≡ slip_of h nsr e.body)
IsAnswer limit h q (Refused (code.Malformed field)) = ⊥
IsAnswer limit h q (Refused code.Unregistered) = IsVerdict limit h q Unregistered
IsAnswer limit h q (Refused (code.Conflict nsr)) = IsVerdict limit h q (Conflict nsr)
IsAnswer limit h q (Refused code.Exhausted) = IsVerdict limit h q Exhausted
IsAnswer limit h q (Refused code.LinkLost) = ⊥

-- the reply to a request that was served on a history, and whose front is the length of that history
pub record IsReply (limit : ℕ) (h : List Entry) (q : Request) (reply : Reply) : Type 0 where
  pub answer : IsAnswer limit h q reply.answer
  pub front : reply.front ≡ length h
