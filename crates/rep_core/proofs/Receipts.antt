-- Receipts over a history that goes on.
use Rattle.std.proofs.Common.{◌≡◌, ℕ, ◌≤◌, List, ◌++◌, length, Option, Some, refl, ap}
use Rattle.std.proofs.lemmas.List.{take-append-le}
use Rattle.afd_records.specs.Record.{recorded_of}
use Rattle.afd_records.specs.declared.record.Body.{Body}
use Rattle.afd_records.specs.declared.record.Body.TheVariants.{Employer, Adjust, Worker, Event, Clocking}
use Rattle.rep_wire.specs.declared.reply.Slip.{Slip}
use Rattle.rep_wire.specs.declared.request.Entry.{Entry}
use Rattle.rep_core.specs.Chained.{last_hash}
use Rattle.rep_core.specs.Answered.{marked_in, hash_in, slip_of}

-- the hash of an entry stays the same behind more entries
hash_in-more : (h more : List Entry) (nsr : ℕ) (body : Body) → nsr ≤ length h → hash_in (h ++ more) nsr body ≡ hash_in h nsr body
hash_in-more h more nsr (Employer at resp id cno name place) inside = refl
hash_in-more h more nsr (Adjust before after resp) inside = refl
hash_in-more h more nsr (Worker at op cpf name extra resp) inside = refl
hash_in-more h more nsr (Event at code) inside = refl
hash_in-more h more nsr (Clocking marked cpf recorded collector offline) inside =
    ap (λ (first : List Entry). Some (last_hash first)) (take-append-le nsr h more inside)

-- and so does its receipt
pub slip_of-more : (h more : List Entry) (nsr : ℕ) (body : Body) → nsr ≤ length h → slip_of (h ++ more) nsr body ≡ slip_of h nsr body
slip_of-more h more nsr body inside =
    ap (λ (hash : Option (List ℕ)). let slip : Slip = record { nsr = nsr; marked = marked_in body; recorded = recorded_of body; hash = hash } in slip) (hash_in-more h more nsr body inside)
