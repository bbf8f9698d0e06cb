-- The line that an entry has where it can stand next is one that a reader takes, with the entry's record.
use Rattle.std.proofs.Common.{◌≡◌, ℕ, suc, ◌<◌, ◌≤◌, ◌⊎◌, inl, inr, Bool, true, false, not, List, [], ◌∷◌, ◌++◌, length, Some, None, refl, sym, ap, subst, ◌∙◌, arith}
use Rattle.std.specs.Prelude.{sum_by}
use Rattle.std.specs.Str.{bytes_eq}
use Rattle.std.proofs.lemmas.Slice.Eq.{bytes_eq-Decides}
use Rattle.rep_fields.specs.Moment.{Moment, IsMoment}
use Rattle.afd_records.specs.Record.{last_nsr, IsBody, recorded_of, payload_text}
use Rattle.afd_records.specs.Line.{HasHash, IsLineOf}
use Rattle.afd_records.specs.declared.record.Body.{Body}
use Rattle.afd_records.specs.declared.record.Body.TheVariants as body
use Rattle.afd_records.specs.Fields.{width_of}
use Rattle.afd_records.proofs.RecordParts.{layout_for}
use Rattle.afd_records.proofs.Printed.{printed_laid_out}
use Rattle.rep_wire.specs.Made.{made_of}
use Rattle.rep_wire.specs.Request.{IsAsk, IsFounding, IsFoundingAsk, IsRequest}
use Rattle.rep_wire.specs.declared.request.Ask.{Ask}
use Rattle.rep_wire.specs.declared.request.Ask.TheVariants.{Mark, Employer, Worker, Adjust, Event}
use Rattle.rep_wire.specs.declared.request.Entry.{Entry}
use Rattle.rep_wire.specs.declared.request.Request.{Request}
use Rattle.rep_core.specs.Answered.{entry_of}
use Rattle.rep_core.specs.Chained.{last_hash, next_line}
use Rattle.rep_core.specs.Hashes.{hash_behind}
use Rattle.rep_core.specs.History.{CameBy}
use Rattle.rep_core.specs.Verdict.{IsVerdict, HasWorker}
use Rattle.rep_core.specs.declared.verdict.Verdict.TheVariants.{Fresh}
use Rattle.rep_core.proofs.Hashes.{next_line-is}
use Rattle.rep_journal.specs.Format.{IsLineLength}
use Rattle.rep_ledger.specs.Asked.{Became}
use Rattle.rep_ledger.specs.Fitting.{FitsAt}
use Rattle.rep_ledger.specs.Taking.{IsRecording, MayBecomeNext}
use Rattle.rep_ledger.specs.declared.taking.Recording.{Recording}
use Rattle.afd_chain.proofs.HashText.{IsHashText-sha_text}

-- an entry of a request, recorded at some stamp, is so at its own
pub recorded_of-made : (ask : Ask) (now : Moment) → recorded_of (made_of ask now) ≡ now
recorded_of-made (Mark cpf collector None) now = refl
recorded_of-made (Mark cpf collector (Some at)) now = refl
recorded_of-made (Employer resp id cno name place) now = refl
recorded_of-made (Worker op cpf name extra resp) now = refl
recorded_of-made (Adjust before resp) now = refl
recorded_of-made (Event code) now = refl

-- each part of a record is in its range where what was asked is, and the stamp
IsBody-made : (ask : Ask) (now : Moment) → IsAsk ask → IsMoment now → IsBody (made_of ask now)
IsBody-made (Mark cpf collector None) now asked stamp = (stamp, asked.0, stamp, asked.1)
IsBody-made (Mark cpf collector (Some at)) now asked stamp = (asked.2, asked.0, stamp, asked.1)
IsBody-made (Employer resp id cno name place) now asked stamp = (stamp, asked.0, asked.1, asked.2, asked.3, asked.6)
IsBody-made (Worker op cpf name extra resp) now asked stamp = (stamp, asked.0, asked.1, asked.4, asked.6)
IsBody-made (Adjust before resp) now asked stamp = (asked.0, stamp, asked.1)
IsBody-made (Event code) now asked stamp = (stamp, asked)

IsBody-founding : (ask : Ask) (now : Moment) → IsFoundingAsk ask → IsMoment now → IsBody (made_of ask now)
IsBody-founding (Mark cpf collector at) now asked stamp = absurd asked
IsBody-founding (Employer resp id cno name place) now asked stamp = (stamp, asked.0, asked.1, asked.2, asked.3, asked.5)
IsBody-founding (Worker op cpf name extra resp) now asked stamp = absurd asked
IsBody-founding (Adjust before resp) now asked stamp = absurd asked
IsBody-founding (Event code) now asked stamp = absurd asked

-- what an entry that can stand next is made of
pub record Origin (h : List Entry) (e : Entry) : Type 0 where
  pub q : Request
  pub became : Became (MayBecomeNext h) q e
  pub stamp : IsMoment (recorded_of e.body)
  pub in_range : IsBody e.body
  pub fresh : IsVerdict last_nsr h q Fresh

origin_of : (h : List Entry) (e : Entry) (q : Request) (now : Moment) → MayBecomeNext h q → IsMoment now → e ≡ entry_of q now → IsBody (made_of q.ask now) → IsVerdict last_nsr h q Fresh → Origin h e
origin_of h e q now asked stamp made in_range fresh =
    let at : recorded_of e.body ≡ now = ap (λ (d : Entry). recorded_of d.body) made ∙ recorded_of-made q.ask now in
    record {
      q = q;
      became = record { asked = asked; made = made ∙ ap (λ m. entry_of q m) (sym at) };
      stamp = subst IsMoment (sym at) stamp;
      in_range = subst (λ (d : Entry). IsBody d.body) (sym made) in_range;
      fresh = fresh;
    }

-- a founding request is to be recorded behind nothing
HasWorker-founding : (ask : Ask) → IsFoundingAsk ask → HasWorker [] ask
HasWorker-founding (Mark cpf collector at) founding = absurd founding
HasWorker-founding (Employer resp id cno name place) founding = tt
HasWorker-founding (Worker op cpf name extra resp) founding = absurd founding
HasWorker-founding (Adjust before resp) founding = absurd founding
HasWorker-founding (Event code) founding = absurd founding

pub founding_fresh : (limit : ℕ) (q : Request) → 1 ≤ limit → IsFounding q → IsVerdict limit [] q Fresh
founding_fresh limit q some founding = (λ k d inside. absurd (omega arith), HasWorker-founding q.ask founding.ask, some)

pub origin : (h : List Entry) (e : Entry) → FitsAt h e → Origin h e
origin [] e founds =
    origin_of [] e founds.q founds.now founds.founding founds.stamp founds.made
    (IsBody-founding founds.q.ask founds.now founds.founding.ask founds.stamp) (founding_fresh last_nsr founds.q (omega arith) founds.founding)
origin (first ∷ h) e fits =
    origin_of (first ∷ h) e fits.q fits.now fits.asked fits.stamp fits.made
    (IsBody-made fits.q.ask fits.now fits.asked.ask fits.stamp) fits.fresh

HasHash-behind : (h : List Entry) (b : Body) → HasHash b (hash_behind h b)
HasHash-behind h (body.Employer at resp id cno name place) = refl
HasHash-behind h (body.Adjust before after resp) = refl
HasHash-behind h (body.Worker at op cpf name extra resp) = refl
HasHash-behind h (body.Event at code) = refl
HasHash-behind h (body.Clocking marked cpf recorded collector offline) =
    IsHashText-sha_text (payload_text (suc (length h)) (body.Clocking marked cpf recorded collector offline) ++ last_hash h)

-- the line of a record behind a history is one that a reader takes
pub IsLineOf-next : (h : List Entry) (b : Body) (line : List ℕ) → length h < last_nsr → IsBody b → line ≡ next_line h b → IsLineOf (suc (length h)) b (hash_behind h b) line
IsLineOf-next h b line room in_range written = record {
  numbered = (omega arith, omega arith);
  in_range = in_range;
  hashed = HasHash-behind h b;
  written = written ∙ sym (next_line-is h b (suc (length h)) (hash_behind h b) refl refl);
}

-- so its length is one of a record's line
IsLineLength-layout : (b : Body) (line : List ℕ) → length line ≡ sum_by width_of (layout_for b) → IsLineLength (length line)
IsLineLength-layout (body.Employer at resp id cno name place) line size = inr (inr (inr (inr size)))
IsLineLength-layout (body.Adjust before after resp) line size = inr (inl size)
IsLineLength-layout (body.Worker at op cpf name extra resp) line size = inr (inr (inl size))
IsLineLength-layout (body.Event at code) line size = inl size
IsLineLength-layout (body.Clocking marked cpf recorded collector offline) line size = inr (inr (inr (inl size)))

pub IsLineLength-next : (h : List Entry) (b : Body) (line : List ℕ) → length h < last_nsr → IsBody b → line ≡ next_line h b → IsLineLength (length line)
IsLineLength-next h b line room in_range written =
    IsLineLength-layout b line
    (printed_laid_out (suc (length h)) b (hash_behind h b) line (IsLineOf-next h b line room in_range written)).size

-- the record of a request is in its range
pub IsBody-recorded : (q : Request) (now : Moment) → IsRequest q ⊎ IsFounding q → IsMoment now → IsBody (made_of q.ask now)
IsBody-recorded q now (inl asked) stamp = IsBody-made q.ask now asked.ask stamp
IsBody-recorded q now (inr founding) stamp = IsBody-founding q.ask now founding.ask stamp

-- the stamp of a record in its range is in its range
pub IsMoment-recorded : (b : Body) → IsBody b → IsMoment (recorded_of b)
IsMoment-recorded (body.Employer at resp id cno name place) in_range = in_range.0
IsMoment-recorded (body.Adjust before after resp) in_range = in_range.1
IsMoment-recorded (body.Worker at op cpf name extra resp) in_range = in_range.0
IsMoment-recorded (body.Event at code) in_range = in_range.0
IsMoment-recorded (body.Clocking marked cpf recorded collector offline) in_range = in_range.2

-- which requests may come next hangs on whether something stands there
pub Became-first : (h : List Entry) (q : Request) (e : Entry) → length h ≡ 0 → Became (MayBecomeNext h) q e → Became IsFounding q e
Became-first [] q e none became = became
Became-first (first ∷ h) q e none became = absurd (omega arith)

pub Became-later : (h : List Entry) (q : Request) (e : Entry) → 0 < length h → Became (MayBecomeNext h) q e → Became IsRequest q e
Became-later [] q e some became = absurd (omega arith)
Became-later (first ∷ h) q e some became = became

-- an entry with this pair and this record
pub same_entry : (e : Entry) (from seq : ℕ) (b : Body) → CameBy from seq e → b ≡ e.body → let d : Entry = record { origin = from; seq = seq; body = b } in d ≡ e
same_entry e from seq b came same =
    let by_origin : ℕ → Entry = λ o. record { origin = o; seq = seq; body = b } in
    let by_seq : ℕ → Entry = λ s. record { origin = e.origin; seq = s; body = b } in
    let by_body : Body → Entry = λ x. record { origin = e.origin; seq = e.seq; body = x } in
    ap by_origin (sym came.0) ∙ ap by_seq (sym came.1) ∙ ap by_body same

-- what is to be recorded next can stand next
pub FitsAt-recorded : (h : List Entry) (q : Request) (now : Moment) → MayBecomeNext h q → IsMoment now → IsVerdict last_nsr h q Fresh → FitsAt h (entry_of q now)
FitsAt-recorded [] q now asked stamp fresh = record { q = q; now = now; founding = asked; stamp = stamp; made = refl }
FitsAt-recorded (first ∷ h) q now asked stamp fresh = record { q = q; now = now; asked = asked; stamp = stamp; made = refl; fresh = fresh }

pub may_become : (h : List Entry) (q : Request) → MayBecomeNext h q → IsRequest q ⊎ IsFounding q
may_become [] q asked = inr asked
may_become (first ∷ h) q asked = inl asked

-- what a comparison of two texts says
pub differ : (a b : List ℕ) → true ≡ not (bytes_eq a b) → a ≡ b → ⊥
differ a b apart same = let equal = (bytes_eq-Decides a b).1 same in absurd cc

not-false : (b : Bool) → false ≡ not b → b ≡ true
not-false true is = refl
not-false false is = absurd cc

pub same_bytes : (a b : List ℕ) → false ≡ not (bytes_eq a b) → a ≡ b
same_bytes a b equal = (bytes_eq-Decides a b).0 (not-false (bytes_eq a b) equal)

-- a request that is to be recorded, and became the entry with this pair and this line
pub IsRecording-from : (h : List Entry) (from seq : ℕ) (line written : List ℕ) (b : Body) (q : Request) (at : Moment) → let e : Entry = record { origin = from; seq = seq; body = b } in Became (MayBecomeNext h) q e → at ≡ recorded_of b → IsBody b → IsVerdict last_nsr h q Fresh → written ≡ next_line h b → written ≡ line → let r : Recording = record { request = q; at = at } in IsRecording h from seq line r
IsRecording-from h from seq line written b q at became at_is in_range fresh written_is same =
    let e : Entry = record { origin = from; seq = seq; body = b } in
    let made : entry_of q at ≡ e = ap (λ m. entry_of q m) at_is ∙ sym became.made in
    record {
      next = record {
        fits = FitsAt-recorded h q at became.asked (subst IsMoment (sym at_is) (IsMoment-recorded b in_range)) fresh;
        came = (ap (λ (d : Entry). d.origin) made, ap (λ (d : Entry). d.seq) made);
        written = sym same ∙ written_is ∙ ap (λ (d : Entry). next_line h d.body) (sym made);
      };
      asked = may_become h q became.asked;
      fresh = fresh;
    }
