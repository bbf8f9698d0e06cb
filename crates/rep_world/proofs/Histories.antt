-- What holds of a world's histories stays so when the world goes on.
use Rattle.std.proofs.Common.{◌≡◌, ℕ, ◌<◌, ◌≤◌, ◌⊎◌, inl, inr, List, [], ◌∷◌, ◌++◌, length, Option, Some, refl, sym, ap, subst, ◌∙◌, arith, append-nil, append_assoc}
use Rattle.std.specs.Prelude.{All, Contains}
use Rattle.std.proofs.lemmas.List.{append_cancel_left, take-append-le}
use Rattle.std.proofs.lemmas.List.Elements.{All-nil, All-append, All-cons, All-weaker, Contains-append_left}
use Rattle.rep_fields.specs.Moment.{moment_at}
use Rattle.afd_records.specs.Record.{recorded_of}
use Rattle.afd_records.specs.declared.record.Body.{Body}
use Rattle.afd_records.specs.declared.record.Body.TheVariants as body
use Rattle.rep_wire.specs.declared.request.Request.{Request}
use Rattle.rep_wire.specs.declared.request.Entry.{Entry}
use Rattle.rep_wire.specs.declared.reply.Answer.{Answer}
use Rattle.rep_wire.specs.declared.reply.Answer.TheVariants.{Receipt, Refused}
use Rattle.rep_wire.specs.declared.reply.Slip.{Slip}
use Rattle.rep_core.specs.Chained.{last_hash}
use Rattle.rep_core.specs.History.{CameBy, IsNew, IsNumbered}
use Rattle.rep_core.specs.Valid.{IsFounded}
use Rattle.rep_core.specs.Answered.{entry_of, slip_of, hash_in, marked_in, IsAnswer}
use Rattle.rep_core.proofs.Splits.{split_in}
use Rattle.rep_ledger.specs.Safety.{IsFrontOf}
use Rattle.rep_site.specs.declared.site.Site.{Site}
use Rattle.rep_world.specs.declared.naming.Naming.{Naming}
use Rattle.rep_world.specs.World.{World, BehindFirst, HasPairsOnce, IsHistory, IsMessage, IsNamed, IsReceiptIn}
use Rattle.rep_world.specs.Events.{receipts_in}

same_heads : (a b : Entry) (xs ys : List Entry) → a ∷ xs ≡ b ∷ ys → a ≡ b
same_heads a b xs ys same = cc

same_tails : (a b : Entry) (xs ys : List Entry) → a ∷ xs ≡ b ∷ ys → xs ≡ ys
same_tails a b xs ys same = cc

-- each entry of a founded history was new when it was recorded
pub pairs_once : (h : List Entry) → IsFounded h → HasPairsOnce h
pairs_once [] founded before e behind split = absurd founded
pairs_once (first ∷ rest) founded [] e behind split = All-nil (λ (d : Entry). CameBy e.origin e.seq d → ⊥)
pairs_once (first ∷ rest) founded (x ∷ before) e behind split =
    let head : first ≡ x = same_heads first x rest (before ++ e ∷ behind) split in
    let tail : rest ≡ before ++ e ∷ behind = same_tails first x rest (before ++ e ∷ behind) split in
    let fits = founded.1 before e behind tail in
    subst (λ (d : Entry). IsNew e.origin e.seq (d ∷ before)) head
    (subst (λ (n : ℕ). IsNew n e.seq (first ∷ before)) (sym (ap (λ (d : Entry). d.origin) fits.made))
    (subst (λ (n : ℕ). IsNew fits.q.origin n (first ∷ before)) (sym (ap (λ (d : Entry). d.seq) fits.made)) fits.fresh.0))

pub IsMessage-more : (sent more : List Request) (k : ℕ) (q : Request) → IsMessage sent k q → IsMessage (sent ++ more) k q
IsMessage-more sent more k q m = record {
  before = m.before;
  behind = m.behind ++ more;
  split = ap (λ (s : List Request). s ++ more) m.split ∙ append_assoc m.before (q ∷ m.behind) more;
  number = m.number;
}

-- entries that were named stay so
pub IsNamed-more : (old new : World) → new.site ≡ old.site → (sent : (more : List Request) × (new.sent ≡ old.sent ++ more)) → (named : (more : List Naming) × (new.named ≡ old.named ++ more)) → (e : Entry) → IsNamed old e → IsNamed new e
IsNamed-more old new site sent named e is = record {
  naming = is.naming;
  listed = subst (λ (ns : List Naming). Contains ns is.naming) (sym named.1) (Contains-append_left old.named named.0 is.naming is.listed);
  request = is.request;
  message = subst (λ (qs : List Request). IsMessage qs is.naming.message is.request) (sym sent.1) (IsMessage-more old.sent sent.0 is.naming.message is.request is.message);
  made = is.made ∙ ap (λ (s : Site). entry_of is.request (moment_at is.naming.minute s.offset)) (sym site);
}

pub BehindFirst-weaker : (P Q : Entry → Type 0) → ((e : Entry) → P e → Q e) → (h : List Entry) → BehindFirst P h → BehindFirst Q h
BehindFirst-weaker P Q weaker [] all = tt
BehindFirst-weaker P Q weaker (first ∷ h) all = All-weaker P Q weaker h all

pub BehindFirst-push : (P : Entry → Type 0) (h : List Entry) (e : Entry) → 0 < length h → BehindFirst P h → P e → BehindFirst P (h ++ e ∷ [])
BehindFirst-push P [] e some all p = absurd (omega (arith, some))
BehindFirst-push P (first ∷ h) e some all p = All-append P h (e ∷ []) all (All-cons P e [] p (All-nil P))

hash_in-more : (h more : List Entry) (nsr : ℕ) (b : Body) → nsr ≤ length h → hash_in h nsr b ≡ hash_in (h ++ more) nsr b
hash_in-more h more nsr (body.Employer at resp id cno name place) inside = refl
hash_in-more h more nsr (body.Adjust before after resp) inside = refl
hash_in-more h more nsr (body.Worker at op cpf name extra resp) inside = refl
hash_in-more h more nsr (body.Event at code) inside = refl
hash_in-more h more nsr (body.Clocking marked cpf recorded collector offline) inside =
    ap (λ (xs : List Entry). Some (last_hash xs)) (sym (take-append-le nsr h more inside))

slip_of-more : (h more : List Entry) (nsr : ℕ) (b : Body) → nsr ≤ length h → slip_of h nsr b ≡ slip_of (h ++ more) nsr b
slip_of-more h more nsr b inside =
    ap (λ (o : Option (List ℕ)). let s : Slip = record { nsr = nsr; marked = marked_in b; recorded = recorded_of b; hash = o } in s) (hash_in-more h more nsr b inside)

-- receipts stay those of their entries
pub receipt-more : (h more : List Entry) (slip : Slip) → IsReceiptIn h slip → IsReceiptIn (h ++ more) slip
receipt-more h more slip is =
    let inside : slip.nsr ≤ length h = omega (arith, split_in h is.1.before is.1.behind is.0 is.1.split, is.1.number) in (
      is.0,
      record {
        before = is.1.before;
        behind = is.1.behind ++ more;
        split = ap (λ (xs : List Entry). xs ++ more) is.1.split ∙ append_assoc is.1.before (is.0 ∷ is.1.behind) more;
        number = is.1.number;
      },
      is.2 ∙ slip_of-more h more slip.nsr is.0.body inside,
    )

pub receipts-more : (h more : List Entry) (slips : List Slip) → All (IsReceiptIn h) slips → All (IsReceiptIn (h ++ more)) slips
receipts-more h more slips all = All-weaker (IsReceiptIn h) (IsReceiptIn (h ++ more)) (λ slip is. receipt-more h more slip is) slips all

-- an answer's receipt is one
pub receipt_of_answer : (limit : ℕ) (h : List Entry) (q : Request) (answer : Answer) → IsAnswer limit h q answer → All (IsReceiptIn h) (receipts_in answer)
receipt_of_answer limit h q (Receipt slip) is =
    let same : slip.nsr ≡ is.0 = ap (λ (s : Slip). s.nsr) is.4 in
    All-cons (IsReceiptIn h) slip []
    (is.1, subst (λ n. IsNumbered h n is.1) (sym same) is.3, is.4 ∙ ap (λ n. slip_of h n is.1.body) (sym same))
    (All-nil (IsReceiptIn h))
receipt_of_answer limit h q (Refused code) is = All-nil (IsReceiptIn h)

-- a history goes on in a world that goes on, and no receipt was issued
pub IsHistory-more : (old new : World) → new.site ≡ old.site → (sent : (more : List Request) × (new.sent ≡ old.sent ++ more)) → (named : (more : List Naming) × (new.named ≡ old.named ++ more)) → new.issued ≡ old.issued → (h : List Entry) → IsHistory old h → IsHistory new h
IsHistory-more old new site sent named issued h is = record {
  receipts = subst (All (IsReceiptIn h)) (sym issued) is.receipts;
  of_messages = BehindFirst-weaker (IsNamed old) (IsNamed new) (IsNamed-more old new site sent named) h is.of_messages;
}

-- an entry more
pub IsHistory-push : (w : World) (h : List Entry) (e : Entry) → 0 < length h → IsNamed w e → IsHistory w h → IsHistory w (h ++ e ∷ [])
IsHistory-push w h e some named is = record {
  receipts = receipts-more h (e ∷ []) w.issued is.receipts;
  of_messages = BehindFirst-push (IsNamed w) h e some is.of_messages named;
}

-- what lies between a history and the same with an entry more
split_one : (e : Entry) (front behind : List Entry) → e ∷ [] ≡ front ++ behind → (front ≡ []) ⊎ (front ≡ e ∷ [])
split_one e [] behind same = inl refl
split_one e (x ∷ []) behind same = inr (cc)
split_one e (x ∷ y ∷ front) behind same = absurd cc

pub between_two : (before h : List Entry) (e : Entry) → IsFrontOf before h → IsFrontOf h (before ++ e ∷ []) → (h ≡ before) ⊎ (h ≡ before ++ e ∷ [])
between_two before h e one two =
    let all : before ++ e ∷ [] ≡ before ++ (one.0 ++ two.0) = two.1 ∙ ap (λ (xs : List Entry). xs ++ two.0) one.1 ∙ append_assoc before one.0 two.0 in
    elim (split_one e one.0 two.0 (append_cancel_left before (e ∷ []) (one.0 ++ two.0) all)) [
      | inl none ↦ inl (one.1 ∙ ap (λ (xs : List Entry). before ++ xs) none ∙ append-nil before)
      | inr some ↦ inr (one.1 ∙ ap (λ (xs : List Entry). before ++ xs) some)
    ]
