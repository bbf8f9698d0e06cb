-- Verdicts over a history.
use Rattle.std.proofs.Common.{◌≡◌, ℕ, suc, ◌≤◌, List, [], ◌∷◌, length, Option, Some, None, refl, sym, ap, subst, arith, length-append}
use Rattle.rep_fields.specs.Moment.{Moment}
use Rattle.rep_wire.specs.Made.{made_of, IsSame}
use Rattle.rep_wire.specs.declared.request.Ask.{Ask}
use Rattle.rep_wire.specs.declared.request.Ask.TheVariants.{Mark, Employer, Worker, Adjust, Event}
use Rattle.rep_wire.specs.declared.request.Request.{Request}
use Rattle.rep_wire.specs.declared.request.Entry.{Entry}
use Rattle.rep_core.specs.History.{IsFound}
use Rattle.rep_core.specs.Lookup.{KeepsPair}
use Rattle.rep_core.specs.Verdict.{IsVerdict, IsVerdictBy}
use Rattle.rep_core.specs.Answered.{entry_of, recorded_after}
use Rattle.rep_core.specs.declared.verdict.Verdict.{Verdict}
use Rattle.rep_core.specs.declared.verdict.Verdict.TheVariants.{Repeat, Conflict, Unregistered, Exhausted, Fresh}
use Rattle.rep_core.proofs.Numbered.{IsFound-unique, not_found}

-- a request has one verdict
pub IsVerdict-unique : (limit : ℕ) (h : List _) (q : Request) (v w : Verdict) → IsVerdict limit h q v → IsVerdict limit h q w → v ≡ w
IsVerdict-unique limit h q (Repeat m) (Repeat n) one two = ap Repeat (IsFound-unique q.origin q.seq h m n one.0 two.0 one.1 two.1).0
IsVerdict-unique limit h q (Repeat m) (Conflict n) one two =
    absurd (two.2 (subst (λ e. IsSame q.ask e.body) (IsFound-unique q.origin q.seq h m n one.0 two.0 one.1 two.1).1 one.2))
IsVerdict-unique limit h q (Repeat m) Unregistered one two = absurd (not_found q.origin q.seq h m one.0 two.0 one.1)
IsVerdict-unique limit h q (Repeat m) Exhausted one two = absurd (not_found q.origin q.seq h m one.0 two.0 one.1)
IsVerdict-unique limit h q (Repeat m) Fresh one two = absurd (not_found q.origin q.seq h m one.0 two.0 one.1)
IsVerdict-unique limit h q (Conflict m) (Repeat n) one two =
    absurd (one.2 (subst (λ e. IsSame q.ask e.body) (IsFound-unique q.origin q.seq h n m two.0 one.0 two.1 one.1).1 two.2))
IsVerdict-unique limit h q (Conflict m) (Conflict n) one two = ap Conflict (IsFound-unique q.origin q.seq h m n one.0 two.0 one.1 two.1).0
IsVerdict-unique limit h q (Conflict m) Unregistered one two = absurd (not_found q.origin q.seq h m one.0 two.0 one.1)
IsVerdict-unique limit h q (Conflict m) Exhausted one two = absurd (not_found q.origin q.seq h m one.0 two.0 one.1)
IsVerdict-unique limit h q (Conflict m) Fresh one two = absurd (not_found q.origin q.seq h m one.0 two.0 one.1)
IsVerdict-unique limit h q Unregistered (Repeat n) one two = absurd (not_found q.origin q.seq h n two.0 one.0 two.1)
IsVerdict-unique limit h q Unregistered (Conflict n) one two = absurd (not_found q.origin q.seq h n two.0 one.0 two.1)
IsVerdict-unique limit h q Unregistered Unregistered one two = refl
IsVerdict-unique limit h q Unregistered Exhausted one two = absurd (one.1 two.1)
IsVerdict-unique limit h q Unregistered Fresh one two = absurd (one.1 two.1)
IsVerdict-unique limit h q Exhausted (Repeat n) one two = absurd (not_found q.origin q.seq h n two.0 one.0 two.1)
IsVerdict-unique limit h q Exhausted (Conflict n) one two = absurd (not_found q.origin q.seq h n two.0 one.0 two.1)
IsVerdict-unique limit h q Exhausted Unregistered one two = absurd (two.1 one.1)
IsVerdict-unique limit h q Exhausted Exhausted one two = refl
IsVerdict-unique limit h q Exhausted Fresh one two = absurd (omega (arith, one.2, two.2))
IsVerdict-unique limit h q Fresh (Repeat n) one two = absurd (not_found q.origin q.seq h n two.0 one.0 two.1)
IsVerdict-unique limit h q Fresh (Conflict n) one two = absurd (not_found q.origin q.seq h n two.0 one.0 two.1)
IsVerdict-unique limit h q Fresh Unregistered one two = absurd (two.1 one.1)
IsVerdict-unique limit h q Fresh Exhausted one two = absurd (omega (arith, one.2, two.2))
IsVerdict-unique limit h q Fresh Fresh one two = refl

-- a request's record has its content
pub IsSame-made : (ask : Ask) (now : Moment) → IsSame ask (made_of ask now)
IsSame-made (Mark cpf collector None) now = (refl, refl, refl)
IsSame-made (Mark cpf collector (Some at)) now = (refl, refl, (refl, refl))
IsSame-made (Employer resp id cno name place) now = (refl, refl, refl, refl, refl)
IsSame-made (Worker op cpf name extra resp) now = (refl, refl, refl, refl, refl)
IsSame-made (Adjust before resp) now = (refl, refl)
IsSame-made (Event code) now = refl

-- once it is recorded, a request is a repeat of the new entry
pub repeat_of_recorded : (limit later : ℕ) (h : List _) (q : Request) (now : Moment) → IsVerdict limit h q Fresh → IsVerdict later (recorded_after h q now) q (Repeat (suc (length h)))
repeat_of_recorded limit later h q now fresh = (
  entry_of q now,
  record {
    numbered = record { before = h; behind = []; split = refl; number = refl };
    came = (refl, refl);
    first = fresh.0;
  },
  IsSame-made q.ask now,
)

-- what is to be recorded is so under each greater limit
pub fresh_within : (limit most : ℕ) (h : List _) (q : Request) → limit ≤ most → IsVerdict limit h q Fresh → IsVerdict most h q Fresh
fresh_within limit most h q within fresh = (fresh.0, fresh.1, omega (arith, fresh.2))

-- the same by the history as it stands then
pub repeat_after : (limit later : ℕ) (h after : List _) (q : Request) (now : Moment) → IsVerdict limit h q Fresh → after ≡ recorded_after h q now → IsVerdict later after q (Repeat (length after))
repeat_after limit later h after q now fresh same =
    let number : suc (length h) ≡ length after = omega (arith, ap length same, length-append h (entry_of q now ∷ [])) in
    subst (λ n. IsVerdict later after q (Repeat n)) number
    (subst (λ xs. IsVerdict later xs q (Repeat (suc (length h)))) (sym same) (repeat_of_recorded limit later h q now fresh))

-- the verdict by the entry that came by the pair is the verdict
pub exact_by : (kept : Option Entry) (limit : ℕ) (h : List Entry) (q : Request) (v : Verdict) → KeepsPair q.origin q.seq h kept → IsVerdictBy kept limit h q v → IsVerdict limit h q v
exact_by None limit h q v came by = by
exact_by (Some e) limit h q (Repeat nsr) came by =
    let same = IsFound-unique q.origin q.seq h came.0 nsr e by.0.0 came.1 by.0.1 in
    (e, subst (λ n. IsFound q.origin q.seq h n e) same.0 came.1, by.1)
exact_by (Some e) limit h q (Conflict nsr) came by =
    let same = IsFound-unique q.origin q.seq h came.0 nsr e by.0.0 came.1 by.0.1 in
    (e, subst (λ n. IsFound q.origin q.seq h n e) same.0 came.1, by.1)
exact_by (Some e) limit h q Unregistered came by = absurd by
exact_by (Some e) limit h q Exhausted came by = absurd by
exact_by (Some e) limit h q Fresh came by = absurd by
