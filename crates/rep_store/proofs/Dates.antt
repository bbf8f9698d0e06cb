-- The recording days of a history, one entry on.
use Rattle.std.proofs.Common.{◌≡◌, ℕ, suc, ◌+◌, ◌<◌, List, [], ◌∷◌, ◌++◌, length, take, get_or, refl, sym, ap, ◌∙◌, arith}
use Rattle.std.proofs.lemmas.List.{take_more}
use Rattle.rep_fields.specs.Moment.{Moment, day_of}
use Rattle.afd_records.specs.Record.{recording_day_of}
use Rattle.rep_wire.specs.declared.request.Entry.{Entry}
use Rattle.rep_wire.specs.declared.request.Request.{Request}
use Rattle.rep_core.specs.Answered.{recorded_after}
use Rattle.rep_core.specs.Core.{Kept}
use Rattle.rep_core.specs.History.{IsNumbered, days_of}
use Rattle.rep_core.proofs.Splits.{split_at}
use Rattle.rep_ledger.proofs.Nexts.{recorded_of-made}
use Rattle.rep_store.specs.Days.{AreDaysOf, Days}

pub days_of-recorded : (h : List Entry) (q : Request) (now : Moment) → days_of (recorded_after h q now) ≡ days_of h ++ day_of now ∷ []
days_of-recorded [] q now = ap (λ m. day_of m ∷ []) (recorded_of-made q.ask now)
days_of-recorded (e ∷ h) q now = ap (λ xs. recording_day_of e.body ∷ xs) (days_of-recorded h q now)

-- the history stays
pub AreDaysOf-kept : (core core' : Kept) (days days' : Days) → core'.entries ≡ core.entries → days'.days ≡ days.days → AreDaysOf core days → AreDaysOf core' days'
AreDaysOf-kept core core' days days' same kept are = record { same = kept ∙ are.same ∙ ap days_of (sym same) }

-- an entry was recorded
pub AreDaysOf-recorded : (core core' : Kept) (days days' : Days) (q : Request) (now : Moment) → core'.entries ≡ recorded_after core.entries q now → days'.days ≡ days.days ++ day_of now ∷ [] → AreDaysOf core days → AreDaysOf core' days'
AreDaysOf-recorded core core' days days' q now entries pushed are = record {
  same = pushed ∙ ap (λ xs. xs ++ day_of now ∷ []) are.same ∙ sym (days_of-recorded core.entries q now) ∙ ap days_of (sym entries);
}

days_of-append : (before behind : List Entry) → days_of (before ++ behind) ≡ days_of before ++ days_of behind
days_of-append [] behind = refl
days_of-append (e ∷ before) behind = ap (λ xs. recording_day_of e.body ∷ xs) (days_of-append before behind)

pub length-days_of : (h : List Entry) → length (days_of h) ≡ length h
length-days_of [] = refl
length-days_of (e ∷ h) = ap suc (length-days_of h)

-- the days up to an entry are those before it, and its own
pub days_of-next : (h : List Entry) (place : ℕ) (e : Entry) → place < length h → IsNumbered h (place + 1) e → take (place + 1) (days_of h) ≡ take place (days_of h) ++ recording_day_of e.body ∷ []
days_of-next h place e inside numbered =
    let split = ap days_of numbered.split ∙ days_of-append numbered.before (e ∷ numbered.behind) in
    let here = split_at (days_of h) (days_of numbered.before) (days_of numbered.behind) (recording_day_of e.body) 0 split in
    let at : length (days_of numbered.before) ≡ place = omega (arith, length-days_of numbered.before, numbered.number) in
    let day : get_or (days_of h) place 0 ≡ recording_day_of e.body = ap (λ k. get_or (days_of h) k 0) (sym at) ∙ here in
    take_more (days_of h) place 0 (omega (arith, length-days_of h)) ∙ ap (λ d. take place (days_of h) ++ d ∷ []) day
