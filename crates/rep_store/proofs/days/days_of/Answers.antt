use Rattle.std.proofs.Common.{◌≡◌, ◌∙◌, ◌++◌, ◌∷◌, ◌<◌, [], ℕ, List, length, take, ap, sym, arith}
use Rattle.std.proofs.lemmas.List.{take_all}
use Rattle.rep_fields.specs.Moment.{Moment, day_of}
use Rattle.afd_records.specs.Record.{recording_day_of}
use Rattle.rep_core.specs.History.{days_of}
use Rattle.rep_store.proofs.Dates.{days_of-next, length-days_of}
use Rattle.rep_store.proofs.days.days_of.Goals as goal

pub loop-place-preserved : goal.loop-place-preserved
loop-place-preserved c = λ h stands.
    let inside : c.loop-place.place < length h = omega (arith, c.count-place-end.ensures.value h stands) in
    let day : c.day.result ≡ recording_day_of c.entry.result.now.body = c.day.ensures.day ∙ ap (λ (m : Moment). day_of m) c.recorded.ensures in
    c.push.ensures ∙ ap (λ (xs : List ℕ). xs ++ c.day.result ∷ []) (c.reserve.ensures.kept ∙ c.loop-place.invariant h stands)
    ∙ ap (λ (d : ℕ). take c.loop-place.place (days_of h) ++ d ∷ []) day
    ∙ sym (days_of-next h c.loop-place.place c.entry.result.now inside (c.entry.ensures.numbered h stands))

pub returns : goal.returns
returns c = λ h stands.
    c.loop-place.invariant h stands
    ∙ take_all c.loop-place.place (days_of h) (omega (arith, length-days_of h, c.count-place-end.ensures.value h stands))
