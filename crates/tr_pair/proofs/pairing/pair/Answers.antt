use Rattle.std.proofs.Common.{◌≡◌, ◌<◌, ◌+◌, ◌∷◌, ◌++◌, [], length, arith, ap, sym, refl, subst, ◌∙◌, Some}
use Rattle.std.proofs.lemmas.Option.{slice_get_read}
use Rattle.std.specs.Prelude.{slice_get}
use Rattle.tr_days.specs.Journey.{JourneyMark}
use Rattle.tr_pair.specs.Pairs.{IsFirstCrowded, number_of}
use Rattle.tr_pair.proofs.PlacedLemmas.{ArePlacedBelow, ArePlacedBelow-more, ArePlaced-from_below, IsCounted, IsCounted-more, IsFirstCrowded-next, not_crowded, number_next}
use Rattle.tr_pair.proofs.PairLemmas.{ArePaired-from_placed}
use Rattle.tr_pair.proofs.pairing.pair.Goals as goal

pub loop-mark-preserved : goal.loop-mark-preserved
loop-mark-preserved c =
    let marks = c.args.marks.now in
    let n = c.loop-mark.mark-index in
    let mark = c.mark-item.result in
    let number = c.number_of-number.result in
    let within : n < length marks = omega arith in
    let there : slice_get marks n ≡ Some mark = slice_get_read marks (length marks) n mark refl within c.mark-item.is in
    let numbered : number_of marks n mark ≡ number =
    number_next marks n c.loop-mark.journey.day c.loop-mark.journey.kept number mark c.loop-mark.invariant.counted there
    c.number_of-number.ensures.same c.number_of-number.ensures.other in
    let items = ap (λ next. c.loop-mark.placed.items ++ next ∷ []) c.in-Some.ensures.placed in
    record {
      placed =
          subst (ArePlacedBelow marks (n + 1)) (sym (c.push_reserved.ensures.items ∙ items))
          (ArePlacedBelow-more marks n number c.loop-mark.placed.items mark c.loop-mark.invariant.placed there numbered c.in-Some.ensures.room);
      counted =
          subst (λ d. IsCounted marks (n + 1) d c.behind-journey.result.kept) (sym c.behind-journey.ensures.day)
          (IsCounted-more marks n c.loop-mark.journey.day c.loop-mark.journey.kept number c.behind-journey.result.kept mark c.requires.by_day
          c.loop-mark.invariant.counted there numbered c.behind-journey.ensures.kept c.behind-journey.ensures.dropped);
    }

pub returns-clause-placed : goal.returns-clause-placed
returns-clause-placed c =
    ArePlaced-from_below c.args.marks.now c.loop-mark.mark-index c.loop-mark.placed.items c.loop-mark.invariant.placed (omega arith)

pub returns-clause-paired : goal.returns-clause-paired
returns-clause-paired c =
    ArePaired-from_placed c.args.marks.now c.loop-mark.placed.items
    (ArePlaced-from_below c.args.marks.now c.loop-mark.mark-index c.loop-mark.placed.items c.loop-mark.invariant.placed (omega arith))

pub returns-clause-room : goal.returns-clause-room
returns-clause-room c =
    not_crowded c.args.marks.now c.loop-mark.mark-index c.loop-mark.placed.items c.loop-mark.invariant.placed (omega arith)

pub returns-in_default-clause-too_many : goal.returns-in_default-clause-too_many
returns-in_default-clause-too_many c = λ day is.
    let marks = c.args.marks.now in
    let n = c.loop-mark.mark-index in
    let mark = c.mark-item.result in
    let number = c.number_of-number.result in
    let within : n < length marks = omega arith in
    let there : slice_get marks n ≡ Some mark = slice_get_read marks (length marks) n mark refl within c.mark-item.is in
    let numbered : number_of marks n mark ≡ number =
    number_next marks n c.loop-mark.journey.day c.loop-mark.journey.kept number mark c.loop-mark.invariant.counted there
    c.number_of-number.ensures.same c.number_of-number.ensures.other in
    let told : c.mark.inside.day ≡ day = cc in
    let of_mark : mark.day ≡ day = sym (ap (λ (m : JourneyMark). m.day) c.mark.view_is) ∙ told in
    subst (IsFirstCrowded marks) of_mark
    (IsFirstCrowded-next marks n number c.loop-mark.placed.items mark c.requires.by_day c.loop-mark.invariant.placed there numbered
    c.in_default.ensures.kept c.in_default.ensures.above)
