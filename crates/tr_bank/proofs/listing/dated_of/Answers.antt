use Rattle.std.proofs.Common.{◌+◌, ◌<◌, List, length, arith, ap, sym, refl, subst, ◌∙◌}
use Rattle.std.proofs.lemmas.Bool.{false≢true}
use Rattle.tr_plan.specs.declared.absence.Absence.{Absence}
use Rattle.tr_bank.specs.declared.listing.Dated.{Dated}
use Rattle.tr_bank.proofs.DatedLemmas.{AreDatedBelow, AreDated-from_below, AreDatedBelow-push, AreDatedBelow-skip, IsDated-read, IsAbsenceOf-read}
use Rattle.tr_bank.proofs.listing.dated_of.Goals as goal
use Rattle.tr_bank.proofs.listing.dated_of.Goals.{then-is_absence_of+in_ok-push, else-is_absence_of}

pub returns : goal.returns
returns c =
    AreDated-from_below c.args.plan.now c.args.link c.args.from c.args.to c.loop-place.place c.loop-place.dated.items c.loop-place.invariant (omega arith)

pub loop-place-preserved : goal.loop-place-preserved
loop-place-preserved c =
    let plan = c.args.plan.now in
    let place = c.loop-place.place in
    let dated = c.loop-place.dated.items in
    let within : place < length plan.absences = omega arith in
    let Below = λ (l : List Dated). AreDatedBelow plan c.args.link c.args.from c.args.to (place + 1) l in
    elim c.if-is_absence_of.branch [
      | then-is_absence_of+in_ok-push w ↦
          subst Below (sym (ap (λ v. v.items) w.dated-is ∙ w.in_ok-push.ensures.items))
          (AreDatedBelow-push plan c.args.link c.args.from c.args.to place dated _ c.loop-place.invariant
          (IsDated-read plan c.args.link c.args.from c.args.to _ c.get.result.now c.get-absence.result.now c.requires c.get.ensures.row within
          c.get-absence.ensures.row (c.is_absence_of.ensures.0 w.if-is_absence_of.true) (ap (λ (a : Absence). a.date) c.absence.view_is))
          refl)
      | else-is_absence_of w ↦
          subst Below (sym (ap (λ v. v.items) w.dated-is))
          (AreDatedBelow-skip plan c.args.link c.args.from c.args.to place dated c.loop-place.invariant
          (λ there. false≢true (w.if-is_absence_of.ensures.1
          (IsAbsenceOf-read plan c.args.link c.args.from c.args.to place c.get.result.now c.get-absence.result.now c.requires c.get.ensures.row within
          c.get-absence.ensures.row there))))
    ]
