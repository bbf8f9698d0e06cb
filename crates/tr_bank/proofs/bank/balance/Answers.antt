use Rattle.std.proofs.Common.{rules, ◌≡◌, ◌+◌, ◌<◌, length, Some, refl, sym, subst, ◌∙◌, w64, FitsSigned, get_or, arith}
use Rattle.std.proofs.lemmas.Int.{to_z-of_z}
use Rattle.std.proofs.lemmas.Option.{slice_get_read}
use Rattle.std.specs.Prelude.{slice_get}
use Rattle.tr_bank.specs.Balance.{IsBalance}
use Rattle.tr_bank.proofs.BalanceLemmas.{balance_of-step, in_range_more}
use Rattle.tr_bank.proofs.bank.balance.Goals as goal

pub returns-in_default-clause-none : goal.returns-in_default-clause-none
returns-in_default-clause-none c =
    let absences = c.args.plan.now.absences in
    let places = c.args.places.now in
    let i = c.loop-place.place-index in
    let within : i < length places = omega arith in
    let there : slice_get absences (get_or places i 0) ≡ Some c.get.result.now =
    slice_get_read absences (length absences) (get_or places i 0) c.get.result.now refl (c.requires i 0 within) c.get.ensures.row in
    let opening : FitsSigned w64 c.args.opening = c.ranges.opening in
    let known = simp (to_z-of_z, opening) at c.loop-place.invariant.value in
    let more = balance_of-step absences c.args.opening _ places i c.get.result.now within there known in
    (i + 1, omega arith, λ fits. c.in_default.ensures.none (subst IsBalance (sym more) fits))

pub loop-place-preserved : goal.loop-place-preserved
loop-place-preserved c =
    let absences = c.args.plan.now.absences in
    let places = c.args.places.now in
    let i = c.loop-place.place-index in
    let within : i < length places = omega arith in
    let there : slice_get absences (get_or places i 0) ≡ Some c.get.result.now =
    slice_get_read absences (length absences) (get_or places i 0) c.get.result.now refl (c.requires i 0 within) c.get.ensures.row in
    let fits : FitsSigned w64 c.in-Some.after = search rules in
    let more = c.in-Some.ensures.value ∙ balance_of-step absences _ _ places i c.get.result.now within there c.loop-place.invariant.value in
    record {
      value = (simp (to_z-of_z, fits) more);
      in_range = in_range_more absences _ places i c.loop-place.invariant.in_range (subst IsBalance more fits);
    }
