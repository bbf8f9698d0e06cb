use Rattle.std.proofs.Common.{◌≡◌, get_or, All, refl, sym, ◌∙◌, subst}
use Rattle.std.proofs.lemmas.Bool.{false≢true}
use Rattle.std.proofs.lemmas.List.{get_or_default, take_all}
use Rattle.std.proofs.lemmas.List.Elements.{All-more}
use Rattle.tr_plan.specs.Plan.{HasKnownCode}
use Rattle.tr_plan.proofs.check.unknown_code.Goals as goal

pub returns-then-not-contains-clause-found : goal.returns-then-not-contains-clause-found
returns-then-not-contains-clause-found c = λ schedules has.
    let links = c.args.links.now in
    let at = c.loop-i.i in
    let within = c.loop-i-test.true in
    record {
      at = at;
      here = refl;
      within = within;
      unknown = λ link known.
          let this : get_or links at link ≡ c.index-links-i.result =
          get_or_default links at link c.index-links-i.result within ∙ sym c.index-links-i.is in
          let there = (has c.index-links-i.result.schedule c.code_key.ensures.text).1 (subst (HasKnownCode schedules) this known) in
          false≢true (sym c.if-not-contains.true ∙ c.contains.ensures ∙ rw c.code_key.ensures.value there);
      earlier = c.loop-i.invariant schedules has;
    }

pub loop-i-preserved : goal.loop-i-preserved
loop-i-preserved c = λ schedules has.
    let there = sym c.contains.ensures ∙ c.if-not-contains.false in
    All-more (HasKnownCode schedules) c.args.links.now c.loop-i.i c.index-links-i.result c.loop-i-test.true (c.loop-i.invariant schedules has)
    (subst (HasKnownCode schedules) c.index-links-i.is
    ((has c.index-links-i.result.schedule c.code_key.ensures.text).0 (rw (sym c.code_key.ensures.value) there)))

pub returns-clause-none : goal.returns-clause-none
returns-clause-none c = λ schedules has.
    subst (All (HasKnownCode schedules)) (take_all c.loop-i.i c.args.links.now c.loop-i-test.false) (c.loop-i.invariant schedules has)
