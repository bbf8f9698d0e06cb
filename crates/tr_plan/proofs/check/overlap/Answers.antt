use Rattle.std.proofs.Common.{◌≡◌, [], ◌∷◌, ◌++◌, get_or, take, All, Some, sym, ap, ◌∙◌, subst}
use Rattle.std.specs.Prelude.{Any, AllPairs}
use Rattle.std.specs.BTreeMap as tree
use Rattle.std.proofs.lemmas.List.{get_or_default, take_more}
use Rattle.std.proofs.lemmas.List.Elements.{All-take}
use Rattle.std.proofs.lemmas.List.Quantifiers.{all_pairs_push}
use Rattle.tr_plan.specs.Index.{HasEnds, day_cmp}
use Rattle.tr_plan.specs.Link.{BeginsFirst, AreApart, DoOverlap}
use Rattle.tr_plan.specs.declared.link.Link.{Link}
use Rattle.tr_plan.proofs.EndLemmas.{HasEnds-more}
use Rattle.tr_plan.proofs.check.overlap.Goals as goal

pub returns-then-meets_earlier-clause-found : goal.returns-then-meets_earlier-clause-found
returns-then-meets_earlier-clause-found c =
    let links = c.args.links.now in
    let at = c.loop-link.link-index in
    let within = c.loop-link-test.true in
    let this : (link : Link) → c.link-item.result ≡ get_or links at link = λ link. c.link-item.is ∙ get_or_default links at c.link-item.result link within in
    let met = c.meets_earlier.ensures.met c.if-meets_earlier.true (take at links) c.loop-link.invariant.ends in
    record {
      at = at;
      within = within;
      of = λ link. ap (λ l. l.cpf) (sym (this link));
      meets = λ link. subst (λ l. Any (λ earlier. DoOverlap earlier l) (take at links)) (this link) met;
      earlier = c.loop-link.invariant.apart;
    }

pub loop-link-preserved : goal.loop-link-preserved
loop-link-preserved c =
    let links = c.args.links.now in
    let at = c.loop-link.link-index in
    let within = c.loop-link-test.true in
    let link = c.link-item.result in
    let firsts : All BeginsFirst links = c.requires.in_order in
    let earlier_firsts = All-take BeginsFirst at links firsts in
    let first : BeginsFirst link = subst BeginsFirst (sym c.link-item.is) (firsts at link within) in
    let apart = c.meets_earlier.ensures.apart c.if-meets_earlier.false (take at links) c.loop-link.invariant.ends earlier_firsts c.loop-link.invariant.apart in
    let updates = subst (λ (l : Link). tree.Updates day_cmp c.loop-link.ends c.insert.new.self (l.cpf, l.since) (Some l.until)) c.link.view_is c.in-Ok.ensures.updates in
    let more = sym (take_more links at link within ∙ ap (λ l. take at links ++ l ∷ []) (sym c.link-item.is)) in
    record {
      ends = subst (HasEnds c.insert.new.self) more
          (HasEnds-more c.loop-link.ends c.insert.new.self (take at links) link c.loop-link.invariant.ends earlier_firsts first apart updates);
      apart = subst (AllPairs AreApart) more (all_pairs_push AreApart (take at links) link c.loop-link.invariant.apart apart);
    }
