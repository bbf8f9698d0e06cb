use Rattle.std.proofs.Common.{◌≡◌, [], ◌∷◌, ◌++◌, length, take, Some, sym, ap, ◌∙◌, subst, arith}
use Rattle.std.specs.BTreeMap as tree
use Rattle.std.proofs.lemmas.List.{take_more, length-take-le}
use Rattle.tr_plan.specs.Index.{HasStarts, day_cmp}
use Rattle.tr_plan.specs.declared.link.Link.{Link}
use Rattle.tr_plan.proofs.IndexLemmas.{HasPlacesBy-more}
use Rattle.tr_plan.proofs.EndLemmas.{day_cmp_total, exact_days}
use Rattle.tr_plan.proofs.links.starts_of.Goals as goal

pub loop-i-preserved : goal.loop-i-preserved
loop-i-preserved c =
    let links = c.args.links.now in
    let i = c.loop-i.i in
    let link = c.index-links-i.result in
    let within = c.loop-i-test.true in
    let more = sym (take_more links i link within ∙ ap (λ l. take i links ++ l ∷ []) (sym c.index-links-i.is)) in
    let last : c.in-Ok.place ≡ length (take i links) = c.in-Ok.ensures.1 ∙ sym (length-take-le i links (omega arith)) in
    let updates = subst (λ (l : Link). tree.Updates day_cmp c.loop-i.starts c.insert.new.self (l.cpf, l.since) (Some c.in-Ok.place)) c.link.view_is c.in-Ok-insert.ensures.updates in
    subst (HasStarts c.insert.new.self) more
    (HasPlacesBy-more day_cmp day_cmp_total exact_days (λ (l : Link). (l.cpf, l.since)) c.loop-i.starts c.insert.new.self (take i links) link c.in-Ok.place c.loop-i.invariant last updates)
