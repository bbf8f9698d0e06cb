use Rattle.std.proofs.Common.{ap, subst, arith}
use Rattle.std.specs.BTreeMap.Range.{IsRangeOf}
use Rattle.std.specs.declared.ops.Bound.TheVariants.{Included, Unbounded}
use Rattle.tr_plan.specs.Index.{day_cmp}
use Rattle.tr_plan.specs.declared.link.Link.{Link}
use Rattle.tr_plan.proofs.EndLemmas.{latest_of, meets_latest, behind_latest, behind_none}
use Rattle.tr_plan.proofs.check.meets_earlier.Goals as goal

-- src/check.rt:52:1
pub returns-then-begin-link-clause-met : goal.returns-then-begin-link-clause-met
returns-then-begin-link-clause-met c = λ less earlier has.
    let ends = c.args.ends.now in
    let link = c.args.link.now in
    let range = subst (λ (l : Link). IsRangeOf day_cmp Unbounded (Included (l.cpf, l.until)) ends c.range.result) c.link.view_is (c.range.ensures.in_range tt) in
    let latest = latest_of ends (link.cpf, link.until) c.range.result c.next_back.new.self (c.in-Some.begin.now, c.in-Some.until.now) range c.in-Some.ensures.steps in
    let cpf = ap (λ (l : Link). l.cpf) c.link.view_is in
    let since = ap (λ (l : Link). l.since) c.link.view_is in
    meets_latest ends earlier link (c.in-Some.begin.now, c.in-Some.until.now) has latest (grind (arith, c.if-begin-link.true, cpf)) (grind (arith, less, since))

-- src/check.rt:52:1
pub returns-then-begin-link-clause-apart : goal.returns-then-begin-link-clause-apart
returns-then-begin-link-clause-apart c = λ more earlier has firsts apart.
    let ends = c.args.ends.now in
    let link = c.args.link.now in
    let range = subst (λ (l : Link). IsRangeOf day_cmp Unbounded (Included (l.cpf, l.until)) ends c.range.result) c.link.view_is (c.range.ensures.in_range tt) in
    let latest = latest_of ends (link.cpf, link.until) c.range.result c.next_back.new.self (c.in-Some.begin.now, c.in-Some.until.now) range c.in-Some.ensures.steps in
    let since = ap (λ (l : Link). l.since) c.link.view_is in
    behind_latest ends earlier link (c.in-Some.begin.now, c.in-Some.until.now) has firsts apart latest (λ _. grind (arith, more, since))

-- src/check.rt:52:1
pub returns-else-begin-link-clause-apart : goal.returns-else-begin-link-clause-apart
returns-else-begin-link-clause-apart c = λ _ earlier has firsts apart.
    let ends = c.args.ends.now in
    let link = c.args.link.now in
    let range = subst (λ (l : Link). IsRangeOf day_cmp Unbounded (Included (l.cpf, l.until)) ends c.range.result) c.link.view_is (c.range.ensures.in_range tt) in
    let latest = latest_of ends (link.cpf, link.until) c.range.result c.next_back.new.self (c.in-Some.begin.now, c.in-Some.until.now) range c.in-Some.ensures.steps in
    let cpf = ap (λ (l : Link). l.cpf) c.link.view_is in
    behind_latest ends earlier link (c.in-Some.begin.now, c.in-Some.until.now) has firsts apart latest
    (λ same. absurd (grind (arith, c.if-begin-link.false, cpf, same)))

-- src/check.rt:52:1
pub returns-in-None-clause-apart : goal.returns-in-None-clause-apart
returns-in-None-clause-apart c = λ _ earlier has firsts apart.
    let ends = c.args.ends.now in
    let link = c.args.link.now in
    let range = subst (λ (l : Link). IsRangeOf day_cmp Unbounded (Included (l.cpf, l.until)) ends c.range.result) c.link.view_is (c.range.ensures.in_range tt) in
    behind_none ends earlier link has (λ q within there. range.5 c.in-None.ensures.steps.0 q (tt, within))
