use Rattle.std.proofs.Common.{◌≡◌, ℕ, ◌<◌, ◌≤◌, get_or, Some, ap, ◌∙◌, subst, arith}
use Rattle.std.specs.BTreeMap.Range.{IsRangeOf}
use Rattle.std.specs.declared.ops.Bound.TheVariants.{Included, Unbounded}
use Rattle.std.proofs.lemmas.List.{get_or_default}
use Rattle.tr_plan.specs.Index.{day_cmp}
use Rattle.tr_plan.specs.declared.link.Link.{Link}
use Rattle.tr_plan.proofs.EndLemmas.{latest_of}
use Rattle.tr_plan.proofs.StartLemmas.{one_on, latest_within, latest_on, none_on, none_begun}
use Rattle.tr_plan.proofs.links.on_day.Goals as goal
use Rattle.tr_plan.proofs.links.on_day.Goals.{else-begin-cpf-via-then-begin-cpf+else-day-link, else-begin-cpf-via-else-begin-cpf}

pub bounds-links-place : goal.bounds-links-place
bounds-links-place c =
    let starts = c.args.starts.now in
    let links = c.args.links.now in
    let range = subst (λ (n : ℕ). IsRangeOf day_cmp Unbounded (Included (n, c.args.day)) starts c.range.result) c.cpf.view_is
    (subst (λ (n : ℕ). IsRangeOf day_cmp Unbounded (Included (c.cpf.inside.number, n)) starts c.range.result) c.day.view_is (c.range.ensures.in_range tt)) in
    let latest = latest_of starts (c.args.cpf, c.args.day) c.range.result c.next_back.new.self (c.in-Some.begin.now, c.in-Some.place.now) range c.in-Some.ensures.steps in
    latest_within starts links c.requires c.args.cpf c.args.day (c.in-Some.begin.now, c.in-Some.place.now) latest

pub returns-in_default-clause-only : goal.returns-in_default-clause-only
returns-in_default-clause-only c = λ place on.
    let starts = c.args.starts.now in
    let links = c.args.links.now in
    let range = subst (λ (n : ℕ). IsRangeOf day_cmp Unbounded (Included (n, c.args.day)) starts c.range.result) c.cpf.view_is
    (subst (λ (n : ℕ). IsRangeOf day_cmp Unbounded (Included (c.cpf.inside.number, n)) starts c.range.result) c.day.view_is (c.range.ensures.in_range tt)) in
    absurd (none_begun starts links c.requires c.args.cpf c.args.day (λ q within there. range.5 c.in_default.ensures.steps.0 q (tt, within)) place on)

pub returns-then-day-link-clause-found : goal.returns-then-day-link-clause-found
returns-then-day-link-clause-found c =
    let starts = c.args.starts.now in
    let links = c.args.links.now in
    let range = subst (λ (n : ℕ). IsRangeOf day_cmp Unbounded (Included (n, c.args.day)) starts c.range.result) c.cpf.view_is
    (subst (λ (n : ℕ). IsRangeOf day_cmp Unbounded (Included (c.cpf.inside.number, n)) starts c.range.result) c.day.view_is (c.range.ensures.in_range tt)) in
    let latest = latest_of starts (c.args.cpf, c.args.day) c.range.result c.next_back.new.self (c.in-Some.begin.now, c.in-Some.place.now) range c.in-Some.ensures.steps in
    let within = latest_within starts links c.requires c.args.cpf c.args.day (c.in-Some.begin.now, c.in-Some.place.now) latest in
    let this : (link : Link) → c.index-links-place.result ≡ get_or links c.in-Some.place.now link =
    λ link. c.index-links-place.is ∙ get_or_default links c.in-Some.place.now c.index-links-place.result link within in
    let last_day = ap (λ (l : Link). l.until) c.link.view_is in
    let until : c.args.day ≤ c.index-links-place.result.until = grind (arith, c.if-day-link.true, last_day, c.day.view_is) in
    let cpf : c.in-Some.begin.now.0 ≡ c.args.cpf = grind (arith, c.if-begin-cpf.true, c.cpf.view_is) in
    let on = latest_on starts links c.requires c.args.cpf c.args.day (c.in-Some.begin.now, c.in-Some.place.now) latest cpf (λ link. subst (λ (l : Link). c.args.day ≤ l.until) (this link) until) in
    on

pub returns-then-day-link-clause-only : goal.returns-then-day-link-clause-only
returns-then-day-link-clause-only c = λ place other.
    let starts = c.args.starts.now in
    let links = c.args.links.now in
    let range = subst (λ (n : ℕ). IsRangeOf day_cmp Unbounded (Included (n, c.args.day)) starts c.range.result) c.cpf.view_is
    (subst (λ (n : ℕ). IsRangeOf day_cmp Unbounded (Included (c.cpf.inside.number, n)) starts c.range.result) c.day.view_is (c.range.ensures.in_range tt)) in
    let latest = latest_of starts (c.args.cpf, c.args.day) c.range.result c.next_back.new.self (c.in-Some.begin.now, c.in-Some.place.now) range c.in-Some.ensures.steps in
    let within = latest_within starts links c.requires c.args.cpf c.args.day (c.in-Some.begin.now, c.in-Some.place.now) latest in
    let this : (link : Link) → c.index-links-place.result ≡ get_or links c.in-Some.place.now link =
    λ link. c.index-links-place.is ∙ get_or_default links c.in-Some.place.now c.index-links-place.result link within in
    let last_day = ap (λ (l : Link). l.until) c.link.view_is in
    let until : c.args.day ≤ c.index-links-place.result.until = grind (arith, c.if-day-link.true, last_day, c.day.view_is) in
    let cpf : c.in-Some.begin.now.0 ≡ c.args.cpf = grind (arith, c.if-begin-cpf.true, c.cpf.view_is) in
    let on = latest_on starts links c.requires c.args.cpf c.args.day (c.in-Some.begin.now, c.in-Some.place.now) latest cpf (λ link. subst (λ (l : Link). c.args.day ≤ l.until) (this link) until) in
    ap Some (one_on starts links c.requires c.args.cpf c.args.day c.in-Some.place.now place on other)

pub returns-else-begin-cpf-clause-only : goal.returns-else-begin-cpf-clause-only
returns-else-begin-cpf-clause-only c = λ place on.
    let starts = c.args.starts.now in
    let links = c.args.links.now in
    let range = subst (λ (n : ℕ). IsRangeOf day_cmp Unbounded (Included (n, c.args.day)) starts c.range.result) c.cpf.view_is
    (subst (λ (n : ℕ). IsRangeOf day_cmp Unbounded (Included (c.cpf.inside.number, n)) starts c.range.result) c.day.view_is (c.range.ensures.in_range tt)) in
    let latest = latest_of starts (c.args.cpf, c.args.day) c.range.result c.next_back.new.self (c.in-Some.begin.now, c.in-Some.place.now) range c.in-Some.ensures.steps in
    let within = latest_within starts links c.requires c.args.cpf c.args.day (c.in-Some.begin.now, c.in-Some.place.now) latest in
    let this : (link : Link) → c.index-links-place.result ≡ get_or links c.in-Some.place.now link =
    λ link. c.index-links-place.is ∙ get_or_default links c.in-Some.place.now c.index-links-place.result link within in
    let last_day = ap (λ (l : Link). l.until) c.link.view_is in
    let none = none_on starts links c.requires c.args.cpf c.args.day (c.in-Some.begin.now, c.in-Some.place.now) latest in
    elim c.else-begin-cpf.branch [
      | else-begin-cpf-via-then-begin-cpf+else-day-link w ↦
          let ended : c.index-links-place.result.until < c.args.day = grind (arith, w.if-day-link.false, last_day, c.day.view_is) in
          absurd (none (λ _ link. subst (λ (l : Link). l.until < c.args.day) (this link) ended) place on)
      | else-begin-cpf-via-else-begin-cpf w ↦
          absurd (none (λ same. absurd (grind (arith, w.if-begin-cpf.false, c.cpf.view_is, same))) place on)
    ]
