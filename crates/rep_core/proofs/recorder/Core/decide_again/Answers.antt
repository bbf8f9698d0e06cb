use Rattle.std.proofs.Common.{subst}
use Rattle.std.proofs.lemmas.Bool.{iff_false}
use Rattle.rep_core.specs.Lookup.{FindsPair}
use Rattle.rep_core.proofs.Standing.{Stands-own}
use Rattle.rep_core.proofs.recorder.Core.decide_again.Goals as goal

pub unreachable-requires : goal.unreachable-requires
unreachable-requires c =
    let q = c.args.q.now in
    let h = c.args.self.now.entries in
    let stands = Stands-own c.args.self.now in
    c.requires h stands (subst (FindsPair q.origin q.seq h) c.in_default.is (c.find.ensures h stands))

pub returns-then-same : goal.returns-then-same
returns-then-same c = λ h stands.
    let q = c.args.q.now in
    (subst (FindsPair q.origin q.seq h) c.in-Some.is (c.find.ensures h stands), c.same.ensures.0 c.if-same.true)

pub returns : goal.returns
returns c = λ h stands.
    let q = c.args.q.now in
    (subst (FindsPair q.origin q.seq h) c.in-Some.is (c.find.ensures h stands), iff_false c.same.ensures c.if-same.false)
