use Rattle.std.proofs.Common.{subst}
use Rattle.rep_core.specs.History.{IsFound}
use Rattle.rep_core.specs.Lookup.{FindsPair}
use Rattle.rep_core.proofs.Numbered.{IsNumbered-unique, not_found}
use Rattle.rep_core.proofs.recorder.Core.kept.Goals as goal

pub returns-clause-came : goal.returns-clause-came
returns-clause-came c = λ h stands.
    let q = c.args.q.now in
    let named = subst (FindsPair q.origin q.seq h) c.in-Some.is (c.find.ensures h stands) in
    let same = IsNumbered-unique h c.in-Some.nsr named.0 c.entry.result.now named.1.numbered (c.entry.ensures.numbered h stands) in
    (c.in-Some.nsr, subst (λ e. IsFound q.origin q.seq h c.in-Some.nsr e) same named.1)

pub returns-clause-there : goal.returns-clause-there
returns-clause-there c = λ h stands new.
    let q = c.args.q.now in
    let named = subst (FindsPair q.origin q.seq h) c.in-Some.is (c.find.ensures h stands) in
    not_found q.origin q.seq h c.in-Some.nsr named.0 new named.1
