use Rattle.std.proofs.Common.{List, ap, sym, subst, ◌∙◌}
use Rattle.rep_wire.specs.declared.request.Entry.{Entry}
use Rattle.rep_core.specs.Core.{Kept}
use Rattle.rep_core.specs.Lookup.{FindsPair}
use Rattle.rep_core.specs.Index.{number_in}
use Rattle.rep_core.proofs.Standing.{entries_of}
use Rattle.rep_core.proofs.recorder.Core.find.Goals as goal

pub returns : goal.returns
returns c = λ h stands.
    let own = ap (λ (k : Kept). k.entries) c.self.view_is ∙ entries_of c.args.self.now h stands in
    subst (FindsPair c.args.origin c.args.seq h) (sym c.get.ensures)
    (subst (λ (xs : List Entry). FindsPair c.args.origin c.args.seq xs (number_in c.self.inside.index.origins c.args.origin c.args.seq)) own
    (c.self.invariant.2.pairs c.args.origin c.args.seq))
