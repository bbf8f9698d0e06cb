use Rattle.std.proofs.Common.{List, ap, subst, ◌∙◌}
use Rattle.rep_wire.specs.declared.request.Entry.{Entry}
use Rattle.rep_core.specs.Core.{Kept}
use Rattle.rep_core.specs.Lookup.{FindsEmployer}
use Rattle.rep_core.proofs.Standing.{entries_of}
use Rattle.rep_core.proofs.recorder.Core.employer.Goals as goal

pub returns : goal.returns
returns c = λ h stands.
    let own = ap (λ (k : Kept). k.entries) c.self.view_is ∙ entries_of c.args.self.now h stands in
    subst (λ (xs : List Entry). FindsEmployer xs c.self.inside.index.employer) own c.self.invariant.2.employer
