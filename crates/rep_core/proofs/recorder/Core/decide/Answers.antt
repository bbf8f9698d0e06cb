use Rattle.std.proofs.Common.{sym, subst}
use Rattle.std.specs.Option.{option_copied}
use Rattle.rep_core.specs.Verdict.{IsVerdictBy}
use Rattle.rep_core.proofs.Verdicts.{exact_by}
use Rattle.rep_core.proofs.recorder.Core.decide.Goals as goal

pub returns-in-Some-clause-exact : goal.returns-in-Some-clause-exact
returns-in-Some-clause-exact c = λ h stands came.
    exact_by (option_copied c.args.kept) c.args.self.now.limit h c.args.q.now c.decide_again.result came
    (subst (λ kept. IsVerdictBy (option_copied kept) c.args.self.now.limit h c.args.q.now c.decide_again.result) (sym c.in-Some.is) (c.decide_again.ensures h stands))
