use Rattle.std.proofs.Common.{subst, sym}
use Rattle.rep_core.specs.Verdict.{IsVerdict}
use Rattle.rep_core.specs.declared.verdict.Verdict.TheVariants.{Repeat}
use Rattle.rep_core.proofs.recorder.Core.receipt.Goals as goal

pub reply-requires-clause-verdict : goal.reply-requires-clause-verdict
reply-requires-clause-verdict c = λ h stands.
    subst (λ n. IsVerdict c.args.self.now.limit h c.args.q.now (Repeat n)) (sym (c.count-nsr.ensures.value h stands)) (c.requires h stands)
