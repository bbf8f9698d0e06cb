use Rattle.std.proofs.Common.{length, add-one, sym, subst}
use Rattle.rep_core.specs.Answered.{recorded_after}
use Rattle.rep_core.specs.Verdict.{IsVerdict}
use Rattle.rep_core.specs.declared.verdict.Verdict.TheVariants.{Repeat}
use Rattle.rep_core.proofs.Verdicts.{repeat_of_recorded}
use Rattle.rep_core.proofs.laws.a_recorded_request_is_a_repeat.Goals as goal

pub returns : goal.returns
returns c = λ limit later h q now fresh.
    subst (λ n. IsVerdict later (recorded_after h q now) q (Repeat n)) (sym (add-one (length h))) (repeat_of_recorded limit later h q now fresh)
