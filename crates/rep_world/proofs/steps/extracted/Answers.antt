use Rattle.std.proofs.Common.{Some, None, sym, subst}
use Rattle.rep_world.specs.Trial.{ExtractsFrom}
use Rattle.rep_world.specs.declared.recorder.Recorder.{Recorder}
use Rattle.rep_world.proofs.steps.extracted.Goals as goal

pub returns-in-Up : goal.returns-in-Up
returns-in-Up c =
    subst (λ (r : Recorder). ExtractsFrom r c.args.from c.args.to (Some c.size.result)) (sym c.in-Up.is)
    (record { range = c.period-range.result; period = c.period-range.ensures; of_afd = λ minute text is. c.size.ensures minute text is })

pub returns-in-Down : goal.returns-in-Down
returns-in-Down c = subst (λ (r : Recorder). ExtractsFrom r c.args.from c.args.to None) (sym c.in-Down.is) tt
