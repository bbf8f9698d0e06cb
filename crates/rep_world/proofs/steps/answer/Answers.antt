use Rattle.std.proofs.Common.{Some, None, refl, sym, subst}
use Rattle.rep_world.specs.Fields.{RunsWhileUp}
use Rattle.rep_world.specs.Trial.{AnswersBy, IsLeftAlone}
use Rattle.rep_world.specs.declared.recorder.Recorder.{Recorder}
use Rattle.rep_world.specs.declared.recorder.Recorder.TheVariants.{Up}
use Rattle.rep_world.proofs.steps.answer.Goals as goal

pub serve-requires-clause-runs : goal.serve-requires-clause-runs
serve-requires-clause-runs c = subst (RunsWhileUp c.args.site.now) c.in-Up.is c.requires.runs

pub returns-in-Ok-clause-answers : goal.returns-in-Ok-clause-answers
returns-in-Ok-clause-answers c =
    subst (λ (r : Recorder). AnswersBy c.args.site.now c.args.minute c.args.q.now r (Up c.serve.new.store) (Some c.in-Ok.reply)) (sym c.in-Up.is) c.in-Ok.ensures.served

pub returns-in-Err-clause-left : goal.returns-in-Err-clause-left
returns-in-Err-clause-left c =
    subst (λ (r : Recorder). IsLeftAlone r (Up c.serve.new.store)) (sym c.in-Up.is) c.in-Err.ensures.left

pub returns-in-Down-clause-answers : goal.returns-in-Down-clause-answers
returns-in-Down-clause-answers c =
    subst (λ (r : Recorder). AnswersBy c.args.site.now c.args.minute c.args.q.now r r None) (sym c.in-Down.is) refl
