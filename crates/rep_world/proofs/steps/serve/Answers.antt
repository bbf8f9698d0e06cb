use Rattle.std.proofs.Common.{◌∙◌, ap}
use Rattle.rep_store.specs.State.{State}
use Rattle.rep_disk.specs.Memory.{Memory}
use Rattle.rep_world.specs.declared.dial.Dial.{Dial}
use Rattle.rep_world.proofs.Serving.{set_kept, set_runs, set_served, stop_kept}
use Rattle.rep_world.proofs.Trials.{served_at}
use Rattle.rep_world.proofs.steps.serve.Goals as goal

pub returns-in-Ok-clause-served : goal.returns-in-Ok-clause-served
returns-in-Ok-clause-served c =
    let old = c.args.store.now in
    let mid = c.set_clock.new.self in
    let set = c.set_clock.ensures.set in
    let at = ap (λ (s : State Memory Dial). s.clock) set ∙ c.at.ensures in
    set_served old mid c.at.result set c.args.site.now c.args.minute c.args.q.now c.submit.new.self c.in-Ok.reply
    (served_at c.args.site.now c.args.minute c.args.q.now mid c.submit.new.self at (set_runs old mid c.at.result set c.args.site.now c.requires.runs) c.in-Ok.reply c.in-Ok.ensures.served)

pub returns-in-Err-clause-left : goal.returns-in-Err-clause-left
returns-in-Err-clause-left c =
    set_kept c.args.store.now c.set_clock.new.self c.at.result c.set_clock.ensures.set c.submit.new.self
    (stop_kept c.args.q.now c.set_clock.new.self c.submit.new.self c.submit.result c.submit.ensures.left c.submit.ensures.device_fault c.submit.ensures.clock_fault c.submit.ensures.memory c.in-Err.field-0 c.in-Err.is)
