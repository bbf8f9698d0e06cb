use Rattle.std.proofs.Common.{sym, subst}
use Rattle.rep_world.specs.Events.{Does, IsPlayable}
use Rattle.rep_world.specs.declared.event.Event.{Event}
use Rattle.rep_world.proofs.world.World.step.Goals as goal

pub send-requires : goal.send-requires
send-requires c = subst IsPlayable c.in-Send.is c.requires

pub returns-in-Send-clause-does : goal.returns-in-Send-clause-does
returns-in-Send-clause-does c = subst (λ (e : Event). Does e c.args.self.now c.send.new.self c.send.result) (sym c.in-Send.is) c.send.ensures.does

pub deliver-requires : goal.deliver-requires
deliver-requires c = subst IsPlayable c.in-Deliver.is c.requires

pub returns-in-Deliver-clause-does : goal.returns-in-Deliver-clause-does
returns-in-Deliver-clause-does c = subst (λ (e : Event). Does e c.args.self.now c.deliver.new.self c.deliver.result) (sym c.in-Deliver.is) c.deliver.ensures.does

pub fail-requires-clause-minute : goal.fail-requires-clause-minute
fail-requires-clause-minute c = (subst IsPlayable c.in-Fail.is c.requires).0

pub fail-requires-clause-some_call : goal.fail-requires-clause-some_call
fail-requires-clause-some_call c = (subst IsPlayable c.in-Fail.is c.requires).1

pub fail-requires-clause-call : goal.fail-requires-clause-call
fail-requires-clause-call c = (subst IsPlayable c.in-Fail.is c.requires).2

pub returns-in-Fail-clause-does : goal.returns-in-Fail-clause-does
returns-in-Fail-clause-does c = subst (λ (e : Event). Does e c.args.self.now c.fail.new.self c.fail.result) (sym c.in-Fail.is) c.fail.ensures.does

pub crash-requires-clause-minute : goal.crash-requires-clause-minute
crash-requires-clause-minute c = (subst IsPlayable c.in-Crash.is c.requires).0

pub crash-requires-clause-some_call : goal.crash-requires-clause-some_call
crash-requires-clause-some_call c = (subst IsPlayable c.in-Crash.is c.requires).1

pub crash-requires-clause-call : goal.crash-requires-clause-call
crash-requires-clause-call c = (subst IsPlayable c.in-Crash.is c.requires).2

pub returns-in-Crash-clause-does : goal.returns-in-Crash-clause-does
returns-in-Crash-clause-does c = subst (λ (e : Event). Does e c.args.self.now c.crash.new.self c.crash.result) (sym c.in-Crash.is) c.crash.ensures.does

pub returns-in-Rest-clause-does : goal.returns-in-Rest-clause-does
returns-in-Rest-clause-does c = subst (λ (e : Event). Does e c.args.self.now c.rest.new.self c.rest.result) (sym c.in-Rest.is) c.rest.ensures.does

pub returns-in-Reopen-clause-does : goal.returns-in-Reopen-clause-does
returns-in-Reopen-clause-does c = subst (λ (e : Event). Does e c.args.self.now c.reopen.new.self c.reopen.result) (sym c.in-Reopen.is) c.reopen.ensures.does

pub returns-in-Extract-clause-does : goal.returns-in-Extract-clause-does
returns-in-Extract-clause-does c = subst (λ (e : Event). Does e c.args.self.now c.extract.new.self c.extract.result) (sym c.in-Extract.is) c.extract.ensures.does
