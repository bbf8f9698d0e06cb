use Rattle.std.proofs.Common.{◌≡◌, ◌⊎◌, ℕ, sym, subst, ◌∙◌}
use Rattle.rep_report.specs.declared.ending.Ending.TheVariants as ending
use Rattle.rep_run.specs.Steps.{IsMadeOrFails}
use Rattle.rep_journal.specs.Format.{IsBlank}
use Rattle.rep_run.proofs.Known.{use_some}
use Rattle.rep_run.proofs.CreatingLemmas.{complete_made, fault_told}
use Rattle.rep_run.proofs.creating.create.Goals as goal

pub returns-clause-complete : goal.returns-clause-complete
returns-clause-complete g c = λ text contents site told says told_contents blank no_source no_clock no_out no_disk.
    let m = c.make-made.ensures in
    let s = c.say_made-stopping.ensures in
    subst (λ (n : ℕ). (n ≡ 0) ⊎ (n ≡ 8)) (sym c.status.ensures)
    (complete_made (record { left = g.S.Source.left; source_faults = g.S.Source.faults; shown = g.D.Disk.shown; readings = g.C.Clock.readings; clock_faults = g.C.Clock.faults })
    (record { source = c.args.source; disk = c.args.disk; clock = c.args.clock })
    (record { source = c.make-made.new.source; disk = c.make-made.result.disk; clock = c.make-made.result.clock })
    c.make-made.result.stopping c.say_made-stopping.result (g.K.Sink.written c.args.out) (g.K.Sink.written c.say_made-stopping.new.out) (g.K.Sink.faults c.args.out) (g.K.Sink.faults c.say_made-stopping.new.out)
    (use_some (λ bytes. IsBlank bytes → IsMadeOrFails c.make-made.result.stopping) (g.D.Disk.shown c.args.disk).contents contents told_contents (m.found text site told says) blank)
    m.creates s.says s.told no_source no_clock no_out no_disk)

pub returns-clause-no_source_fault : goal.returns-clause-no_source_fault
returns-clause-no_source_fault g c = λ other.
    c.make-made.ensures.no_source_fault (λ is. other (c.status.ensures
    ∙ fault_told c.make-made.result.stopping c.say_made-stopping.result c.say_made-stopping.ensures.told ending.SourceFault (λ same. absurd cc) is))

pub returns-clause-no_device_fault : goal.returns-clause-no_device_fault
returns-clause-no_device_fault g c = λ other.
    c.make-made.ensures.no_device_fault (λ is. other (c.status.ensures
    ∙ fault_told c.make-made.result.stopping c.say_made-stopping.result c.say_made-stopping.ensures.told ending.DeviceFault (λ same. absurd cc) is))

pub returns-clause-no_clock_fault : goal.returns-clause-no_clock_fault
returns-clause-no_clock_fault g c = λ other.
    c.make-made.ensures.no_clock_fault (λ is. other (c.status.ensures
    ∙ fault_told c.make-made.result.stopping c.say_made-stopping.result c.say_made-stopping.ensures.told ending.ClockFault (λ same. absurd cc) is))
