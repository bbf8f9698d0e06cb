-- `create`, `run`, `extract`, `receipt` and `drill` don't end by the status of wrong words
use Rattle.std.proofs.Common.{◌≢◌, arith}
use Rattle.rep_drill.specs.Playing.{status_of as drill_status}
use Rattle.rep_drill.specs.declared.ending.DrillEnding.{DrillEnding}
use Rattle.rep_drill.specs.declared.ending.DrillEnding.TheVariants as drilled
use Rattle.rep_report.specs.Saying.{status_of as ending_status}
use Rattle.rep_report.specs.declared.ending.Ending.{Ending}
use Rattle.rep_report.specs.declared.ending.Ending.TheVariants.{AllAnswered, SomeRefused, SourceFault, SinkFault, DeviceFault, ClockFault, OutOfMemory, InputLimit}
use Rattle.rep_query.specs.Receipt.{none_status}
use Rattle.rep_query.specs.declared.finding.NoReceipt.{NoReceipt}
use Rattle.rep_query.specs.declared.finding.NoReceipt.TheVariants as none
use Rattle.rep_run.specs.Creating.{status_of}
use Rattle.rep_run.specs.declared.refusal.Refusal.TheVariants.{SiteText, SiteField, NoHead, Foreign, Blank, Present, Damaged}
use Rattle.rep_run.specs.declared.stopping.Stopping.{Stopping}
use Rattle.rep_run.specs.declared.stopping.Stopping.TheVariants.{Refused, Ended}

pub ending_isnt_two : (ending : Ending) → ending_status ending ≢ 2
ending_isnt_two AllAnswered e = omega arith
ending_isnt_two SomeRefused e = omega arith
ending_isnt_two SourceFault e = omega arith
ending_isnt_two SinkFault e = omega arith
ending_isnt_two DeviceFault e = omega arith
ending_isnt_two ClockFault e = omega arith
ending_isnt_two OutOfMemory e = omega arith
ending_isnt_two InputLimit e = omega arith

pub stopping_isnt_two : (stopping : Stopping) → status_of stopping ≢ 2
stopping_isnt_two (Refused SiteText) e = omega arith
stopping_isnt_two (Refused (SiteField key)) e = omega arith
stopping_isnt_two (Refused NoHead) e = omega arith
stopping_isnt_two (Refused Foreign) e = omega arith
stopping_isnt_two (Refused Blank) e = omega arith
stopping_isnt_two (Refused Present) e = omega arith
stopping_isnt_two (Refused (Damaged at)) e = omega arith
stopping_isnt_two (Ended ending) e = ending_isnt_two ending e

pub none_isnt_two : (why : NoReceipt) → none_status why ≢ 2
none_isnt_two none.NoSuchNsr e = omega arith
none_isnt_two none.NotAClocking e = omega arith
none_isnt_two none.DeviceFault e = omega arith
none_isnt_two none.OutOfMemory e = omega arith

-- a drill has no disk, and no clock
pub drill_has_status : (told : DrillEnding) → (drill_status told ≢ 2) × (drill_status told ≢ 6) × (drill_status told ≢ 7)
drill_has_status drilled.AllPlayed = (λ e. omega arith, λ e. omega arith, λ e. omega arith)
drill_has_status drilled.SomeRefused = (λ e. omega arith, λ e. omega arith, λ e. omega arith)
drill_has_status (drilled.Refused line) = (λ e. omega arith, λ e. omega arith, λ e. omega arith)
drill_has_status drilled.SourceFault = (λ e. omega arith, λ e. omega arith, λ e. omega arith)
drill_has_status drilled.SinkFault = (λ e. omega arith, λ e. omega arith, λ e. omega arith)
drill_has_status drilled.OutOfMemory = (λ e. omega arith, λ e. omega arith, λ e. omega arith)
drill_has_status drilled.InputLimit = (λ e. omega arith, λ e. omega arith, λ e. omega arith)
