use Rattle.std.proofs.Common.{◌≡◌, length, Err, refl, ap, ◌∙◌, arith}
use Rattle.rep_journal.specs.Format.{gate_at}
use Rattle.rep_ledger.proofs.LedgerLemmas.{IsNextLine-read, IsNextLine-unread}
use Rattle.rep_core.proofs.Standing.{Stands-own}
use Rattle.rep_ledger.proofs.ReplaySteps.{IsReplayed-start, IsReplayed-step, MisfitAmong-step, counted_at_end, founded_at_end, replayed_at_end}
use Rattle.rep_ledger.proofs.replaying.replay.Goals as goal

pub loop-i-init : goal.loop-i-init
loop-i-init g c = IsReplayed-start g.D.Disk.shown _ _ c.new-core.ensures.stands c.new-core.ensures.limit

pub loop-i-preserved : goal.loop-i-preserved
loop-i-preserved g c =
    let kept = c.in-Ok.ensures.kept in
    let core = c.loop-i.core in
    let frame = c.in-Ok.frame in
    let taken = c.in-Ok-take_in.ensures.taken core.entries (Stands-own core) in
    IsReplayed-step g.D.Disk.shown c.loop-i.i core c.args.journal.now c.loop-i.journal frame c.loop-i.invariant
    (omega (arith, c.count-count.ensures.count, ap length c.loop-i.invariant.frames)) c.in-Ok.ensures.frame
    c.take_in.new.core c.frame.new.self taken.0 kept.frames kept.faults kept.disk (kept.no_fault refl)
    (IsNextLine-read core.entries frame _ _ _ taken.0 c.origin.ensures c.seq.ensures c.line.ensures.line taken.1) taken.2 c.take_in.ensures.limit

pub returns-in-Err-Misfit-clause-misfit : goal.returns-in-Err-Misfit-clause-misfit
returns-in-Err-Misfit-clause-misfit g c = λ at is told.
    let kept = c.in-Ok.ensures.kept in
    let core = c.loop-i.core in
    let frame = c.in-Ok.frame in
    let here : at ≡ c.gate_of.result = cc in
    MisfitAmong-step g.D.Disk.shown c.loop-i.i core c.args.journal.now c.loop-i.journal frame c.loop-i.invariant
    (omega (arith, c.count-count.ensures.count, ap length c.loop-i.invariant.frames)) c.in-Ok.ensures.frame at
    (λ e next. c.take_in.ensures.misfit (c.in-Err-Misfit.is ∙ ap Err c.in-Err-Misfit.field-0-is) core.entries e (Stands-own core)
    (IsNextLine-unread core.entries frame _ _ _ e c.origin.ensures c.seq.ensures c.line.ensures.line next))
    (here ∙ c.gate_of.ensures ∙ ap (λ frames. gate_at frames c.loop-i.i) (kept.frames ∙ c.loop-i.invariant.frames)) told

pub returns-clause-founded : goal.returns-clause-founded
returns-clause-founded g c = λ h stands.
    founded_at_end g.D.Disk.shown c.loop-i.i c.loop-i.core c.args.journal.now c.loop-i.journal h c.loop-i.invariant (omega (arith, c.count-count.ensures.count)) stands

pub returns-clause-replayed : goal.returns-clause-replayed
returns-clause-replayed g c = λ h stands told.
    replayed_at_end g.D.Disk.shown c.loop-i.i c.loop-i.core c.args.journal.now c.loop-i.journal h c.loop-i.invariant (omega (arith, c.count-count.ensures.count)) stands told

pub returns-clause-count : goal.returns-clause-count
returns-clause-count g c = λ h stands.
    counted_at_end g.D.Disk.shown c.loop-i.i c.loop-i.core c.args.journal.now c.loop-i.journal h c.loop-i.invariant (omega (arith, c.count-count.ensures.count)) stands
