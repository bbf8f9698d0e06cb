use Rattle.std.proofs.Common.{◌∙◌, sym, inr}
use Rattle.rep_journal.proofs.BlankLemmas.{of_ok}
use Rattle.rep_journal.proofs.ReadLemmas.{hides_on, read_on, rests, rests_whatever}
use Rattle.rep_journal.proofs.recovery.find.Goals as goal

pub returns-in_default-clause-rest : goal.returns-in_default-clause-rest
returns-in_default-clause-rest g c =
    inr (rests (g.D.Disk.shown c.args.disk.now) (g.D.Disk.shown c.sync.new.self) (g.D.Disk.shown c.read_head.new.disk) c.sync.ensures.time c.read_head.ensures.kept
    (of_ok c.sync.result _ _ (sym c.is_err.ensures.value ∙ c.if-is_err.false) c.sync.ensures.rest))

pub returns-in-Short-clause-rest : goal.returns-in-Short-clause-rest
returns-in-Short-clause-rest g c =
    inr (rests (g.D.Disk.shown c.args.disk.now) (g.D.Disk.shown c.sync.new.self) (g.D.Disk.shown c.read_head.new.disk) c.sync.ensures.time c.read_head.ensures.kept
    (of_ok c.sync.result _ _ (sym c.is_err.ensures.value ∙ c.if-is_err.false) c.sync.ensures.rest))

pub returns-in-Foreign-clause-rest : goal.returns-in-Foreign-clause-rest
returns-in-Foreign-clause-rest g c =
    inr (rests (g.D.Disk.shown c.args.disk.now) (g.D.Disk.shown c.sync.new.self) (g.D.Disk.shown c.read_head.new.disk) c.sync.ensures.time c.read_head.ensures.kept
    (of_ok c.sync.result _ _ (sym c.is_err.ensures.value ∙ c.if-is_err.false) c.sync.ensures.rest))

pub returns-in-Open-clause-rest : goal.returns-in-Open-clause-rest
returns-in-Open-clause-rest g c =
    let read = read_on (g.D.Disk.shown c.sync.new.self) (g.D.Disk.shown c.read_head.new.disk) (g.D.Disk.shown c.read_frames.new.disk) c.read_head.ensures.kept c.read_frames.ensures.kept in
    rests_whatever (g.D.Disk.shown c.args.disk.now) (g.D.Disk.shown c.sync.new.self) (g.D.Disk.shown c.read_frames.new.disk) c.sync.ensures.time read c.read_frames.result
    (of_ok c.sync.result _ _ (sym c.is_err.ensures.value ∙ c.if-is_err.false) c.sync.ensures.rest)

pub returns-in-Foreign-clause-no_fault : goal.returns-in-Foreign-clause-no_fault
returns-in-Foreign-clause-no_fault g c = λ other. c.in-Ok.ensures.cause.kept ∙ (of_ok c.sync.result _ _ (sym c.is_err.ensures.value ∙ c.if-is_err.false) c.sync.ensures.cause.kept)

pub returns-in-Open-clause-no_fault : goal.returns-in-Open-clause-no_fault
returns-in-Open-clause-no_fault g c =
    hides_on (g.D.Disk.shown c.args.disk.now) (g.D.Disk.shown c.read_head.new.disk) (g.D.Disk.shown c.read_frames.new.disk) c.read_frames.result
    (c.in-Ok.ensures.cause.kept ∙ (of_ok c.sync.result _ _ (sym c.is_err.ensures.value ∙ c.if-is_err.false) c.sync.ensures.cause.kept)) c.read_frames.ensures.no_fault
