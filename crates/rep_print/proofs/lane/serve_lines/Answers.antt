use Rattle.std.proofs.Common.{refl, subst}
use Rattle.rep_print.specs.Steps.{IsRefusal}
use Rattle.rep_print.proofs.StopLemmas.{stopped, clock_moves, refused_same}
use Rattle.rep_print.proofs.GoLemmas.{gone_on, clock_goes}
use Rattle.rep_print.proofs.lane.serve_lines.Goals as goal

pub returns-in-Err-clause-laned : goal.returns-in-Err-clause-laned
returns-in-Err-clause-laned g c =
    stopped g.S.Source.left g.C.Clock.readings g.C.Clock.faults c.args.head.now c.args.lines c.begin.new.lines c.args.desk.now c.begin.new.desk _ _ _
    c.requires.empty refl c.in-Err.ending c.in-Err.ensures.begins

pub returns-in-Err-clause-clock_later : goal.returns-in-Err-clause-clock_later
returns-in-Err-clause-clock_later g c =
    (clock_moves g.S.Source.left g.C.Clock.readings g.C.Clock.faults c.args.head.now c.args.lines c.begin.new.lines c.args.desk.now c.begin.new.desk _ _ (record { lines = 0; receipts = 0; refused = 0 })
    c.requires.empty refl c.in-Err.ending c.in-Err.ensures.begins).0

pub returns-in-Err-clause-clock_fault : goal.returns-in-Err-clause-clock_fault
returns-in-Err-clause-clock_fault g c =
    (clock_moves g.S.Source.left g.C.Clock.readings g.C.Clock.faults c.args.head.now c.args.lines c.begin.new.lines c.args.desk.now c.begin.new.desk _ _ (record { lines = 0; receipts = 0; refused = 0 })
    c.requires.empty refl c.in-Err.ending c.in-Err.ensures.begins).1

pub returns-in-Err-clause-no_clock_fault : goal.returns-in-Err-clause-no_clock_fault
returns-in-Err-clause-no_clock_fault g c =
    (clock_moves g.S.Source.left g.C.Clock.readings g.C.Clock.faults c.args.head.now c.args.lines c.begin.new.lines c.args.desk.now c.begin.new.desk _ _ (record { lines = 0; receipts = 0; refused = 0 })
    c.requires.empty refl c.in-Err.ending c.in-Err.ensures.begins).2

pub returns-in-Ok-clause-laned : goal.returns-in-Ok-clause-laned
returns-in-Ok-clause-laned g c =
    gone_on g.S.Source.left g.C.Clock.readings g.C.Clock.faults c.args.head.now c.in-Ok.kind c.args.lines c.begin.new.lines c.args.desk.now c.begin.new.desk c.go_on.new.desk
    _ _ _ c.go_on.result.tally c.go_on.result.ending c.requires.empty c.in-Ok.ensures.begins c.go_on.ensures.goes_on

pub returns-in-Ok-clause-clock_later : goal.returns-in-Ok-clause-clock_later
returns-in-Ok-clause-clock_later g c =
    (clock_goes g.S.Source.left g.C.Clock.readings g.C.Clock.faults c.args.head.now c.in-Ok.kind c.args.lines c.begin.new.lines c.args.desk.now c.begin.new.desk c.go_on.new.desk
    _ _ _ c.go_on.result.tally c.go_on.result.ending c.requires.empty c.in-Ok.ensures.begins c.go_on.ensures.goes_on).0

pub returns-in-Ok-clause-clock_fault : goal.returns-in-Ok-clause-clock_fault
returns-in-Ok-clause-clock_fault g c =
    (clock_goes g.S.Source.left g.C.Clock.readings g.C.Clock.faults c.args.head.now c.in-Ok.kind c.args.lines c.begin.new.lines c.args.desk.now c.begin.new.desk c.go_on.new.desk
    _ _ _ c.go_on.result.tally c.go_on.result.ending c.requires.empty c.in-Ok.ensures.begins c.go_on.ensures.goes_on).1

pub returns-in-Ok-clause-no_clock_fault : goal.returns-in-Ok-clause-no_clock_fault
returns-in-Ok-clause-no_clock_fault g c =
    (clock_goes g.S.Source.left g.C.Clock.readings g.C.Clock.faults c.args.head.now c.in-Ok.kind c.args.lines c.begin.new.lines c.args.desk.now c.begin.new.desk c.go_on.new.desk
    _ _ _ c.go_on.result.tally c.go_on.result.ending c.requires.empty c.in-Ok.ensures.begins c.go_on.ensures.goes_on).2

pub returns-in-Err-clause-unread : goal.returns-in-Err-clause-unread
returns-in-Err-clause-unread g c =
    refused_same g.S.Source.left g.C.Clock.readings g.C.Clock.faults c.args.head.now c.args.lines c.begin.new.lines c.args.desk.now c.begin.new.desk _ _ (record { lines = 0; receipts = 0; refused = 0 })
    c.requires.empty refl c.in-Err.ending c.in-Err.ensures.begins

pub returns-in-Ok-clause-unread : goal.returns-in-Ok-clause-unread
returns-in-Ok-clause-unread g c refused = absurd (subst IsRefusal c.go_on.ensures.goes_on.4 refused)
