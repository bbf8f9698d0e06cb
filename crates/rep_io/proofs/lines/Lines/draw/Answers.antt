use Rattle.std.proofs.Common.{◌+◌, refl, sym, ap, arith}
use Rattle.rep_io.specs.Cutter.{Cutter}
use Rattle.rep_io.proofs.AskingLemmas.{AsksOnce-failed, AsksOnce-filled}
use Rattle.rep_io.proofs.CutterLemmas.{StepsTo-failed, StepsTo-filled}
use Rattle.rep_io.proofs.lines.Lines.draw.Goals as goal

pub returns-in_err-count-clause-steps : goal.returns-in_err-count-clause-steps
returns-in_err-count-clause-steps g c =
    let s = c.self.inside in
    let mid : Cutter g.row.S.Denot = record { source = s.source; taken = s.taken; passed = s.passed; held = s.window; ended = s.ended } in
    let failed = c.in_err-count.ensures.bytes in
    StepsTo-failed g.S.Source.left g.S.Source.faults _ mid _ (rw (← c.self.view_is) at c.pass_over.ensures) refl failed.0 refl failed.1
    c.fill.ensures.cause.later

pub returns-in_err-count-clause-asks : goal.returns-in_err-count-clause-asks
returns-in_err-count-clause-asks g c =
    let s = c.self.inside in
    let mid : Cutter g.row.S.Denot = record { source = s.source; taken = s.taken; passed = s.passed; held = s.window; ended = s.ended } in
    let failed = c.in_err-count.ensures.bytes in
    AsksOnce-failed g.S.Source.left _ mid _ (rw (← c.self.view_is) at c.pass_over.ensures) failed.0 refl failed.1

pub returns-clause-steps : goal.returns-clause-steps
returns-clause-steps g c =
    let s = c.self.inside in
    let mid : Cutter g.row.S.Denot = record { source = s.source; taken = s.taken; passed = s.passed; held = s.window; ended = s.ended } in
    let filled = c.in_ok-count.ensures.bytes in
    StepsTo-filled g.S.Source.left g.S.Source.faults _ mid _ filled.0 (rw (← c.self.view_is) at c.pass_over.ensures) refl filled.3
    (ap (λ n. s.taken + n) (sym filled.1)) filled.4 c.fill.ensures.cause.later

pub returns-clause-asks : goal.returns-clause-asks
returns-clause-asks g c =
    let s = c.self.inside in
    let mid : Cutter g.row.S.Denot = record { source = s.source; taken = s.taken; passed = s.passed; held = s.window; ended = s.ended } in
    let filled = c.in_ok-count.ensures.bytes in
    AsksOnce-filled g.S.Source.left _ mid _ filled.0 (rw (← c.self.view_is) at c.pass_over.ensures) filled.3
    (ap (λ n. s.taken + n) (sym filled.1)) filled.4 (omega (arith, filled.1, c.in_ok-count.ensures.piece))
