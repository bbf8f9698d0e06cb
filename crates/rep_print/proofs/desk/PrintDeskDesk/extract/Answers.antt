use Rattle.std.proofs.Common.{◌≡◌, ◌∙◌, Result, length, is_some, not, true, false, sym, ap, subst, refl, rules, arith}
use Rattle.rep_fields.specs.Moment.{moment_at}
use Rattle.rep_lane.specs.Desk.{PutsExtract}
use Rattle.rep_lane.specs.declared.desk.DeskFail.{DeskFail}
use Rattle.rep_lane.specs.declared.desk.DeskFail.TheVariants as fail
use Rattle.afd_extract.specs.Extract.{extract_text, lines_of}
use Rattle.rep_core.proofs.Standing.{Stands-own}
use Rattle.rep_ledger.proofs.LedgerLemmas.{length-frames_of}
use Rattle.rep_print.specs.Desk.{Extracts}
use Rattle.rep_print.proofs.DeskLemmas.{due_of, ticked, takes_of, missed, nothing_put, put_all_of, put_front_of, has_by, lacks_by}
use Rattle.rep_print.proofs.EmployerLemmas.{employer_entries}
use Rattle.rep_print.proofs.desk.PrintDeskDesk.extract.Goals as goal
use Rattle.rep_print.proofs.desk.PrintDeskDesk.extract.Goals.{in-Ok-put_extraction, in-Err}

pub returns-then-is_none-clause-puts : goal.returns-then-is_none-clause-puts
returns-then-is_none-clause-puts g c =
    let core = c.self.inside.core in
    let none : is_some c.employer.result ≡ false = c.is_none.ensures ∙ ap not c.if-is_none.true in
    nothing_put g.C.Clock.readings g.C.Clock.faults c.args.line c.args.seq c.args.from c.args.to c.args.self.now c.args.self.now (g.K.Sink.written c.args.sink.now) fail.Stopped (λ same. absurd cc) (λ same. absurd cc)
    (record { same = refl; none = lacks_by c.employer.result core.entries c.args.self.now.history none (c.employer.ensures core.entries (Stands-own core)) (ap (λ s. s.history) c.self.view_is) })

pub returns-in_default-clause-puts : goal.returns-in_default-clause-puts
returns-in_default-clause-puts g c =
    nothing_put g.C.Clock.readings g.C.Clock.faults c.args.line c.args.seq c.args.from c.args.to c.args.self.now _ (g.K.Sink.written c.args.sink.now) fail.ClockFault (λ same. absurd cc) (λ same. absurd cc)
    (missed g.C.Clock.readings g.C.Clock.faults c.args.from c.args.to c.args.self.now c.self.inside.core.entries c.self.inside.clock c.now.new.self c.self.inside.zone c.self.view_is
    c.in_default.ensures.reading c.in_default.ensures.cause.later c.in_default.ensures.cause.failed)

pub put_extraction-requires-clause-some : goal.put_extraction-requires-clause-some
put_extraction-requires-clause-some g c =
    let core = c.self.inside.core in
    let some : is_some c.employer.result ≡ true = c.is_none.ensures ∙ ap not c.if-is_none.false in
    let entries = employer_entries core.entries (has_by c.employer.result core.entries some (c.employer.ensures core.entries (Stands-own core))) in
    omega (arith, entries, ap length c.self.invariant.frames, length-frames_of core.entries)

pub returns-clause-puts : goal.returns-clause-puts
returns-clause-puts g c =
    let core = c.self.inside.core in
    let zone = c.self.inside.zone in
    let minute = c.in-Ok.minute in
    let made : c.in-Some.made ≡ moment_at minute zone = search rules in
    let head = c.head_of-head.result in
    let frames = c.self.inside.journal.frames in
    let text = extract_text head (lines_of frames) in
    let headed = c.head_of-head.ensures.head core.entries zone minute (Stands-own core) made in
    let whole = c.the_frames_of_a_history_make_its_file.ensures head core.entries frames c.self.invariant.frames in
    let due = due_of zone core.entries c.args.from c.args.to minute head text headed whole in
    let reading = c.in-Ok.ensures.reading in
    let takes = takes_of g.C.Clock.readings g.C.Clock.faults c.args.from c.args.to c.args.self.now core.entries c.self.inside.clock c.now.new.self zone c.self.view_is
    minute c.count.result text reading.0 reading.1 c.in-Ok.ensures.cause.kept (c.count.ensures.value core.entries (Stands-own core)) due in
    let new = ticked g.C.Clock.readings g.C.Clock.faults c.args.from c.args.to c.args.self.now core.entries c.self.inside.clock c.now.new.self zone c.self.view_is in
    elim c.match-put_extraction.branch [
      | in-Ok-put_extraction w ↦
          subst (λ (r : Result (Unit {0}) DeskFail). PutsExtract (Extracts g.C.Clock.readings g.C.Clock.faults) c.args.line c.args.seq c.args.from c.args.to c.args.self.now new
          (g.K.Sink.written c.args.sink.now) (g.K.Sink.written c.put_extraction.new.sink) r) (sym w.result-is)
          (put_all_of g.C.Clock.readings g.C.Clock.faults c.args.line c.args.seq c.args.from c.args.to c.args.self.now new (g.K.Sink.written c.args.sink.now) (g.K.Sink.written c.put_extraction.new.sink)
          c.count.result text takes _ w.in-Ok-put_extraction.ensures.puts)
      | in-Err w ↦
          subst (λ (r : Result (Unit {0}) DeskFail). PutsExtract (Extracts g.C.Clock.readings g.C.Clock.faults) c.args.line c.args.seq c.args.from c.args.to c.args.self.now new
          (g.K.Sink.written c.args.sink.now) (g.K.Sink.written c.put_extraction.new.sink) r) (sym w.result-is)
          (put_front_of g.C.Clock.readings g.C.Clock.faults c.args.line c.args.seq c.args.from c.args.to c.args.self.now new (g.K.Sink.written c.args.sink.now) (g.K.Sink.written c.put_extraction.new.sink)
          c.count.result text takes _ w.in-Err.ensures.puts)
    ]
