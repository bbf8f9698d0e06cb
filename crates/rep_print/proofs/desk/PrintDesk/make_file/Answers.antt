use Rattle.std.proofs.Common.{◌≡◌, ◌∙◌, ℕ, [], ◌∷◌, List, Result, length, sym, ap, subst, rules, arith}
use Rattle.std.specs.Io.KnownBytes.{append_known}
use Rattle.rep_fields.specs.Moment.{moment_at}
use Rattle.rep_io.specs.declared.sink.SinkFault.{SinkFault}
use Rattle.rep_report.specs.declared.ending.Ending.{Ending}
use Rattle.rep_wire.specs.declared.request.Entry.{Entry}
use Rattle.rep_core.proofs.Standing.{entries_of, Stands-from}
use Rattle.rep_ledger.specs.Ledger.{frames_of}
use Rattle.rep_ledger.proofs.LedgerLemmas.{length-frames_of}
use Rattle.rep_print.specs.Steps.{MakesFile}
use Rattle.rep_print.specs.Writing.{HasEmployer, WritesAfd}
use Rattle.rep_print.proofs.ClosingLemmas.{file_made, file_cut}
use Rattle.rep_print.proofs.EmployerLemmas.{employer_entries}
use Rattle.rep_print.proofs.FileLemmas.{IsPrintHead-of, WritesAfd-of}
use Rattle.rep_print.proofs.desk.PrintDesk.make_file.Goals as goal
use Rattle.rep_print.proofs.desk.PrintDesk.make_file.Goals.{in-Ok-write, in-Err}

pub span_of-span-requires : goal.span_of-span-requires
span_of-span-requires g c =
    let same : c.self.inside.core.entries ≡ c.args.self.now.history = ap (λ s. s.history) c.self.view_is in
    record { some = λ h stands. employer_entries h (subst (λ (x : List Entry). HasEmployer x) (sym same ∙ entries_of c.self.inside.core h stands) c.requires) }

pub head_of-head-requires : goal.head_of-head-requires
head_of-head-requires g c =
    let same : c.self.inside.core.entries ≡ c.args.self.now.history = ap (λ s. s.history) c.self.view_is in
    record { employer = λ h stands. subst (λ (x : List Entry). HasEmployer x) (sym same ∙ entries_of c.self.inside.core h stands) c.requires }

pub write-requires-clause-some : goal.write-requires-clause-some
write-requires-clause-some g c =
    let same : c.self.inside.core.entries ≡ c.args.self.now.history = ap (λ s. s.history) c.self.view_is in
    let some = employer_entries c.args.self.now.history c.requires in
    omega (arith, some, ap length same, ap length c.self.invariant.frames, length-frames_of c.self.inside.core.entries)

pub returns-clause-makes : goal.returns-clause-makes
returns-clause-makes g c =
    let zone = c.args.self.now.zone in
    let history = c.args.self.now.history in
    let minute = c.in-Ok.minute in
    let same : c.self.inside.core.entries ≡ history = ap (λ s. s.history) c.self.view_is in
    let made : c.in-Some.made ≡ moment_at minute c.self.inside.zone = search rules in
    let stamped : c.in-Some.made ≡ moment_at minute zone = made ∙ ap (λ s. moment_at minute s.zone) c.self.view_is in
    let stands = Stands-from c.self.inside.core history same in
    let reading = c.in-Ok.ensures.reading in
    let tick : g.C.Clock.readings c.now.new.self ≡ append_known (g.C.Clock.readings c.args.self.now.clock) (minute ∷ []) =
    reading.1 ∙ ap (λ s. append_known (g.C.Clock.readings s.clock) (minute ∷ [])) c.self.view_is in
    let headed = IsPrintHead-of zone history _ _ minute c.head_of-head.result (c.head_of-head.ensures.head history zone minute stands stamped) (c.span_of-span.ensures history stands) in
    let text = c.the_frames_of_a_history_make_its_file.ensures c.head_of-head.result history c.self.inside.journal.frames (c.self.invariant.frames ∙ ap (λ h. frames_of h) same) in
    let afd : WritesAfd {E = SinkFault} zone history minute (g.K.Sink.written c.args.file.now) (g.K.Sink.written c.write.new.sink) c.write.result =
    WritesAfd-of zone history minute _ _ c.head_of-head.result _ c.write.result headed text c.write.ensures.bytes in
    elim c.match-write.branch [
      | in-Ok-write w ↦
          subst (λ (r : Result (Unit {0}) Ending). MakesFile zone history (g.C.Clock.readings c.args.self.now.clock) (g.C.Clock.readings c.now.new.self)
          (g.K.Sink.written c.args.file.now) (g.K.Sink.written c.write.new.sink) r) (sym w.result-is)
          (file_made zone history minute (g.C.Clock.readings c.args.self.now.clock) (g.C.Clock.readings c.now.new.self) (g.K.Sink.written c.args.file.now) (g.K.Sink.written c.write.new.sink)
          reading.0 tick _ (subst (λ (r : Result ℕ SinkFault). WritesAfd zone history minute (g.K.Sink.written c.args.file.now) (g.K.Sink.written c.write.new.sink) r) w.in-Ok-write.is afd))
      | in-Err w ↦
          subst (λ (r : Result (Unit {0}) Ending). MakesFile zone history (g.C.Clock.readings c.args.self.now.clock) (g.C.Clock.readings c.now.new.self)
          (g.K.Sink.written c.args.file.now) (g.K.Sink.written c.write.new.sink) r) (sym w.result-is)
          (file_cut zone history minute (g.C.Clock.readings c.args.self.now.clock) (g.C.Clock.readings c.now.new.self) (g.K.Sink.written c.args.file.now) (g.K.Sink.written c.write.new.sink)
          reading.0 tick _ (subst (λ (r : Result ℕ SinkFault). WritesAfd zone history minute (g.K.Sink.written c.args.file.now) (g.K.Sink.written c.write.new.sink) r) w.in-Err.is afd))
    ]
