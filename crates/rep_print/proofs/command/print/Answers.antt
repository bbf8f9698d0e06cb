use Rattle.std.proofs.Common.{◌≡◌, ◌∙◌, ℕ, List, Option, ℤ, inl, inr, length, sym, ap, subst, rules}
use Rattle.rep_io.specs.Causes.{Rose}
use Rattle.rep_print.specs.Printing.{Prints}
use Rattle.rep_print.specs.Steps.{Told}
use Rattle.rep_report.specs.declared.ending.Ending.TheVariants.{ClockFault}
use Rattle.rep_print.specs.declared.ending.PrintEnding.TheVariants.{Served}
use Rattle.rep_print.specs.Ending.{status_of}
use Rattle.rep_print.specs.Written.{Printed}
use Rattle.rep_print.proofs.StatusLemmas.{done_employer, no_device, told_kind, source_told, sink_told, clock_told, clock_stays, statuses, completes}
use Rattle.rep_print.proofs.PrintLemmas.{printed}
use Rattle.rep_print.proofs.command.print.Goals as goal

pub close-ending-requires : goal.close-ending-requires
close-ending-requires g c = record {
  employer = done_employer g.C.Clock.readings c.new-desk.result c.serve-lane.new.desk _ _ c.serve-lane.result.tally c.serve-lane.result.ending _ c.serve-lane.ensures.laned;
}

pub returns-clause-printed : goal.returns-clause-printed
returns-clause-printed g c =
    let told = subst (λ (counts : List ℕ). Told c.close-ending.result counts (g.K.Sink.written c.serve-lane.result.out) (g.K.Sink.written c.tell-told.new.out)
    (g.K.Sink.faults c.serve-lane.result.out) (g.K.Sink.faults c.tell-told.new.out) c.tell-told.result) c.counts_of.ensures c.tell-told.ensures.told in
    let count : c.count.result ≡ length c.serve-lane.new.desk.history = c.count.ensures ∙ ap length c.close-ending.ensures.history in
    let zone : c.new-desk.result.zone ≡ c.args.zone = search rules in
    let status = status_of c.tell-told.result in
    let whole = printed g.S.Source.left g.K.Sink.written g.C.Clock.readings g.K.Sink.faults c.args.source c.args.file c.args.out c.close-ending.new.file c.serve-lane.result.out c.tell-told.new.out
    c.new-desk.result c.serve-lane.new.desk c.close-ending.new.desk.clock c.lines_of.result c.serve-lane.result.tally c.count.result c.serve-lane.result.ending c.close-ending.result c.tell-told.result
    c.serve-lane.ensures.laned c.lines_of.ensures.none c.close-ending.ensures.closes told count c.serve-lane.ensures.out_later c.serve-lane.ensures.out_fault
    c.close-ending.ensures.file_fault c.close-ending.ensures.untouched c.close-ending.ensures.unopened in
    subst (λ (n : ℕ). Printed g.S.Source.left g.K.Sink.written g.C.Clock.readings g.K.Sink.faults c.args.zone n c.args.source c.args.file c.args.out c.args.clock
    c.close-ending.new.file c.tell-told.new.out c.into_clock.result) (sym c.status.ensures)
    (subst (λ k. Printed g.S.Source.left g.K.Sink.written g.C.Clock.readings g.K.Sink.faults c.args.zone status c.args.source c.args.file c.args.out c.args.clock
    c.close-ending.new.file c.tell-told.new.out k) (sym c.into_clock.ensures)
    (subst (λ k. Printed g.S.Source.left g.K.Sink.written g.C.Clock.readings g.K.Sink.faults c.args.zone status c.args.source c.args.file c.args.out k
    c.close-ending.new.file c.tell-told.new.out c.close-ending.new.desk.clock) c.new-desk.ensures.clock
    (subst (λ (z : ℤ). Printed g.S.Source.left g.K.Sink.written g.C.Clock.readings g.K.Sink.faults z status c.args.source c.args.file c.args.out c.new-desk.result.clock
    c.close-ending.new.file c.tell-told.new.out c.close-ending.new.desk.clock) zone whole)))

pub returns-clause-statuses : goal.returns-clause-statuses
returns-clause-statuses g c =
    statuses c.status.result c.tell-told.result c.status.ensures
    (λ device. no_device c.serve-lane.ensures.laned.answers _ _ _ _ _ _ c.serve-lane.result.ending c.close-ending.result c.tell-told.result c.serve-lane.ensures.laned.has
    (told_kind _ _ _ _ _ _ _ c.tell-told.ensures.told) device c.close-ending.ensures.closes)

pub returns-clause-source_fault : goal.returns-clause-source_fault
returns-clause-source_fault g c = search rules

pub returns-clause-sink_fault : goal.returns-clause-sink_fault
returns-clause-sink_fault g c = search rules

pub returns-clause-clock_fault : goal.returns-clause-clock_fault
returns-clause-clock_fault g c = search rules

pub returns-clause-no_source_fault : goal.returns-clause-no_source_fault
returns-clause-no_source_fault g c not_source not_sink =
    let same = c.serve-lane.ensures.no_source_fault (λ source.
    elim (source_told _ _ _ _ _ _ c.serve-lane.result.ending c.close-ending.result c.tell-told.result c.status.result c.close-ending.ensures.closes
    (told_kind _ _ _ _ _ _ _ c.tell-told.ensures.told) c.status.ensures source) [ inl four ↦ not_source four | inr five ↦ not_sink five ]) in
    search rules

pub returns-clause-no_file_fault : goal.returns-clause-no_file_fault
returns-clause-no_file_fault g c not_sink =
    c.close-ending.ensures.no_file_fault (λ sink.
    not_sink (sink_told c.close-ending.result c.tell-told.result c.status.result (told_kind _ _ _ _ _ _ _ c.tell-told.ensures.told) c.status.ensures sink))

pub returns-clause-no_clock_fault : goal.returns-clause-no_clock_fault
returns-clause-no_clock_fault g c not_clock not_sink =
    let other : c.close-ending.result ≡ Served ClockFault → ⊥ = λ clock.
    elim (clock_told c.close-ending.result c.tell-told.result c.status.result (told_kind _ _ _ _ _ _ _ c.tell-told.ensures.told) c.status.ensures clock) [ inl seven ↦ not_clock seven | inr five ↦ not_sink five ] in
    let closing = c.close-ending.ensures.no_clock_fault other in
    let lane = c.serve-lane.ensures.no_clock_fault (λ clock. other (clock_stays _ _ _ _ _ _ c.serve-lane.result.ending c.close-ending.result c.close-ending.ensures.closes clock)) in
    ap g.C.Clock.faults c.into_clock.ensures ∙ closing ∙ lane ∙ ap g.C.Clock.faults c.new-desk.ensures.clock

pub returns-clause-complete : goal.returns-clause-complete
returns-clause-complete g c text told printable no_source no_clock no_file no_out =
    let whole = returns-clause-printed g c in
    completes text c.status.result printable (λ at. no_source (returns-clause-source_fault g c at)) (λ at. (elim (returns-clause-sink_fault g c at) [ inl file ↦ no_file file | inr out ↦ no_out out ]))
    (λ at. no_clock (returns-clause-clock_fault g c at)) whole.given whole.into_file whole.said _ _ _ _
    (subst (λ (t : Option (List ℕ)). Prints c.args.zone t c.status.result whole.given whole.into_file whole.said (c.close-ending.new.file ≡ c.args.file)
    (Rose (g.K.Sink.faults c.args.file) (g.K.Sink.faults c.close-ending.new.file)) (g.K.Sink.faults c.args.out) (g.K.Sink.faults c.tell-told.new.out)) told whole.prints)
