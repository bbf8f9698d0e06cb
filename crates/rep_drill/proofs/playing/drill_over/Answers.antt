use Rattle.std.proofs.Common.{◌≡◌, [], sym, ap, subst, ◌∙◌}
use Rattle.rep_io.specs.Causes.{Rose}
use Rattle.rep_io.specs.Cutter.{Cutter, fresh}
use Rattle.rep_lane.specs.LaneText.{HasRead}
use Rattle.rep_drill.specs.Playing.{PlaysOut}
use Rattle.rep_drill.proofs.Endings.{drills_over, sink_failed, source_failed, source_kept}
use Rattle.rep_drill.proofs.Completeness.{completes}
use Rattle.rep_drill.proofs.playing.drill_over.Goals as goal

pub returns-clause-drilled : goal.returns-clause-drilled
returns-clause-drilled g c =
    let p = c.play_all-ending in
    drills_over g.S.Source.left (fresh c.args.schedule) c.args.world p.new.world _ _ _ p.result.0 c.conclude-told.result p.result.1
    (g.K.Sink.faults c.args.out) (g.K.Sink.faults p.new.out) (g.K.Sink.faults c.conclude-told.new.out) c.status.result
    (subst (λ (lines : Cutter g.row.S.Denot). PlaysOut g.S.Source.left lines c.args.world p.new.world (g.K.Sink.written c.args.out) (g.K.Sink.written p.new.out) p.result.0 p.result.1)
    c.lines_of-lines.ensures.value p.ensures.plays)
    p.ensures.sink_later p.ensures.sink_fault c.conclude-told.ensures c.status.ensures

pub returns-clause-source_fault : goal.returns-clause-source_fault
returns-clause-source_fault g c four =
    let p = c.play_all-ending in
    let begun : c.lines_of-lines.result.source ≡ c.args.schedule = ap (λ (lines : Cutter g.row.S.Denot). lines.source) c.lines_of-lines.ensures.value in
    let ended : p.new.lines.source ≡ c.into_source.result = sym c.into_source.ensures in
    let rose = source_failed p.result.1 p.new.world p.result.0 c.conclude-told.result _ _ _ _ (Rose (g.S.Source.faults c.lines_of-lines.result.source) (g.S.Source.faults p.new.lines.source)) c.status.result
    p.ensures.source_fault c.conclude-told.ensures c.status.ensures four in
    subst (λ (s : g.row.S.Denot). Rose (g.S.Source.faults c.args.schedule) (g.S.Source.faults s)) ended
    (subst (λ (s : g.row.S.Denot). Rose (g.S.Source.faults s) (g.S.Source.faults p.new.lines.source)) begun rose)

pub returns-clause-sink_fault : goal.returns-clause-sink_fault
returns-clause-sink_fault g c five =
    let p = c.play_all-ending in
    sink_failed p.result.1 p.new.world p.result.0 c.conclude-told.result _ _ (g.K.Sink.faults c.args.out) (g.K.Sink.faults p.new.out) (g.K.Sink.faults c.conclude-told.new.out) c.status.result
    p.ensures.sink_later p.ensures.sink_fault c.conclude-told.ensures c.status.ensures five

pub returns-clause-no_source_fault : goal.returns-clause-no_source_fault
returns-clause-no_source_fault g c other =
    let p = c.play_all-ending in
    let begun : c.lines_of-lines.result.source ≡ c.args.schedule = ap (λ (lines : Cutter g.row.S.Denot). lines.source) c.lines_of-lines.ensures.value in
    let ended : c.into_source.result ≡ p.new.lines.source = c.into_source.ensures in
    let kept = source_kept p.result.1 p.new.world p.result.0 c.conclude-told.result _ _ _ _ (g.S.Source.faults p.new.lines.source ≡ g.S.Source.faults c.lines_of-lines.result.source) c.status.result
    p.ensures.no_source_fault c.conclude-told.ensures c.status.ensures other in
    ap g.S.Source.faults ended ∙ kept ∙ ap g.S.Source.faults begun

pub returns-clause-complete : goal.returns-clause-complete
returns-clause-complete g c text is none can no_source no_sink =
    completes g.S.Source.left (fresh c.args.schedule) c.args.world _ _ _ _ c.status.result
    (Rose (g.S.Source.faults c.args.schedule) (g.S.Source.faults c.into_source.result)) (Rose (g.K.Sink.faults c.args.out) (g.K.Sink.faults c.conclude-told.new.out))
    (returns-clause-drilled g c) (returns-clause-source_fault g c) (returns-clause-sink_fault g c) text
    (subst (λ (lines : Cutter g.row.S.Denot). HasRead g.S.Source.left lines text []) c.lines_of-lines.ensures.value (c.lines_of-lines.ensures.none text is))
    none can no_source no_sink
