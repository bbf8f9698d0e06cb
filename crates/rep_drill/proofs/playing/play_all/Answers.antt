use Rattle.std.proofs.Common.{◌≡◌, ◌≤◌, refl, ◌∙◌, arith}
use Rattle.rep_drill.proofs.Plays.{ends_all, ends_at, ends_uncounted, goes_on, start}
use Rattle.rep_drill.proofs.playing.play_all.Goals as goal

pub loop-number-init : goal.loop-number-init
loop-number-init g c = (start g.S.Source.left c.args.lines.now c.args.world.now _, refl, omega arith)

pub loop-number-preserved : goal.loop-number-preserved
loop-number-preserved g c =
    let sink : g.K.Sink.faults c.args.out.now ≤ g.K.Sink.faults c.loop-number.out = c.loop-number.invariant.2 in
    let source_next : g.S.Source.faults c.play_next.new.lines.source ≡ g.S.Source.faults c.loop-number.lines.source = c.in-Ok-Some.ensures.no_source_fault (λ other. let is = c.in-Ok-Some.field-0-is in cc) in
    let sink_next : g.K.Sink.faults c.loop-number.out ≤ g.K.Sink.faults c.play_next.new.out = c.play_next.ensures.sink_later in
    let t = rw c.in-Ok-Some.field-0-is at c.in-Ok-Some.ensures.plays in (
      goes_on g.S.Source.left c.args.lines.now c.loop-number.lines c.args.world.now c.loop-number.world _ _ c.loop-number.number c.loop-number.events c.loop-number.refused c.loop-number.invariant.0
          c.play_next.new.lines c.play_next.new.world _ t.0 c.in-Ok-Some.is_refused c.either-refused.result t.1 t.2 c.either-refused.ensures,
      source_next ∙ c.loop-number.invariant.1,
      omega arith,
    )

pub returns-in-Ok-None-clause-plays : goal.returns-in-Ok-None-clause-plays
returns-in-Ok-None-clause-plays g c =
    let t = rw c.in-Ok-None.field-0-is at c.in-Ok-None.ensures.plays in
    ends_all g.S.Source.left c.args.lines.now c.loop-number.lines c.args.world.now c.loop-number.world _ _ c.loop-number.number c.loop-number.events c.loop-number.refused c.loop-number.invariant.0
    c.play_next.new.world _ c.ending_of.result c.ending_of.ensures t.0 t.1 t.2

pub returns-in-Err-clause-plays : goal.returns-in-Err-clause-plays
returns-in-Err-clause-plays g c =
    ends_at g.S.Source.left c.args.lines.now c.loop-number.lines c.args.world.now c.loop-number.world _ _ c.loop-number.number c.loop-number.events c.loop-number.refused c.loop-number.invariant.0
    c.play_next.new.lines c.play_next.new.world _ c.in-Err.ending c.loop-number.events c.in-Err.ensures.plays

pub returns-clause-plays : goal.returns-clause-plays
returns-clause-plays g c =
    ends_uncounted g.S.Source.left c.args.lines.now c.loop-number.lines c.args.world.now c.loop-number.world _ _ c.loop-number.number c.loop-number.events c.loop-number.refused c.loop-number.invariant.0

pub returns-in-Ok-None-clause-no_source_fault : goal.returns-in-Ok-None-clause-no_source_fault
returns-in-Ok-None-clause-no_source_fault g c other =
    c.in-Ok-None.ensures.no_source_fault (λ same. let is = c.in-Ok-None.field-0-is in cc) ∙ c.loop-number.invariant.1

pub returns-in-Err-clause-no_source_fault : goal.returns-in-Err-clause-no_source_fault
returns-in-Err-clause-no_source_fault g c other = c.in-Err.ensures.no_source_fault (λ same. other (cc)) ∙ c.loop-number.invariant.1

pub returns-clause-no_source_fault : goal.returns-clause-no_source_fault
returns-clause-no_source_fault g c other = c.loop-number.invariant.1
