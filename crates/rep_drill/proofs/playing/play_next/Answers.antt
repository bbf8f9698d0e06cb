use Rattle.std.proofs.Common.{◌≡◌, ℕ, List, [], ◌∷◌, ◌++◌, refl, sym, subst}
use Rattle.rep_lane.specs.LaneText.{HasRead}
use Rattle.rep_drill.specs.declared.ending.DrillEnding.TheVariants.{SourceFault}
use Rattle.rep_drill.proofs.NextLine.{long_next, not_by_source, plays_next, stops_next}
use Rattle.rep_drill.proofs.playing.play_next.Goals as goal

pub returns-in-Ok-clause-plays : goal.returns-in-Ok-clause-plays
returns-in-Ok-clause-plays g c =
    plays_next g.S.Source.left c.args.number c.args.lines.now c.next_line.new.lines c.args.world.now c.play_line.new.world _ _ c.bytes.result.now
    (λ text before r. let came = c.in-Line.ensures.comes text before r in
    (came.1, subst (λ (line : List ℕ). HasRead g.S.Source.left c.next_line.new.lines text (before ++ line ∷ [])) (sym c.bytes.ensures.value) came.2))
    c.in-Ok.is_refused c.in-Ok.ensures.plays

pub returns-in-Err-clause-plays : goal.returns-in-Err-clause-plays
returns-in-Err-clause-plays g c =
    stops_next g.S.Source.left c.args.number c.args.lines.now c.next_line.new.lines c.args.world.now c.play_line.new.world _ _ c.bytes.result.now
    (λ text before r. let came = c.in-Line.ensures.comes text before r in
    (came.1, subst (λ (line : List ℕ). HasRead g.S.Source.left c.next_line.new.lines text (before ++ line ∷ [])) (sym c.bytes.ensures.value) came.2))
    c.in-Err.ending c.in-Err.ensures.plays

pub returns-in-Err-clause-source_fault : goal.returns-in-Err-clause-source_fault
returns-in-Err-clause-source_fault g c is =
    let same : c.in-Err.ending ≡ SourceFault = cc in
    absurd (not_by_source c.args.number c.bytes.result.now c.args.world.now c.play_line.new.world _ _ c.in-Err.ending c.in-Err.ensures.plays same)

pub returns-in-TooLong-clause-plays : goal.returns-in-TooLong-clause-plays
returns-in-TooLong-clause-plays g c =
    long_next g.S.Source.left c.args.number c.args.lines.now c.next_line.new.lines c.args.world.now c.args.world.now _ c.in-TooLong.ensures.comes

pub returns-in-End-clause-plays : goal.returns-in-End-clause-plays
returns-in-End-clause-plays g c = (refl, refl, c.in-End.ensures.comes)

pub returns-in-InputLimit-clause-plays : goal.returns-in-InputLimit-clause-plays
returns-in-InputLimit-clause-plays g c = (refl, λ text before r. let came = c.in-InputLimit.ensures.comes text before r in (came.0, came.1))
