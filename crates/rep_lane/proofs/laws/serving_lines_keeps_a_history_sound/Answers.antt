use Rattle.rep_lane.specs.Serving.{rules_of}
use Rattle.rep_lane.proofs.ServingLemmas.{ServesLines-valid, ServesLines-founded}
use Rattle.rep_lane.proofs.laws.serving_lines_keeps_a_history_sound.Goals as goal

pub returns : goal.returns
returns g c = record {
  valid = λ limit offset. ServesLines-valid (rules_of limit offset g.X.Extraction.extraction);
  founded = λ limit offset. ServesLines-founded (rules_of limit offset g.X.Extraction.extraction);
}
