use Rattle.rep_lane.specs.Serving.{rules_of}
use Rattle.rep_lane.proofs.ServingLemmas.{ServesLines-goes_on}
use Rattle.rep_lane.proofs.laws.serving_lines_adds_entries.Goals as goal

pub returns : goal.returns
returns g c limit offset = ServesLines-goes_on (rules_of limit offset g.X.Extraction.extraction)
