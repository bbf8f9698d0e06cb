use Rattle.rep_lane.specs.Serving.{rules_of}
use Rattle.rep_lane.proofs.FrontLemmas.{are_front_replies}
use Rattle.rep_lane.proofs.laws.served_lines_have_the_replies_of_their_fronts.Goals as goal

pub returns : goal.returns
returns g c limit offset = are_front_replies (rules_of limit offset g.X.Extraction.extraction)
