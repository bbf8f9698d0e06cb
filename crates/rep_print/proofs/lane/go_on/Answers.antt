use Rattle.std.proofs.Common.{take, arith}
use Rattle.rep_lane.proofs.AnswerLemmas.{receipts-and-refusals}
use Rattle.rep_print.proofs.lane.go_on.Goals as goal

pub count_first-tally-requires-clause-receipts : goal.count_first-tally-requires-clause-receipts
count_first-tally-requires-clause-receipts g c =
    let r = c.run-done.ensures.runs in
    let all = receipts-and-refusals (take r.whole r.answers) in
    omega (arith, r.tally_is.lines, r.tally_is.receipts, c.run-done.ensures.few)

pub count_first-tally-requires-clause-refused : goal.count_first-tally-requires-clause-refused
count_first-tally-requires-clause-refused g c =
    let r = c.run-done.ensures.runs in
    let all = receipts-and-refusals (take r.whole r.answers) in
    omega (arith, r.tally_is.lines, r.tally_is.refused, c.run-done.ensures.few)
