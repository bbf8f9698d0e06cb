use Rattle.std.proofs.Common.{◌≡◌, ◌+◌, ◌≤◌, length, refl, ◌∙◌, arith}
use Rattle.rep_io.specs.Lines.{longest_text}
use Rattle.rep_io.specs.Cutter.{line_start}
use Rattle.rep_lane.specs.Answers.{receipts_in, refusals_in}
use Rattle.rep_lane.specs.Desk.{steps_of}
use Rattle.rep_lane.proofs.AnswerLemmas.{receipts-and-refusals}
use Rattle.rep_lane.proofs.RunLemmas.{goes_on, ends, start}
use Rattle.rep_lane.proofs.lane.answer_all.Goals as goal

pub answers-init : goal.answers-init
answers-init g c = (
  start g.S.Source.left (steps_of g.Q.Desk.asks g.Q.Desk.extracts g.Q.Desk.shows) c.args.head.now c.args.first c.args.lines.now c.args.desk.now _,
  refl,
  refl,
  omega arith,
  λ none. refl,
)

pub count-requires-clause-receipts : goal.count-requires-clause-receipts
count-requires-clause-receipts g c =
    let u = c.answers.invariant.0 in
    let is : c.answers.tally.receipts ≡ receipts_in u.answers = u.tally_is.receipts in
    let both = receipts-and-refusals u.answers in
    let far : line_start c.args.lines.now + length u.answers ≤ line_start c.answers.lines = u.far in
    let advances = c.in-Ok.ensures.takes.advances in
    let within : c.answer_next.new.lines.taken ≤ longest_text + 1 = c.in-Ok.ensures.within in
    omega arith

pub count-requires-clause-refused : goal.count-requires-clause-refused
count-requires-clause-refused g c =
    let u = c.answers.invariant.0 in
    let is : c.answers.tally.refused ≡ refusals_in u.answers = u.tally_is.refused in
    let both = receipts-and-refusals u.answers in
    let far : line_start c.args.lines.now + length u.answers ≤ line_start c.answers.lines = u.far in
    let advances = c.in-Ok.ensures.takes.advances in
    let within : c.answer_next.new.lines.taken ≤ longest_text + 1 = c.in-Ok.ensures.within in
    omega arith

pub answers-preserved : goal.answers-preserved
answers-preserved g c =
    let source_next : g.S.Source.faults c.answer_next.new.lines.source ≡ g.S.Source.faults c.answers.lines.source = c.in-Ok.ensures.no_source_fault (λ other. cc) in
    let sink_next : g.K.Sink.faults c.answer_next.new.sink ≡ g.K.Sink.faults c.answers.sink = c.in-Ok.ensures.no_sink_fault (λ other. cc) in (
      goes_on g.S.Source.left (steps_of g.Q.Desk.asks g.Q.Desk.extracts g.Q.Desk.shows) c.args.head.now c.args.first c.answers.number c.args.lines.now c.answers.lines c.args.desk.now c.answers.desk _ _
          c.answers.tally c.answers.invariant.0 c.answer_next.new.lines c.answer_next.new.desk _ c.in-Ok.kind c.count.new.self c.in-Ok.ensures.takes
          (record { lines = c.count.ensures.lines; receipts = c.count.ensures.receipts; refused = c.count.ensures.refused }),
      source_next ∙ c.answers.invariant.1,
      sink_next ∙ c.answers.invariant.2,
      (let u = c.answers.invariant.0 in
          let is : c.answers.tally.lines ≡ length u.answers = u.tally_is.lines in
          let counted : c.count.new.self.lines ≡ c.answers.tally.lines + 1 = c.count.ensures.lines in
          let far : line_start c.args.lines.now + length u.answers ≤ line_start c.answers.lines = u.far in
          let advances = c.in-Ok.ensures.takes.advances in
          let within : c.answer_next.new.lines.taken ≤ longest_text + 1 = c.in-Ok.ensures.within in
          omega arith),
      (λ none. let counted : c.count.new.self.lines ≡ c.answers.tally.lines + 1 = c.count.ensures.lines in absurd (omega arith)),
    )

pub returns-in-Err-clause-runs : goal.returns-in-Err-clause-runs
returns-in-Err-clause-runs g c =
    ends g.S.Source.left (steps_of g.Q.Desk.asks g.Q.Desk.extracts g.Q.Desk.shows) c.args.head.now c.args.first c.answers.number c.args.lines.now c.answers.lines c.args.desk.now c.answers.desk
    c.answer_next.new.desk _ _ _ c.answers.tally c.in-Err.end c.answers.invariant.0 c.in-Err.ensures.takes

pub returns-in-Err-clause-few : goal.returns-in-Err-clause-few
returns-in-Err-clause-few g c = let few : c.answers.tally.lines ≤ longest_text + 1 = c.answers.invariant.3 in omega arith

pub returns-in-Err-clause-untouched : goal.returns-in-Err-clause-untouched
returns-in-Err-clause-untouched g c none other device = c.in-Err.ensures.untouched other device ∙ c.answers.invariant.4 none

pub returns-in-Err-clause-no_source_fault : goal.returns-in-Err-clause-no_source_fault
returns-in-Err-clause-no_source_fault g c other = c.in-Err.ensures.no_source_fault (λ same. other (cc)) ∙ c.answers.invariant.1

pub returns-in-Err-clause-no_sink_fault : goal.returns-in-Err-clause-no_sink_fault
returns-in-Err-clause-no_sink_fault g c other = c.in-Err.ensures.no_sink_fault (λ same. other (cc)) ∙ c.answers.invariant.2
