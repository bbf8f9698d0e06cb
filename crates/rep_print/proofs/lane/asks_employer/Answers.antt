use Rattle.std.proofs.Common.{◌≡◌, subst}
use Rattle.rep_wire.specs.LaneGrammar.{Orders}
use Rattle.rep_wire.specs.declared.request.Order.{Order}
use Rattle.rep_wire.specs.declared.request.Request.{Request}
use Rattle.rep_wire.specs.declared.request.Order.TheVariants.{Asked}
use Rattle.rep_print.specs.Printing.{AsksEmployer}
use Rattle.rep_print.proofs.lane.asks_employer.Goals as goal

pub returns-in-Ok-Asked : goal.returns-in-Ok-Asked
returns-in-Ok-Asked c = (
  λ is. record {
    request = c.in-Ok-Asked.q;
    ordered = subst (λ (o : Order). Orders c.args.head.now c.args.line.now o) c.in-Ok-Asked.field-0-is c.in-Ok-Asked.ensures.found;
    asks = c.is_employer.ensures.0 is;
  },
  λ line.
      let read = c.read_line.ensures.only (Asked line.request) line.ordered in
      let is = c.in-Ok-Asked.is in
      let asked = c.in-Ok-Asked.field-0-is in
      let same : line.request ≡ c.in-Ok-Asked.q = cc in
      c.is_employer.ensures.1 (subst (λ (q : Request). AsksEmployer q.ask) same line.asks),
)

pub returns-in-Err : goal.returns-in-Err
returns-in-Err c = (
  λ is. absurd cc,
  λ line.
      let read = c.read_line.ensures.only (Asked line.request) line.ordered in
      let is = c.in-Err.is in
      absurd cc,
)

pub returns-in-Ok-Extract : goal.returns-in-Ok-Extract
returns-in-Ok-Extract c = (
  λ is. absurd cc,
  λ line.
      let read = c.read_line.ensures.only (Asked line.request) line.ordered in
      let is = c.in-Ok-Extract.is in
      absurd cc,
)
