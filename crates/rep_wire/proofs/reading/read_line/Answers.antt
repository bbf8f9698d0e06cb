use Rattle.rep_wire.proofs.OrderLemmas.{only_answer, malformed_from_off}
use Rattle.rep_wire.proofs.reading.read_line.Goals as goal

pub returns-clause-only : goal.returns-clause-only
returns-clause-only c =
    only_answer c.args.head.now c.args.line.now c.order_or_fault.result c.order_or_fault.ensures.found c.order_or_fault.ensures.off

pub returns-clause-malformed : goal.returns-clause-malformed
returns-clause-malformed c =
    malformed_from_off c.args.head.now c.args.line.now c.order_or_fault.result c.order_or_fault.ensures.off
