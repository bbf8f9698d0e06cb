use Rattle.rep_query.specs.Receipt.{IsWorkerOf}
use Rattle.rep_query.proofs.Finds.{SearchedTo}
use Rattle.rep_query.proofs.finding.last_name.Given as goal

abbrev pub invariant-loop-number : goal.invariant-loop-number
invariant-loop-number g l = SearchedTo (IsWorkerOf l.cpf) g.D.Disk.shown l.number l.nsr l.initial.store l.store
