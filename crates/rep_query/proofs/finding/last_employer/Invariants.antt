use Rattle.rep_core.specs.History.{IsEmployer}
use Rattle.rep_query.proofs.Finds.{SearchedTo}
use Rattle.rep_query.proofs.finding.last_employer.Given as goal

abbrev pub invariant-loop-number : goal.invariant-loop-number
invariant-loop-number g l = SearchedTo IsEmployer g.D.Disk.shown l.number l.nsr l.initial.store l.store
