use Rattle.std.proofs.Common.{[], ◌∙◌, ap, sym, rules}
use Rattle.rep_core.proofs.Standing.{entries_of}
use Rattle.rep_ledger.specs.Ledger.{frames_of}
use Rattle.rep_print.proofs.desk.PrintDesk.new.Goals as goal

pub invariant_of-result : goal.invariant_of-result
invariant_of-result g c = record {
  limit = c.new.ensures.limit;
  offset = search rules;
  frames = c.new-2.ensures ∙ ap (λ h. frames_of h) (sym (entries_of c.new.result [] c.new.ensures.stands));
}

pub returns-clause-empty : goal.returns-clause-empty
returns-clause-empty g c = entries_of c.new.result [] c.new.ensures.stands
