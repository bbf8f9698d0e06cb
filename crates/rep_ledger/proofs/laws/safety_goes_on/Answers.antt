use Rattle.rep_ledger.proofs.SafetyLemmas.{Secures-trans}
use Rattle.rep_ledger.proofs.laws.safety_goes_on.Goals as goal

pub returns : goal.returns
returns g c = λ rested first kept whole before after at_rest earlier dated front goes_on one two.
    Secures-trans rested first kept whole before after _ _ _ at_rest dated front goes_on earlier one two
