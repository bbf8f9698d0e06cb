use Rattle.rep_fields.proofs.Checks.{HasCpfChecks-parts}
use Rattle.rep_fields.proofs.check.has_cpf_checks.Goals as goal

pub returns : goal.returns
returns c =
    HasCpfChecks-parts c.args.digits.now _ _ _ c.requires.long c.requires.digits c.is_checked-first.ensures
    c.is_checked-second.ensures c.is_all-equal.ensures
