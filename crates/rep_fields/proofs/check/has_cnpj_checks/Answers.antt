use Rattle.rep_fields.proofs.Checks.{HasCnpjChecks-parts}
use Rattle.rep_fields.proofs.check.has_cnpj_checks.Goals as goal

pub returns : goal.returns
returns c =
    HasCnpjChecks-parts c.args.digits.now _ _ c.is_checked-first.ensures c.is_checked-second.ensures
