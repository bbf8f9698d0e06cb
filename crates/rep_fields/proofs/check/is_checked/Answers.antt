use Rattle.rep_fields.proofs.Checks.{IsChecked-test}
use Rattle.rep_fields.proofs.check.is_checked.Goals as goal

pub returns : goal.returns
returns c =
    IsChecked-test c.args.weights.now c.args.digits.now _ _ c.from.result c.check_digit.result c.requires.long
    c.split_at.ensures.front c.split_at.ensures.back c.from.ensures c.check_digit.ensures
