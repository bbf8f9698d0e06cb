use Rattle.std.proofs.Common.{arith}
use Rattle.std.proofs.lemmas.List.Elements.{All-same}
use Rattle.rep_fields.specs.Digits.{IsDigitByte}
use Rattle.rep_fields.proofs.Ids.{IsCnpj-from_checks}
use Rattle.rep_fields.proofs.Numerals.{IsDigitByte-numeral}
use Rattle.rep_fields.proofs.employer.read_cnpj.Goals as goal

pub has_cnpj_checks-requires-clause-digits : goal.has_cnpj_checks-requires-clause-digits
has_cnpj_checks-requires-clause-digits c =
    let read = c.in-Some.ensures.read (omega arith, omega arith) in
    All-same IsDigitByte _ _ read.1 (IsDigitByte-numeral _ c.in-Some.number)

pub returns : goal.returns
returns c =
    let read = c.in-Some.ensures.read (omega arith, omega arith) in
    IsCnpj-from_checks c.args.digits.now c.in-Some.number _ c.requires read c.has_cnpj_checks.ensures c.if-not-has_cnpj_checks.false
