use Rattle.std.proofs.Common.{arith}
use Rattle.rep_fields.proofs.Ids.{FitsDigits-wider, same_number, IsDigitByte-last, IsCpf-from_checks, checks-IsCpf}
use Rattle.rep_fields.proofs.cpf.Cpf.read_field.Goals as goal

pub returns-in_default : goal.returns-in_default
returns-in_default c v is_cpf is =
    c.in_default.ensures.read (omega arith, c.requires.most) v
    (FitsDigits-wider 11 _ v c.requires.least is_cpf.size) is

pub returns-then-number-ge-CPF_END : goal.returns-then-number-ge-CPF_END
returns-then-number-ge-CPF_END c v is_cpf is =
    let read = c.in-Some.ensures.read (omega arith, c.requires.most) in
    let same = same_number _ v c.in-Some.number (FitsDigits-wider 11 _ v c.requires.least is_cpf.size) read.0 is read.1 in
    omega (arith, same, is_cpf.size, c.if-number-ge-CPF_END.true)

pub has_cpf_checks-requires-clause-digits : goal.has_cpf_checks-requires-clause-digits
has_cpf_checks-requires-clause-digits c =
    IsDigitByte-last c.args.field.now c.in-Some.number c.requires.least
    (c.in-Some.ensures.read (omega arith, c.requires.most)).1

pub returns-then-not-has_cpf_checks : goal.returns-then-not-has_cpf_checks
returns-then-not-has_cpf_checks c v is_cpf is =
    checks-IsCpf c.args.field.now v _ c.requires.least is c.has_cpf_checks.ensures c.if-not-has_cpf_checks.true is_cpf

pub invariant_of-result : goal.invariant_of-result
invariant_of-result c =
    IsCpf-from_checks c.args.field.now c.in-Some.number _ c.requires.least
    (c.in-Some.ensures.read (omega arith, c.requires.most)).1 c.has_cpf_checks.ensures c.if-number-ge-CPF_END.false
    c.if-not-has_cpf_checks.false

pub returns : goal.returns
returns c =
    let read = c.in-Some.ensures.read (omega arith, c.requires.most) in (
      IsCpf-from_checks c.args.field.now c.in-Some.number _ c.requires.least read.1 c.has_cpf_checks.ensures
          c.if-number-ge-CPF_END.false c.if-not-has_cpf_checks.false,
      read.1,
    )
