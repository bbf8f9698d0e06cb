use Rattle.std.proofs.Common.{length, ap, arith}
use Rattle.rep_fields.specs.Employer.{id_number}
use Rattle.rep_fields.proofs.Numerals.{length-numeral}
use Rattle.rep_fields.proofs.employer.EmployerId.read.Goals as goal

pub returns-then-digits-ne-EMPLOYER_DIGITS : goal.returns-then-digits-ne-EMPLOYER_DIGITS
returns-then-digits-ne-EMPLOYER_DIGITS c v is_id is =
    omega (arith, ap length is, length-numeral 14 (id_number v), c.if-digits-ne-EMPLOYER_DIGITS.true)
