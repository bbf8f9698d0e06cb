use Rattle.std.proofs.Common.{lit<, arith}
use Rattle.rep_fields.proofs.Ids.{FitsDigits-wider}
use Rattle.afd_records.proofs.writing.put_cpf.Goals as goal

pub push_numeral-requires : goal.push_numeral-requires
push_numeral-requires c =
    let fits = FitsDigits-wider 11 c.args.width c.cpf.inside.number c.requires.wide c.cpf.invariant.size in
    (lit< tt, (omega arith, (fits, c.requires.room)))
