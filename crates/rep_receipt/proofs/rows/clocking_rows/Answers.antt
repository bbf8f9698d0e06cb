use Rattle.std.proofs.Common.{codes}
use Rattle.rep_fields.specs.Digits.{numeral}
use Rattle.rep_fields.specs.Identity.{cpf_text}
use Rattle.rep_fields.specs.Moment.{moment_text}
use Rattle.rep_receipt.specs.Receipt.{receipt_line}
use Rattle.rep_receipt.proofs.RowLemmas.{five_rows, line_of}
use Rattle.rep_receipt.proofs.rows.clocking_rows.Goals as goal

pub returns : goal.returns
returns c =
    five_rows _ _ _ _ _ _ (receipt_line (codes "CPF") (cpf_text c.args.cpf.now)) (receipt_line (codes "DATA E HORA") (moment_text c.args.marked.now))
    (receipt_line (codes "NSR") (numeral 9 c.args.nsr)) (receipt_line (codes "INPI") c.args.rep.now) (receipt_line (codes "HASH") c.args.hash.now)
    c.new-rows.ensures.value (line_of _ _ (codes "CPF") _ _ c.push_line.ensures.value c.write.ensures.text)
    (line_of _ _ (codes "DATA E HORA") _ _ c.push_line-2.ensures.value c.write-2.ensures.text) c.push_number.ensures.value
    (line_of _ _ (codes "INPI") _ _ c.push_line-3.ensures.value c.bytes.ensures.value) c.push_line-4.ensures.value
