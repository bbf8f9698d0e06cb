use Rattle.std.proofs.Common.{codes}
use Rattle.rep_receipt.specs.Receipt.{id_digits, receipt_line, title_line}
use Rattle.rep_receipt.proofs.RowLemmas.{four_rows, line_of}
use Rattle.rep_receipt.proofs.rows.employer_rows.Goals as goal

pub returns : goal.returns
returns c =
    four_rows _ _ _ _ _ title_line (receipt_line (codes "EMPREGADOR") c.args.name.now)
    (receipt_line (codes "IDENTIFICACAO") (id_digits c.args.id.now)) (receipt_line (codes "LOCAL") c.args.place.now)
    c.new-rows.ensures.value c.push_bytes.ensures.value (line_of _ _ (codes "EMPREGADOR") _ _ c.push_line.ensures.value c.bytes.ensures.value)
    c.push_id.ensures.value (line_of _ _ (codes "LOCAL") _ _ c.push_line-2.ensures.value c.bytes-2.ensures.value)
