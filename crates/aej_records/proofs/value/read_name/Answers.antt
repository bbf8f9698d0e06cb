use Rattle.std.proofs.Common.{◌≡◌, ◌∙◌}
use Rattle.rep_fields.proofs.Texts.{IsText-unique}
use Rattle.aej_records.proofs.value.read_name.Goals as goal

pub returns-then-is_empty : goal.returns-then-is_empty
returns-then-is_empty g c = λ name in_range fills.
    let read = c.in-Some.ensures in
    let same : name ≡ c.in-Some.name =
    IsText-unique g.row.N g.row.N name c.in-Some.name c.args.text.now in_range.0 read.0 fills read.1 in
    in_range.1 (same ∙ c.is_empty.ensures.0 c.if-is_empty.true)
