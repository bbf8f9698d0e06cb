use Rattle.std.proofs.Common.{length, ap, ◌∙◌, refl, arith}
use Rattle.toml.specs.View.{table_view}
use Rattle.toml_fields.proofs.Found.{HasLatin-unique}
use Rattle.toml_fields.proofs.fields.some_text_at.Goals as goal

pub returns-in_default : goal.returns-in_default
returns-in_default g c = λ text has. c.in_default.ensures text has.latin

pub returns-then-is_empty : goal.returns-then-is_empty
returns-then-is_empty g c = λ text has.
    let same = HasLatin-unique g.row.N g.row.N (table_view c.args.table.now) c.args.key.now text c.in-Some.text has.latin c.in-Some.ensures in
    omega (arith, ap length (same ∙ c.if-is_empty.ensures.0 refl), has.some)
