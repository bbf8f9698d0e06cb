use Rattle.std.proofs.Common.{[]}
use Rattle.std.proofs.lemmas.Bool.{false≢true}
use Rattle.toml.specs.View.{table_view}
use Rattle.toml_fields.specs.Fields.{HasLatin}
use Rattle.toml_fields.proofs.Found.{Finds-present}
use Rattle.toml_fields.proofs.fields.text_or_empty.Goals as goal

pub returns : goal.returns
returns g c =
    Finds-present [] (HasLatin g.row.N) (table_view c.args.table.now) c.args.key.now c.text_at.result
    (λ missing. false≢true (c.if-is_missing.ensures.1 missing)) c.text_at.ensures
