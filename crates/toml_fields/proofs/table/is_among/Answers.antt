use Rattle.std.proofs.Common.{sym, ◌∙◌}
use Rattle.toml_fields.proofs.Keys.{known_from_any, any_from_known}
use Rattle.toml_fields.proofs.table.is_among.Goals as goal

pub returns : goal.returns
returns c = (
  λ yes. known_from_any c.args.keys.now c.args.key.now (sym c.contains.ensures.value ∙ yes),
  λ known. c.contains.ensures.value ∙ any_from_known c.args.keys.now c.args.key.now known,
)
