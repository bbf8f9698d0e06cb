use Rattle.std.proofs.Common.{rules, ◌+◌, ◌-◌, ◌%◌, ◌^◌, ap, ◌∙◌}
use mathlib.Core.Option.{none}
use Rattle.atomic_table.specs.Table.{step}
use Rattle.rep_turn.proofs.Keeps.{passes}
use Rattle.rep_turn.proofs.steps.pause.Goals as goal

pub fetch_add-requires : goal.fetch_add-requires
fetch_add-requires g c =
    let key = c.args.table.now.key in
    (search rules, search rules, passes g.B.Held.meaning key.0.value key.1 _ _ _ (λ n. (n + 1) % 2 ^ 64) (step c.args.table.now.table_id.slots 4 1 0 none) c.requires.live)

pub fetch_sub-requires : goal.fetch_sub-requires
fetch_sub-requires g c =
    let key = c.args.table.now.key in (
      search rules,
      search rules,
      passes g.B.Held.meaning key.0.value key.1 _ _ _ (λ n. (n + (2 ^ 64 - 1)) % 2 ^ 64) (step c.args.table.now.table_id.slots 4 1 0 none)
          (ap (λ m. m.0.spent) c.fetch_add.ensures.2 ∙ c.requires.live),
    )
