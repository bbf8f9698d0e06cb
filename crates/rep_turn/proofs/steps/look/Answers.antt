use Rattle.std.proofs.Common.{rules}
use Rattle.rep_turn.proofs.Keeps.{looks_at}
use Rattle.rep_turn.proofs.steps.look.Goals as goal

pub load-requires : goal.load-requires
load-requires g c =
    let key = c.args.table.now.key in
    (search rules, search rules, looks_at g.B.Held.meaning key.0.value key.1 _ _ _ c.requires.live)
