use Rattle.std.proofs.Common.{subst, sym, ◌∙◌}
use Rattle.afd_records.specs.Record.{IsBody}
use Rattle.rep_core.proofs.Standing.{Stands-own}
use Rattle.rep_ledger.proofs.Nexts.{IsBody-recorded, IsLineLength-next}
use Rattle.rep_ledger.proofs.framing.frame_of.Goals as goal

pub unreachable-requires : goal.unreachable-requires
unreachable-requires c =
    let h = c.args.core.now.entries in
    let stands = Stands-own c.args.core.now in
    let in_range = subst IsBody (sym c.made-body.ensures) (IsBody-recorded c.args.q.now c.args.now c.requires.asked c.requires.stamp) in
    let made = c.in_default.ensures.succeeds.1
    (IsLineLength-next h c.made-body.result c.bytes.result.now (c.requires.number h stands) in_range
    (c.bytes.ensures.value ∙ c.line-line.ensures h stands)) in absurd cc
