use Rattle.std.proofs.Common.{sym, ◌∙◌}
use Rattle.std.proofs.lemmas.Bool.{false≢true}
use Rattle.rep_drill.proofs.Endings.{counts_cut, counts_memory, counts_not, counts_whole}
use Rattle.rep_drill.proofs.playing.say_counts.Goals as goal

pub returns-then-not-is_whole-clause-says : goal.returns-then-not-is_whole-clause-says
returns-then-not-is_whole-clause-says g c = counts_not c.args.events c.args.world.now c.args.ending _ _ (λ whole. false≢true (sym c.if-not-is_whole.true ∙ c.is_whole.ensures.1 whole))

pub returns-in_default-clause-says : goal.returns-in_default-clause-says
returns-in_default-clause-says g c = counts_memory c.args.events c.args.world.now c.args.ending _ _ (c.is_whole.ensures.0 c.if-not-is_whole.false)

pub returns-in-Ok-put_all-clause-says : goal.returns-in-Ok-put_all-clause-says
returns-in-Ok-put_all-clause-says g c =
    counts_whole c.args.events c.in-Ok.entries c.args.world.now c.args.ending c.bytes.result.now _ _ _ (c.is_whole.ensures.0 c.if-not-is_whole.false) c.in-Ok.ensures.counts
    (c.bytes.ensures.value ∙ c.drill_line.ensures) c.in-Ok-put_all.ensures.bytes

pub returns-in-Err-clause-says : goal.returns-in-Err-clause-says
returns-in-Err-clause-says g c =
    let b = c.in-Err.ensures.bytes in
    counts_cut c.args.events c.in-Ok.entries c.args.world.now c.args.ending c.bytes.result.now b.0 _ _ _ (c.is_whole.ensures.0 c.if-not-is_whole.false) c.in-Ok.ensures.counts
    (c.bytes.ensures.value ∙ c.drill_line.ensures) b.1 b.2 c.in-Err.ensures.cause.failed
