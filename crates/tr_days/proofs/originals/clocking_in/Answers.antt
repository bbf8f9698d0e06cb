use Rattle.std.proofs.Common.{sym, ◌∙◌}
use Rattle.std.proofs.lemmas.Option.{none-some}
use Rattle.tr_days.proofs.OriginalLemmas.{none_from, read_is}
use Rattle.tr_days.proofs.originals.clocking_in.Goals as goal

pub returns-in_default-clause-none : goal.returns-in_default-clause-none
returns-in_default-clause-none c = λ clocking reads.
    c.in_default.not-Ok _ (c.read_loose.ensures.only clocking.nsr _ reads.hash reads.notes reads.reads)

pub returns-clause-none : goal.returns-clause-none
returns-clause-none c =
    none_from c.clocking_of.result _ (λ none clocking reads.
    none-some clocking (sym none ∙ c.clocking_of.ensures
    ∙ read_is c.in-Ok.found clocking reads (sym c.in-Ok.is ∙ c.read_loose.ensures.only clocking.nsr _ reads.hash reads.notes reads.reads)))
