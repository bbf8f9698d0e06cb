use Rattle.std.proofs.Common.{length, ap, subst, ◌∙◌}
use Rattle.rep_core.proofs.Standing.{Stands-own}
use Rattle.rep_store.specs.State.{IsSound}
use Rattle.rep_store.proofs.Parts.{IsSound-whole}
use Rattle.rep_store.proofs.store.Store.count.Goals as goal

pub returns-clause-value : goal.returns-clause-value
returns-clause-value g c = c.count.ensures.value _ (Stands-own c.self.inside.core) ∙ ap (λ s. length s.history) c.self.view_is

pub returns-clause-sound : goal.returns-clause-sound
returns-clause-sound g c = subst (IsSound g.D.Disk.shown) c.self.view_is (IsSound-whole g.D.Disk.shown _ _ _ _ _ c.self.invariant.0)
