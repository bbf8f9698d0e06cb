use Rattle.std.proofs.Common.{List, ℕ, ap, subst, ◌∙◌}
use Rattle.rep_disk.specs.Memory.{Memory}
use Rattle.rep_world.specs.Trial.{IsOpened}
use Rattle.rep_world.proofs.Disks.{made_own}
use Rattle.rep_world.proofs.Trials.{opened_by}
use Rattle.rep_world.proofs.steps.open.Goals as goal

pub returns-in-Ok-clause-opened : goal.returns-in-Ok-clause-opened
returns-in-Ok-clause-opened c =
    let same = ap (λ (d : Memory). d.bytes) c.new-disk.ensures in
    let copied = c.in_ok-to_vec.ensures.items_if_clones_equal (λ x y is. is) in
    subst (λ (bytes : List ℕ). IsOpened c.args.site.now bytes c.in-Ok.store) (same ∙ copied)
    (opened_by c.args.site.now c.new-disk.result c.at.result c.in-Ok.store (made_own c.new-disk.result _ c.new-disk.ensures) c.in-Ok.ensures.reopened)

pub returns-in-Ok-clause-clock : goal.returns-in-Ok-clause-clock
returns-in-Ok-clause-clock c = c.in-Ok.ensures.reopened.same_clock ∙ c.at.ensures
