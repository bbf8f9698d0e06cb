use Rattle.std.proofs.Common.{ℕ, List, ap, subst, ◌∙◌}
use Rattle.rep_disk.specs.Memory.{Memory}
use Rattle.rep_world.specs.Trial.{CountsEach}
use Rattle.rep_world.proofs.Trials.{each_frame}
use Rattle.rep_world.proofs.steps.count.Goals as goal

pub returns-in-Ok : goal.returns-in-Ok
returns-in-Ok c =
    let same = ap (λ (d : Memory). d.bytes) c.new-disk.ensures ∙ c.in_ok-to_vec.ensures.items_if_clones_equal (λ x y is. is) in
    subst (λ (bytes : List ℕ). CountsEach bytes c.count.result) same
    (each_frame c.new-disk.result.bytes c.in-Ok.journal.frames c.count.result c.in-Ok.ensures.reopened.0 c.count.ensures.count)
