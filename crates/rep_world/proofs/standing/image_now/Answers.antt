use Rattle.std.proofs.Common.{◌≡◌, ◌<◌, ap, sym, subst, ◌∙◌, arith}
use Rattle.rep_disk.specs.Disk.{last_moment}
use Rattle.rep_disk.specs.Memory.{Memory}
use Rattle.rep_world.specs.Fields.{IsImageNow, RunsForSome}
use Rattle.rep_world.specs.declared.recorder.Recorder.{Recorder}
use Rattle.rep_world.proofs.Trials.{contents_now}
use Rattle.rep_world.proofs.standing.image_now.Goals as goal

pub returns-in_ok-to_vec-in-Up : goal.returns-in_ok-to_vec-in-Up
returns-in_ok-to_vec-in-Up c =
    let runs = subst RunsForSome c.in-Up.is c.requires in
    let store = c.in-Up.store in
    let left = c.in_ok-to_vec-in-Up.field-0.items in
    let moment : c.moment-moment.result ≡ store.disk.moment = c.moment-moment.ensures ∙ ap (λ (d : Memory). d.moment) c.disk-disk.ensures in
    let early : store.disk.moment < last_moment = omega (arith, moment, c.if-moment.false) in
    let same = c.in_ok-to_vec-in-Up.ensures.items_if_clones_equal (λ x y is. is) ∙ c.bytes.ensures ∙ ap (λ (d : Memory). d.bytes) c.disk-disk.ensures in
    subst (λ (r : Recorder). IsImageNow c.args.image r left) (sym c.in-Up.is)
    (contents_now runs.0 store c.args.image left runs.1 early same)
