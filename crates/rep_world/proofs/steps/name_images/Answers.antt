use Rattle.rep_disk.specs.declared.image.Image.{Image}
use Rattle.rep_disk.specs.declared.image.Image.TheVariants.{Old, New, Odd}
use Rattle.rep_world.specs.Trial.{AllowsNamed}
use Rattle.rep_world.proofs.Disks.{named_allowed}
use Rattle.rep_world.proofs.steps.name_images.Goals as goal

pub returns : goal.returns
returns c = each
  where
    each : AllowsNamed c.args.disk.now
    each Old = named_allowed c.args.disk.now c.moment-moment.result Old c.in_ok-_old._old.items c.moment-moment.ensures c.in_ok-_old.ensures.named c.in_ok-_old.ensures.allowed
    each New = named_allowed c.args.disk.now c.moment-moment.result New c.in_ok-_new._new.items c.moment-moment.ensures c.in_ok-_new.ensures.named c.in_ok-_new.ensures.allowed
    each Odd = named_allowed c.args.disk.now c.moment-moment.result Odd c.in_ok-_odd._odd.items c.moment-moment.ensures c.in_ok-_odd.ensures.named c.in_ok-_odd.ensures.allowed
