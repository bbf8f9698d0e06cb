use Rattle.std.proofs.Common.{◌≡◌, ◌+◌, ◌-◌, arith}
use Rattle.afd_read.proofs.RunLemmas.{run_between}
use Rattle.afd_read.proofs.index.bounds_at.Goals as goal

pub returns : goal.returns
returns c =
    let text = c.args.text.now in
    let place = c.args.place in
    let number : place + 1 - 1 ≡ place = omega arith in
    rw (c.requires.indexed, number) (run_between text place c.requires.within)
