use Rattle.std.proofs.Common.{ℕ, List, Some, ap, add-one, arith}
use Rattle.rep_world.proofs.Disks.{times-more}
use Rattle.rep_world.proofs.dial.DialClock.now.Goals as goal

pub returns-then-self-lt18446744073709551615-clause-reading : goal.returns-then-self-lt18446744073709551615-clause-reading
returns-then-self-lt18446744073709551615-clause-reading c =
    let d = c.args.self.now in (
      (omega arith, omega arith),
      rw add-one (ap (λ (xs : List ℕ). Some xs) (times-more d.looks d.minute)),
    )
