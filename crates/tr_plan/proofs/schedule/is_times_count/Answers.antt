use Rattle.std.proofs.Common.{◌≡◌, ◌%◌, ◌/◌, arith}
use Rattle.std.proofs.lemmas.Bool.Decides.{Decides-eqb}
use Rattle.tr_plan.proofs.schedule.is_times_count.Goals as goal

pub returns-then-count-le-MOST_TIMES : goal.returns-then-count-le-MOST_TIMES
returns-then-count-le-MOST_TIMES c = (
  λ even.
      let rest : c.args.count % 2 ≡ 0 = (Decides-eqb (c.args.count % 2) 0).0 even in
      record { pairs = c.args.count / 2; some = omega arith; few = omega arith; even = omega arith },
  λ is. (Decides-eqb (c.args.count % 2) 0).1 (omega (arith, is.even)),
)
