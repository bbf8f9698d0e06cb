use Rattle.std.proofs.Common.{◌≡◌, ℕ, length, take, drop, subst, arith}
use Rattle.std.specs.Prelude.{IfSome}
use Rattle.rep_journal.proofs.HeadLemmas.{head_told}
use Rattle.rep_journal.proofs.head.read_head.Goals as goal

pub returns-clause-head : goal.returns-clause-head
returns-clause-head g c =
    let size : length c.read_at.new.into ≡ 18 = omega arith in
    head_told (g.D.Disk.shown c.args.disk.now).contents (take c.in_ok-count.count c.read_at.new.into) c.judge.result
    (subst (λ (n : ℕ). IfSome (g.D.Disk.shown c.args.disk.now).contents (λ bytes. take c.in_ok-count.count c.read_at.new.into ≡ take n (drop 0 bytes))) size c.in_ok-count.ensures.bytes.1) c.judge.ensures
