use Rattle.std.proofs.Common.{◌≡◌, ◌+◌, ◌-◌, ℕ, take, drop, ap, arith}
use Rattle.rep_journal.proofs.ScanLemmas.{none_short, none_cut, reads_frame}
use Rattle.rep_journal.proofs.scan.read_frame.Goals as goal

pub returns-then-bytes-lt-HEAD_SIZE : goal.returns-then-bytes-lt-HEAD_SIZE
returns-then-bytes-lt-HEAD_SIZE c = none_short c.args.bytes.now c.if-bytes-lt-HEAD_SIZE.true

pub returns-then-bytes-size : goal.returns-then-bytes-size
returns-then-bytes-size c = none_cut c.args.bytes.now c.read_u16-size.result c.read_u16-size.type_inv c.read_u16-size.ensures c.if-bytes-size.true

pub returns : goal.returns
returns c =
    let size : 12 + c.read_u16-size.result - 12 ≡ c.read_u16-size.result = omega arith in
    reads_frame c.args.bytes.now c.read_u16-size.result c.read_u16-origin.result c.read_u64-seq.result (take (12 + c.read_u16-size.result - 12) (drop 12 c.args.bytes.now)) c.make.result
    c.read_u16-size.type_inv c.read_u16-origin.type_inv c.read_u64-seq.type_inv c.read_u16-size.ensures c.read_u16-origin.ensures c.read_u64-seq.ensures
    (ap (λ (n : ℕ). take n (drop 12 c.args.bytes.now)) size) (omega arith) c.make.ensures.made c.make.ensures.succeeds
