use Rattle.std.proofs.Common.{◌≡◌, ℕ, length, take, drop, subst, arith}
use Rattle.std.specs.Prelude.{IfSome}
use Rattle.rep_journal.proofs.ScanLemmas.{none_read, scans_told}
use Rattle.rep_journal.proofs.recovery.read_piece.Goals as goal

pub returns-then-count-eq0-clause-scans : goal.returns-then-count-eq0-clause-scans
returns-then-count-eq0-clause-scans g c =
    let size : length c.read_at.new.into ≡ 65536 = omega arith in
    none_read (g.D.Disk.shown c.args.disk.now).contents c.args.list.now.frames c.read_at.new.into c.in-Ok.count (length c.read_at.new.into) c.end.result c.if-count-eq0.true (omega arith) c.end.ensures.end c.in-Ok.ensures.bytes.1

pub returns-in-Ok-take_frames-clause-scans : goal.returns-in-Ok-take_frames-clause-scans
returns-in-Ok-take_frames-clause-scans g c =
    let size : length c.read_at.new.into ≡ 65536 = omega arith in
    let within = c.in-Ok.ensures.bytes.0 in
    let told = subst (λ (n : ℕ). IfSome (g.D.Disk.shown c.args.disk.now).contents (λ bytes. take c.in-Ok.count c.read_at.new.into ≡ take n (drop c.end.result bytes))) size c.in-Ok.ensures.bytes.1 in
    scans_told (g.D.Disk.shown c.args.disk.now).contents c.args.list.now.frames c.take_frames.new.list.frames c.read_at.new.into c.in-Ok.count 65536 c.end.result c.in-Ok-take_frames.stop
    c.end.ensures.end (omega arith) size told c.in-Ok-take_frames.ensures
