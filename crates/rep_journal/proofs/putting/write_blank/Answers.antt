use Rattle.std.proofs.Common.{arith}
use Rattle.rep_journal.proofs.PutLemmas.{calls_of, calls_within}
use Rattle.rep_journal.proofs.BlankLemmas.{written_blank, blank_written, blank_behind, blank_moments, blank_calls, long_becomes, long_behind, long_moments, short_of, long_of, if_long}
use Rattle.rep_journal.proofs.putting.write_blank.Goals as goal

pub returns-then-is_short-clause-contents : goal.returns-then-is_short-clause-contents
returns-then-is_short-clause-contents g c =
    blank_written (g.D.Disk.shown c.args.disk.now) (g.D.Disk.shown c.write_and_sync.new.disk) c.write_and_sync.result
    (short_of c.args.is_short (g.D.Disk.shown c.args.disk.now) c.if-is_short.true c.requires.blank) c.write_and_sync.ensures.writes

pub returns-then-is_short-clause-behind : goal.returns-then-is_short-clause-behind
returns-then-is_short-clause-behind g c =
    blank_behind (g.D.Disk.shown c.args.disk.now) (g.D.Disk.shown c.write_and_sync.new.disk) c.write_and_sync.result
    (short_of c.args.is_short (g.D.Disk.shown c.args.disk.now) c.if-is_short.true c.requires.blank) c.write_and_sync.ensures.writes

pub returns-then-is_short-clause-calls : goal.returns-then-is_short-clause-calls
returns-then-is_short-clause-calls g c = blank_calls c.args.is_short 0 written_blank (g.D.Disk.shown c.args.disk.now) (g.D.Disk.shown c.write_and_sync.new.disk) c.write_and_sync.result c.if-is_short.true c.write_and_sync.ensures.writes

pub returns-then-is_short-clause-crash : goal.returns-then-is_short-clause-crash
returns-then-is_short-clause-crash g c =
    let later = calls_within 2 (g.D.Disk.shown c.args.disk.now) (g.D.Disk.shown c.write_and_sync.new.disk) c.write_and_sync.result
    (calls_of 0 written_blank (g.D.Disk.shown c.args.disk.now) (g.D.Disk.shown c.write_and_sync.new.disk) c.write_and_sync.result c.write_and_sync.ensures.writes) in
    blank_moments (g.D.Disk.shown c.args.disk.now) (g.D.Disk.shown c.write_and_sync.new.disk)
    (short_of c.args.is_short (g.D.Disk.shown c.args.disk.now) c.if-is_short.true c.requires.blank) c.write_and_sync.ensures.crash later.0

pub returns-else-is_short-clause-contents : goal.returns-else-is_short-clause-contents
returns-else-is_short-clause-contents g c = long_becomes (g.D.Disk.shown c.args.disk.now).contents (long_of c.args.is_short (g.D.Disk.shown c.args.disk.now) c.if-is_short.false c.requires.blank)

pub returns-else-is_short-clause-behind : goal.returns-else-is_short-clause-behind
returns-else-is_short-clause-behind g c = long_behind (g.D.Disk.shown c.args.disk.now).contents

pub returns-else-is_short-clause-calls : goal.returns-else-is_short-clause-calls
returns-else-is_short-clause-calls g c = if_long c.args.is_short _ _ c.if-is_short.false (omega arith)

pub returns-else-is_short-clause-crash : goal.returns-else-is_short-clause-crash
returns-else-is_short-clause-crash g c = long_moments (g.D.Disk.shown c.args.disk.now) (long_of c.args.is_short (g.D.Disk.shown c.args.disk.now) c.if-is_short.false c.requires.blank)
