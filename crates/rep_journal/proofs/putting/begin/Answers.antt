use Rattle.std.proofs.Common.{[], refl}
use Rattle.rep_journal.proofs.PutLemmas.{within_journal, err_only, ok_none, calls_within}
use Rattle.rep_journal.proofs.BlankLemmas.{begun, not_begun, first_put, first_text, fails_first, fails_next, made_is, create_calls, blank_later, both_ways}
use Rattle.rep_journal.proofs.putting.begin.Goals as goal

pub returns-in_err-write_blank-clause-contents : goal.returns-in_err-write_blank-clause-contents
returns-in_err-write_blank-clause-contents g c = ok_none c.from_residual.result _ c.from_residual.ensures.0

pub returns-in_err-write_blank-clause-fails : goal.returns-in_err-write_blank-clause-fails
returns-in_err-write_blank-clause-fails g c =
    err_only c.from_residual.result _ (fails_first c.args.first.now c.args.is_short (g.D.Disk.shown c.args.disk.now) (g.D.Disk.shown c.write_blank.new.disk) c.in_err-write_blank.ensures.contents c.in_err-write_blank.ensures.calls)

pub returns-in_err-write_blank-clause-crash : goal.returns-in_err-write_blank-clause-crash
returns-in_err-write_blank-clause-crash g c = not_begun c.args.first.now (g.D.Disk.shown c.args.disk.now) (g.D.Disk.shown c.write_blank.new.disk) c.write_blank.ensures.crash

pub append-requires-clause-within : goal.append-requires-clause-within
append-requires-clause-within g c =
    within_journal (g.D.Disk.shown c.write_blank.new.disk).contents [] (made_is (g.D.Disk.shown c.args.disk.now).contents (g.D.Disk.shown c.write_blank.new.disk).contents c.in_ok-write_blank.ensures.contents)

pub returns-clause-contents : goal.returns-clause-contents
returns-clause-contents g c =
    let made = c.in_ok-write_blank.ensures.contents in
    let stands = made_is (g.D.Disk.shown c.args.disk.now).contents (g.D.Disk.shown c.write_blank.new.disk).contents made in
    first_put c.args.first.now (g.D.Disk.shown c.args.disk.now) (g.D.Disk.shown c.write_blank.new.disk) (g.D.Disk.shown c.append.new.disk) c.append.result made
    (c.append.ensures.contents [] refl stands)

pub returns-clause-fails : goal.returns-clause-fails
returns-clause-fails g c =
    let made = c.in_ok-write_blank.ensures.contents in
    let stands = made_is (g.D.Disk.shown c.args.disk.now).contents (g.D.Disk.shown c.write_blank.new.disk).contents made in
    fails_next c.args.first.now c.args.is_short (g.D.Disk.shown c.args.disk.now) (g.D.Disk.shown c.write_blank.new.disk) (g.D.Disk.shown c.append.new.disk) c.append.result made c.in_ok-write_blank.ensures.calls
    (c.append.ensures.fails [] refl stands)

pub returns-clause-text : goal.returns-clause-text
returns-clause-text g c =
    let stands = made_is (g.D.Disk.shown c.args.disk.now).contents (g.D.Disk.shown c.write_blank.new.disk).contents c.in_ok-write_blank.ensures.contents in
    first_text c.args.first.now (g.D.Disk.shown c.args.disk.now) (g.D.Disk.shown c.write_blank.new.disk) (g.D.Disk.shown c.append.new.disk) c.append.result c.in_ok-write_blank.ensures.behind
    (c.append.ensures.text [] refl stands)

pub returns-clause-calls : goal.returns-clause-calls
returns-clause-calls g c = create_calls c.args.is_short (g.D.Disk.shown c.args.disk.now) (g.D.Disk.shown c.write_blank.new.disk) (g.D.Disk.shown c.append.new.disk) c.append.result c.in_ok-write_blank.ensures.calls c.append.ensures.calls

pub returns-clause-crash : goal.returns-clause-crash
returns-clause-crash g c =
    let made = c.in_ok-write_blank.ensures.contents in
    let calls = calls_within 4 (g.D.Disk.shown c.write_blank.new.disk) (g.D.Disk.shown c.append.new.disk) c.append.result c.append.ensures.calls in
    let later = blank_later c.args.is_short (g.D.Disk.shown c.args.disk.now) (g.D.Disk.shown c.write_blank.new.disk) c.in_ok-write_blank.ensures.calls in
    begun c.args.first.now (g.D.Disk.shown c.args.disk.now) (g.D.Disk.shown c.write_blank.new.disk) (g.D.Disk.shown c.append.new.disk) made c.in_ok-write_blank.ensures.rest c.write_blank.ensures.crash
    (c.append.ensures.crash [] refl (made_is (g.D.Disk.shown c.args.disk.now).contents (g.D.Disk.shown c.write_blank.new.disk).contents made)) later calls.0

pub returns-clause-own : goal.returns-clause-own
returns-clause-own g c = both_ways c.write_blank.ensures.own c.append.ensures.own
