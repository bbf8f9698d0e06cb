use Rattle.std.proofs.Common.{refl, arith}
use Rattle.afd_records.specs.File.{ended, head_text}
use Rattle.afd_extract.specs.declared.error.WriteFail.TheVariants.{SinkFault}
use Rattle.afd_extract.proofs.Counting.{counts-digits}
use Rattle.afd_extract.proofs.Fronts.{Puts-err, Puts-ok}
use Rattle.afd_extract.proofs.Whole.{PutsLines-failed, all_lines, end_text, few_lines, no_end, no_head, no_records}
use Rattle.afd_extract.proofs.writing.put_lines.Goals as goal

pub returns-then-is_err-clause-puts : goal.returns-then-is_err-clause-puts
returns-then-is_err-clause-puts g c =
    no_head c.args.head.now c.args.journal.now.frames c.args.range _ _ c.args.held.now _ c.put_head.new.held SinkFault
    (Puts-err _ _ c.args.held.now c.put_head.new.held (ended (head_text c.args.head.now)) c.put_head.result (cc) c.put_head.ensures.bytes)

pub returns-in_err-tally-clause-puts : goal.returns-in_err-tally-clause-puts
returns-in_err-tally-clause-puts g c =
    let frames = c.args.journal.now.frames in
    PutsLines-failed c.args.head.now frames c.args.range _ _ _ c.args.held.now c.put_frames.new.held _ c.from_residual.result c.from_residual.ensures.0
    (no_records c.args.head.now frames c.args.range _ _ c.args.held.now c.places_of-begin.result.0 c.places_of-begin.result.1
    (c.places_of-begin.ensures frames c.requires.range) _ c.put_head.new.held
    (Puts-ok _ _ c.args.held.now c.put_head.new.held (ended (head_text c.args.head.now)) c.put_head.result (cc) c.put_head.ensures.bytes)
    _ _ c.put_frames.new.held _ c.in_err-tally.ensures.puts)

pub put_end-requires : goal.put_end-requires
put_end-requires g c =
    let frames = c.args.journal.now.frames in
    let places = c.places_of-begin.ensures frames c.requires.range in
    let put = c.in_ok-tally.ensures.puts in
    counts-digits put.lines c.in_ok-tally.tally put.put.1
    (few_lines frames c.places_of-begin.result.0 c.places_of-begin.result.1 _ _ _ _ _ c.in_ok-tally.tally places.within
    (omega (arith, places.within, c.count-count.ensures.count, c.count-count.ensures.within)) put)

pub returns-then-is_err-2-clause-puts : goal.returns-then-is_err-2-clause-puts
returns-then-is_err-2-clause-puts g c =
    let frames = c.args.journal.now.frames in
    no_end c.args.head.now frames c.args.range _ _ c.args.held.now c.places_of-begin.result.0 c.places_of-begin.result.1
    (c.places_of-begin.ensures frames c.requires.range) _ c.put_head.new.held
    (Puts-ok _ _ c.args.held.now c.put_head.new.held (ended (head_text c.args.head.now)) c.put_head.result (cc) c.put_head.ensures.bytes)
    _ c.put_frames.new.held c.in_ok-tally.tally c.in_ok-tally.tally.counts refl c.in_ok-tally.ensures.puts _ c.put_end.new.held SinkFault
    (Puts-err _ _ c.put_frames.new.held c.put_end.new.held (end_text c.in_ok-tally.tally.counts) c.put_end.result (cc) c.put_end.ensures.bytes)

pub returns-clause-puts : goal.returns-clause-puts
returns-clause-puts g c =
    let frames = c.args.journal.now.frames in
    all_lines c.args.head.now frames c.args.range _ _ c.args.held.now c.places_of-begin.result.0 c.places_of-begin.result.1
    (c.places_of-begin.ensures frames c.requires.range) _ c.put_head.new.held
    (Puts-ok _ _ c.args.held.now c.put_head.new.held (ended (head_text c.args.head.now)) c.put_head.result (cc) c.put_head.ensures.bytes)
    _ c.put_frames.new.held c.in_ok-tally.tally c.in_ok-tally.tally.counts refl c.in_ok-tally.ensures.puts _ c.put_end.new.held _
    c.put_head.ensures.size c.put_end.ensures.size refl
    (Puts-ok _ _ c.put_frames.new.held c.put_end.new.held (end_text c.in_ok-tally.tally.counts) c.put_end.result (cc) c.put_end.ensures.bytes)
