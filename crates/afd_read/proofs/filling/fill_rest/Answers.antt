use Rattle.std.proofs.Common.{length, vec_len, ap, arith, length-append}
use Rattle.afd_read.proofs.FillingLemmas.{past_limit, taken_all, taken_before}
use Rattle.afd_read.proofs.filling.fill_rest.Goals as goal

pub returns-in_err-read_piece-clause-front : goal.returns-in_err-read_piece-clause-front
returns-in_err-read_piece-clause-front g c =
    let old = c.args.bytes.now in
    let bytes = c.loop-bytes.bytes in
    let filled = c.loop-bytes.invariant.filled in
    taken_before _ _ _ (vec_len old) (vec_len bytes) filled.bytes filled.taken
    (omega (arith, old.ok.0, bytes.ok.0, ap length filled.appended, length-append old.items filled.bytes))
    c.read_piece.ensures.front

pub returns-then-len-gt-LONGEST_TEXT-clause-limit : goal.returns-then-len-gt-LONGEST_TEXT-clause-limit
returns-then-len-gt-LONGEST_TEXT-clause-limit g c _ =
    past_limit _ _ _ _ _ _ _ _ _ c.loop-bytes.invariant.filled c.in_ok-read_piece.ensures.more
    (omega (arith, c.read_piece.new.bytes.ok.0, c.len.ensures, c.if-len-gt-LONGEST_TEXT.true))

pub returns-then-len-gt-LONGEST_TEXT-clause-front : goal.returns-then-len-gt-LONGEST_TEXT-clause-front
returns-then-len-gt-LONGEST_TEXT-clause-front g c =
    taken_all _ _ _ _ _ (vec_len c.args.bytes.now) _ _ _ _ c.loop-bytes.invariant.filled
    c.in_ok-read_piece.ensures.more (omega (arith, c.args.bytes.now.ok.0))

pub returns-clause-front : goal.returns-clause-front
returns-clause-front g c =
    taken_all _ _ _ _ _ (vec_len c.args.bytes.now) _ _ _ _ c.loop-bytes.invariant.filled
    c.in_ok-read_piece.ensures.more (omega (arith, c.args.bytes.now.ok.0))
