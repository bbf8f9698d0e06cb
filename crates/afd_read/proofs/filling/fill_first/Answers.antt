use Rattle.std.proofs.Common.{vec_len, sym, subst, arith}
use Rattle.std.proofs.lemmas.Bool.{iff_false}
use Rattle.afd_read.specs.Filling.{ShowsFirst}
use Rattle.afd_read.proofs.FillingLemmas.{HasFirst-more, taken_before, taken_early, taken_early-more}
use Rattle.afd_read.proofs.filling.fill_first.Goals as goal

pub loop-source-preserved : goal.loop-source-preserved
loop-source-preserved g c =
    HasFirst-more _ _ _ _ _ _ _ _ _ _ _ c.loop-source.invariant
    (λ shows. iff_false c.shows_first.ensures c.loop-source-test.true (subst ShowsFirst (sym c.deref.ensures.value) shows))
    c.in_ok-read_piece.ensures.more c.read_piece.ensures.size (c.in_ok-read_piece.ensures.no_fault (λ is. absurd cc))

pub returns-in_err-read_piece-clause-front : goal.returns-in_err-read_piece-clause-front
returns-in_err-read_piece-clause-front g c =
    let bytes = c.loop-source.bytes in
    let all = taken_before _ _ _ 0 (vec_len bytes) bytes.items c.loop-source.invariant.taken (omega (arith, bytes.ok.0))
    c.read_piece.ensures.front in
    (all.0, omega (arith, all.1), all.2)

pub returns-in_err-read_piece-clause-early : goal.returns-in_err-read_piece-clause-early
returns-in_err-read_piece-clause-early g c =
    taken_early-more _ _ _ _ _ _ _ c.loop-source.invariant
    (λ shows. iff_false c.shows_first.ensures c.loop-source-test.true (subst ShowsFirst (sym c.deref.ensures.value) shows))
    c.read_piece.ensures.few

pub returns-then-not-branch-clause-early : goal.returns-then-not-branch-clause-early
returns-then-not-branch-clause-early g c =
    taken_early-more _ _ _ _ _ _ _ c.loop-source.invariant
    (λ shows. iff_false c.shows_first.ensures c.loop-source-test.true (subst ShowsFirst (sym c.deref.ensures.value) shows))
    c.read_piece.ensures.few

pub returns-clause-early : goal.returns-clause-early
returns-clause-early g c = taken_early _ _ _ _ _ _ c.loop-source.invariant
