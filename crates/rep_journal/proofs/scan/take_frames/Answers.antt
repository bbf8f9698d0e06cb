use Rattle.std.proofs.Common.{◌≡◌, ◌++◌, [], ◌∷◌, List, ℕ, ap, sym, ◌∙◌, subst}
use Rattle.std.proofs.lemmas.List.{take_rest}
use Rattle.rep_journal.specs.Format.{Framed}
use Rattle.rep_journal.specs.Scan.{HasFrame, TakesTo}
use Rattle.rep_journal.proofs.ScanLemmas.{frame_within, takes_more}
use Rattle.rep_journal.proofs.scan.take_frames.Goals as goal

pub behind-rest-requires : goal.behind-rest-requires
behind-rest-requires c = frame_within c.loop-rest.rest.now c.in-Some.frame c.loop-rest.invariant.some c.if-rest.false (subst (λ (l : List ℕ). HasFrame l c.in-Some.frame) (take_rest c.loop-rest.rest.now 1) c.in-Some.ensures)

pub loop-rest-preserved : goal.loop-rest-preserved
loop-rest-preserved c =
    let frames : c.push.new.self.frames ≡ c.loop-rest.list.frames ++ c.in-Some.frame ∷ [] = c.push.ensures.frames ∙ ap (λ (l : List Framed). l ++ c.in-Some.frame ∷ []) c.in_ok-reserve.ensures.frames in
    subst (λ (new : List Framed). TakesTo c.args.piece.now c.args.list.now.frames new c.behind-rest.result.now) (sym frames)
    (subst (λ (rest : List ℕ). TakesTo c.args.piece.now c.args.list.now.frames (c.loop-rest.list.frames ++ c.in-Some.frame ∷ []) rest) (sym c.behind-rest.ensures)
    (takes_more c.loop-rest.rest.now c.in-Some.frame c.loop-rest.invariant.some c.if-rest.false (subst (λ (l : List ℕ). HasFrame l c.in-Some.frame) (take_rest c.loop-rest.rest.now 1) c.in-Some.ensures) c.args.piece.now c.args.list.now.frames c.loop-rest.list.frames c.loop-rest.invariant))
