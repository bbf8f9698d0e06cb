use Rattle.std.proofs.Common.{◌+◌, length, refl, ap}
use Rattle.rep_io.proofs.CutterLemmas.{PassesOver-of}
use Rattle.rep_io.proofs.lines.Lines.pass_over.Goals as goal

pub returns-then-self-gt0 : goal.returns-then-self-gt0
returns-then-self-gt0 g c =
    let s = c.self.inside in
    rw (← c.self.view_is)
    (PassesOver-of g.S.Source.left _ _ (rw (← c.self.view_is) at c.requires.no_end) refl refl refl
    (ap (λ n. s.passed + n) (ap length c.bytes-held.ensures.value)) c.clear.ensures)
