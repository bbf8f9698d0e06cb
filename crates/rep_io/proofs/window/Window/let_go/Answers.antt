use Rattle.rep_io.proofs.WindowLemmas.{drop-held}
use Rattle.rep_io.proofs.window.Window.let_go.Goals as goal

pub returns : goal.returns
returns c = rw (← c.self.view_is) (drop-held _ _ _ _ c.self.invariant (rw (c.self.view_is) c.requires))
