use Rattle.std.proofs.Common.{◌≡◌, ◌-◌, length, take, sym, ap, ◌∙◌, arith}
use Rattle.std.proofs.lemmas.List.{length-take-le}
use Rattle.rep_io.proofs.WindowLemmas.{take-filled, length-held}
use Rattle.rep_io.proofs.window.Window.fill.Goals as goal

pub returns-clause-bytes : goal.returns-clause-bytes
returns-clause-bytes g c =
    let s = c.self.inside in
    let read = c.in_ok-count.ensures.bytes in
    let held : length c.args.self.now ≡ s.end - s.start =
    ap length (sym c.self.view_is) ∙ length-held s.cells s.start s.end c.self.invariant in
    let copied = c.copy_within.ensures.after in
    let same = ap length (sym copied) ∙ c.copy_within.ensures.len in (
      take c.in_ok-count.count c.read.new.into,
      length-take-le _ c.read.new.into read.0,
      omega arith,
      rw copied (take-filled s.cells c.read.new.into c.args.self.now s.start s.end _ _ c.self.invariant c.self.view_is same read.0),
      read.1,
      λ none. read.2 none (omega arith),
    )
