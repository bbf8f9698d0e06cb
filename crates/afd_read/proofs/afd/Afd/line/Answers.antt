use Rattle.std.proofs.Common.{◌≡◌, length, ap, sym, ◌∙◌, arith}
use Rattle.rep_io.specs.Lines.{line_of}
use Rattle.afd_read.specs.Numbered.{run_at}
use Rattle.afd_read.proofs.AfdLemmas.{run_at_is, shown-short, shown-long}
use Rattle.afd_read.proofs.afd.Afd.line.Goals as goal

pub returns : goal.returns
returns c =
    let run = run_at c.args.self.now c.args.i in
    let line : c.without_end-line.result.now ≡ line_of run =
    c.without_end-line.ensures.line run (run_at_is c.args.self.now c.args.i c.requires) c.run.ensures in
    line ∙ sym (shown-short run (omega (arith, ap length line, c.if-line-gt-LONGEST_LINE.false)))

pub returns-then-line-gt-LONGEST_LINE : goal.returns-then-line-gt-LONGEST_LINE
returns-then-line-gt-LONGEST_LINE c =
    let run = run_at c.args.self.now c.args.i in
    let line : c.without_end-line.result.now ≡ line_of run =
    c.without_end-line.ensures.line run (run_at_is c.args.self.now c.args.i c.requires) c.run.ensures in
    sym (shown-long run (omega (arith, ap length line, c.if-line-gt-LONGEST_LINE.true)))
