use Rattle.std.proofs.Common.{◌≡◌, sym, ◌∙◌, subst}
use Rattle.aej_records.specs.Grammar.{ReadsAs}
use Rattle.aej_records.specs.Text.{line_text}
use Rattle.aej_records.proofs.Printed.{reads_as-line_text}
use Rattle.aej_records.proofs.writing.print.Goals as goal

pub returns-clause-reads : goal.returns-clause-reads
returns-clause-reads c = λ names no_bars.
    let line = c.args.line.now in
    let piece : c.in-Some.piece ≡ line_text line = c.in-Some.ensures.value ∙ c.bytes.ensures.value ∙ c.row_of.ensures.text in
    subst (λ text. ReadsAs text line) (sym piece)
    (reads_as-line_text line (record { in_range = c.row_of.ensures.in_range; names = names; no_bars = no_bars }))
