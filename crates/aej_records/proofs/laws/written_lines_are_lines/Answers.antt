use Rattle.aej_records.proofs.Lines.{length-line_text, latin-line_text}
use Rattle.aej_records.proofs.laws.written_lines_are_lines.Goals as goal

pub returns : goal.returns
returns c = record { short = length-line_text; printable = latin-line_text }
