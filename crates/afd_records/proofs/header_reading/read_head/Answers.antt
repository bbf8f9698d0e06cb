use Rattle.afd_records.proofs.HeadLines.{only_head_answer, printed_head_answer}
use Rattle.afd_records.proofs.header_reading.read_head.Goals as goal

pub returns-clause-only : goal.returns-clause-only
returns-clause-only c head notes is =
    only_head_answer c.args.line.now c.read_laid_out.result c.read_laid_out.ensures.found c.read_laid_out.ensures.first
    head notes is

pub returns-clause-printed : goal.returns-clause-printed
returns-clause-printed c head in_range has_text is =
    printed_head_answer c.args.line.now c.read_laid_out.result c.read_laid_out.ensures.found
    c.read_laid_out.ensures.first head in_range has_text is
