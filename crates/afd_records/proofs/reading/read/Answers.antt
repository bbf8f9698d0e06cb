use Rattle.afd_records.proofs.Apart.{only_answer}
use Rattle.afd_records.proofs.reading.read.Goals as goal

pub returns-clause-only : goal.returns-clause-only
returns-clause-only c nsr body hash is =
    only_answer c.args.line.now c.read_by_type.result c.read_by_type.ensures.found c.read_by_type.ensures.first nsr body hash is
