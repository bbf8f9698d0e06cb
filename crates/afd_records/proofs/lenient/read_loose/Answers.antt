use Rattle.afd_records.specs.Reading.{no_notes}
use Rattle.afd_records.proofs.LooseApart.{only_loose_answer}
use Rattle.afd_records.proofs.LooseStrict.{strict_is_loose}
use Rattle.afd_records.proofs.lenient.read_loose.Goals as goal

pub returns-clause-only : goal.returns-clause-only
returns-clause-only c nsr body hash notes is =
    only_loose_answer c.args.line.now c.read_loose_by_type.result c.read_loose_by_type.ensures.found
    c.read_loose_by_type.ensures.first nsr body hash notes is

pub returns-clause-printed : goal.returns-clause-printed
returns-clause-printed c nsr body hash is =
    only_loose_answer c.args.line.now c.read_loose_by_type.result c.read_loose_by_type.ensures.found
    c.read_loose_by_type.ensures.first nsr body hash no_notes (strict_is_loose nsr body hash c.args.line.now is)
