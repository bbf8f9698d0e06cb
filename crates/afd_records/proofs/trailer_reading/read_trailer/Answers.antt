use Rattle.afd_records.proofs.TrailerParts.{only_trailer}
use Rattle.afd_records.proofs.trailer_reading.read_trailer.Goals as goal

pub returns-clause-only : goal.returns-clause-only
returns-clause-only c counts fits is =
    only_trailer c.args.line.now c.read_counts.result c.read_counts.ensures counts fits is
