use Rattle.afd_records.proofs.LooseStrict.{strict_is_loose, printed_head_is_loose}
use Rattle.afd_records.proofs.lenient_laws.what_is_written_reads_leniently.Goals as goal

pub returns : goal.returns
returns c = record { records = strict_is_loose; heads = printed_head_is_loose }
