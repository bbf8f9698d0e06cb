use Rattle.std.proofs.Common.{arith}
use Rattle.afd_records.proofs.CrcTable.{remainders}
use Rattle.afd_records.proofs.checksum.remainder_of.Goals as goal

pub returns : goal.returns
returns c = remainders c.args.byte (omega arith)
