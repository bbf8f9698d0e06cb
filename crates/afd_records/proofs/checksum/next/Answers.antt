use Rattle.std.proofs.Common.{◌/◌, ap, sym, ◌∙◌, arith}
use Rattle.std.specs.Prelude.{bit_xor}
use Rattle.afd_records.proofs.CrcTable.{crc_byte-low}
use Rattle.afd_records.proofs.checksum.next.Goals as goal

pub returns : goal.returns
returns c =
    ap (bit_xor (c.args.crc / 256)) c.remainder_of.ensures ∙ sym (crc_byte-low c.args.crc c.args.byte (omega arith))
