use Rattle.std.proofs.Common.{◌≡◌, drop}
use Rattle.afd_records.specs.Checksum.{crc_from, crc_of}
use Rattle.afd_records.proofs.checksum.crc16.Given as goal

-- the bytes that are left take the remainder so far to that of all
abbrev pub invariant-loop-byte : goal.invariant-loop-byte
invariant-loop-byte l = crc_from l.crc (drop l.byte-index l.bytes) ≡ crc_of l.bytes
