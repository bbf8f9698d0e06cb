use Rattle.std.proofs.Common.{◌↔◌, All, IsTrue, take}
use Rattle.rep_fields.specs.Digits.{IsDigitByte}
use Rattle.afd_records.proofs.header_reading.all_digits.Given as goal

abbrev pub invariant-loop-byte : goal.invariant-loop-byte
invariant-loop-byte l = IsTrue l.all ↔ All IsDigitByte (take l.byte-index l.bytes)
