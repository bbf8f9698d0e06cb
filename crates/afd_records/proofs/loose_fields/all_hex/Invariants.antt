use Rattle.std.proofs.Common.{◌↔◌, All, IsTrue, take}
use Rattle.afd_records.specs.Lenient.{IsHexDigit}
use Rattle.afd_records.proofs.loose_fields.all_hex.Given as goal

abbrev pub invariant-loop-byte : goal.invariant-loop-byte
invariant-loop-byte l = IsTrue l.all ↔ All IsHexDigit (take l.byte-index l.bytes)
