use Rattle.std.proofs.Common.{◌↔◌, All, IsTrue, take}
use Rattle.afd_records.specs.Line.{IsLowerHex}
use Rattle.afd_records.proofs.fields.all_lower_hex.Given as goal

abbrev pub invariant-loop-byte : goal.invariant-loop-byte
invariant-loop-byte l = IsTrue l.all ↔ All IsLowerHex (take l.byte-index l.bytes)
