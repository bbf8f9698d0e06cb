use Rattle.std.proofs.Common.{◌↔◌, All, IsTrue, take}
use Rattle.rep_fields.specs.Latin.{IsLatin}
use Rattle.rep_fields.proofs.latin.all_latin.Given as goal

abbrev pub invariant-loop-byte : goal.invariant-loop-byte
invariant-loop-byte l = IsTrue l.all ↔ All IsLatin (take l.byte-index l.bytes)
