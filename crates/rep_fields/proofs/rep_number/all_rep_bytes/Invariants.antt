use Rattle.std.proofs.Common.{◌↔◌, All, IsTrue, take}
use Rattle.rep_fields.specs.Identity.{IsRepByte}
use Rattle.rep_fields.proofs.rep_number.all_rep_bytes.Given as goal

abbrev pub invariant-loop-byte : goal.invariant-loop-byte
invariant-loop-byte l = IsTrue l.all ↔ All IsRepByte (take l.byte-index l.text)
