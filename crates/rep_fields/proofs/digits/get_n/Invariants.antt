use Rattle.rep_fields.proofs.Numerals.{IsRead}
use Rattle.rep_fields.proofs.digits.get_n.Given as goal

abbrev pub invariant-loop-byte : goal.invariant-loop-byte
invariant-loop-byte l = IsRead l.field l.byte-index l.value l.all_digits
