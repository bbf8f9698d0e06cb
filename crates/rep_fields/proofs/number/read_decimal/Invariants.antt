use Rattle.std.proofs.Common.{◌≡◌, ◌%◌}
use Rattle.rep_fields.proofs.Decimals.{shown}
use Rattle.rep_fields.proofs.number.read_decimal.Given as goal

abbrev pub invariant-loop-byte : goal.invariant-loop-byte
invariant-loop-byte l = l.value ≡ shown l.text l.byte-index % 18446744073709551616
