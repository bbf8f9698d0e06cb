use Rattle.std.proofs.Common.{◌≡◌, ◌+◌, ◌*◌, ◌++◌, length, take}
use Rattle.std.specs.Prelude.{codes}
use Rattle.std.specs.List.{flat_map}
use Rattle.rep_fields.specs.Digits.{numeral}
use Rattle.afd_records.proofs.trailer.print_trailer.Given as goal

-- the counts so far stand behind the nine nines
abbrev pub invariant-loop-count : goal.invariant-loop-count
invariant-loop-count l = record {
  so_far : l.row ≡ codes "999999999" ++ flat_map (numeral 9) (take l.count-index l.trailer.counts);
  size : length l.row ≡ 9 + 9 * l.count-index;
}
