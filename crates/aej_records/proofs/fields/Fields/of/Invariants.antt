use Rattle.std.proofs.Common.{◌≡◌, ◌≤◌, ◌-◌, ◌++◌, length, map, take}
use Rattle.std.specs.Option.{option_copied}
use Rattle.aej_records.specs.Fields.{fields_of, fields_behind}
use Rattle.aej_records.proofs.fields.Fields.of.Given as goal

abbrev pub invariant-loop-count : goal.invariant-loop-count
invariant-loop-count l =
    (length l.texts ≡ 24) × (l.count ≤ 24)
    × (fields_of l.fn.line ≡ take l.count (map (λ t. t.now) l.texts) ++ fields_behind (option_copied l.rest))

abbrev pub decreases-loop-count : goal.decreases-loop-count
decreases-loop-count l = 24 - l.count
