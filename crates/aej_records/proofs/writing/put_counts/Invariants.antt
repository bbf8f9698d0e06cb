use Rattle.std.proofs.Common.{◌≡◌, ◌+◌, ◌*◌, ◌≤◌, ◌++◌, length, map, take, decimal}
use Rattle.aej_records.specs.Text.{behind_bars}
use Rattle.aej_records.proofs.writing.put_counts.Given as goal

abbrev pub invariant-loop-count : goal.invariant-loop-count
invariant-loop-count l =
    (l.row ≡ l.fn.row ++ behind_bars (map decimal (take l.count-index l.counts)))
    × (length l.row ≤ length l.fn.row + 11 * l.count-index)
