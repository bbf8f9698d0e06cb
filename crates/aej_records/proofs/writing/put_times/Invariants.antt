use Rattle.std.proofs.Common.{◌≡◌, ◌+◌, ◌*◌, ◌≤◌, ◌++◌, length, map, take}
use Rattle.rep_fields.specs.Moment.{hours_text}
use Rattle.aej_records.specs.Text.{behind_bars}
use Rattle.aej_records.proofs.writing.put_times.Given as goal

abbrev pub invariant-loop-minute : goal.invariant-loop-minute
invariant-loop-minute l =
    (l.row ≡ l.fn.row ++ behind_bars (map hours_text (take l.minute-index l.minute-items)))
    × (length l.row ≤ length l.fn.row + 5 * l.minute-index)
