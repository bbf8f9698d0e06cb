use Rattle.std.proofs.Common.{◌≡◌, ◌++◌, take}
use Rattle.std.specs.Prelude.{filter, filter_map}
use Rattle.std.specs.List.{enumerate_from}
use Rattle.tr_days.specs.Marks.{included_mark, is_in_period}
use Rattle.tr_days.proofs.listing.push_included.Given as goal

abbrev pub invariant-loop-place : goal.invariant-loop-place
invariant-loop-place l =
    l.marks.items ≡ l.fn.marks.items
    ++ filter (is_in_period l.from l.to) (filter_map (included_mark l.row) (take l.place (enumerate_from 0 l.plan.includes)))
