use Rattle.std.proofs.Common.{◌≡◌, ◌++◌, take, Some}
use Rattle.std.specs.Prelude.{filter, filter_map, slice_get}
use Rattle.tr_plan.specs.declared.link.Link.{Link}
use Rattle.tr_days.specs.Marks.{original_mark, is_in_period}
use Rattle.tr_days.proofs.listing.push_originals.Given as goal

abbrev pub invariant-loop-clocking : goal.invariant-loop-clocking
invariant-loop-clocking l = (row : Link) → slice_get l.plan.links l.link ≡ Some row
    → l.marks.items ≡ l.fn.marks.items
    ++ filter (is_in_period l.from l.to) (filter_map (original_mark l.plan l.link row) (take l.clocking-index l.clockings))
